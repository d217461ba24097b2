use Rattle.std.proofs.Common.{◌≡◌, ◌-◌, ◌*◌, ◌≤◌, ◌++◌, length}
use Rattle.unit_headers.specs.declared.chain.TheConstants.{UNIT_LIMIT}
use Rattle.unit_headers.specs.Links.{links_from, unit_chain}
use Rattle.unit_headers.proofs.chain.read_links.Given as goal

abbrev pub invariant-chain : goal.invariant-chain
invariant-chain l = record {
  counted : l.number ≤ UNIT_LIMIT;
  forward : 4 * l.number ≤ l.place;
  inside : l.place ≤ length l.info;
  followed : l.links.items ++ links_from (length l.info - l.number) l.info l.order l.number l.place ≡ unit_chain l.info l.order;
}

abbrev pub decreases-chain : goal.decreases-chain
decreases-chain l = length l.info - l.place
