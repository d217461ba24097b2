use Rattle.std.proofs.Common.{rules, ◌-◌, ◌+◌, arith, length}
use Rattle.unit_headers.proofs.ChainSteps.{chain_begins, chain_breaks, chain_ends, chain_next}
use Rattle.unit_headers.proofs.chain.read_links.Goals as goal

pub chain-init : goal.chain-init
chain-init c = record {
  counted = omega arith;
  forward = omega arith;
  inside = omega arith;
  followed = chain_begins c.args.info.now c.args.order (length c.args.info.now - 0) c.new-links.result.items (omega arith) c.new-links.ensures.items;
}

pub chain-preserved : goal.chain-preserved
chain-preserved c = record {
  counted = omega (arith, c.in-Whole.ensures.leads);
  forward = omega (arith, c.in-Whole.ensures.leads);
  inside = omega (arith, c.in-Whole.ensures.leads);
  followed = chain_next c.args.info.now c.args.order (length c.args.info.now - c.chain.number) (length c.args.info.now - (c.chain.number + 1)) c.chain.number c.chain.place
      _ _ _ _ c.chain.links.items _ _ (omega arith) (omega arith) c.in-Whole.ensures.link (search rules) c.chain.invariant.followed;
}

pub returns-in-Broken : goal.returns-in-Broken
returns-in-Broken c =
    chain_breaks c.args.info.now c.args.order (length c.args.info.now - c.chain.number) (length c.args.info.now - (c.chain.number + 1)) c.chain.number c.chain.place
    _ c.chain.links.items _ _ (omega arith) (omega arith) c.in-Broken.ensures.link (search rules) c.chain.invariant.followed

pub returns : goal.returns
returns c = chain_ends c.args.info.now c.args.order (length c.args.info.now - c.chain.number) c.chain.number c.chain.place c.chain.links.items _ (omega arith) c.chain.invariant.followed
