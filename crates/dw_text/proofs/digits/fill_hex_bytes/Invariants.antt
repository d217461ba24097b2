use Rattle.std.proofs.Common.{◌+◌, ◌*◌, ◌++◌, ◌≡◌, ◌≤◌, drop, length}
use Rattle.dw_text.specs.Bytes.{hex_bytes}
use Rattle.dw_text.proofs.digits.fill_hex_bytes.Given as goal

abbrev pub invariant-loop-left : goal.invariant-loop-left
invariant-loop-left l = record {
  within : l.left ≤ length l.bytes;
  place : l.first + 2 * length l.bytes ≡ l.end + 2 * l.left;
  text : drop l.first l.into ≡ hex_bytes (drop l.left l.bytes) ++ drop l.end l.fn.into;
}

abbrev pub decreases-loop-left : goal.decreases-loop-left
decreases-loop-left l = l.left
