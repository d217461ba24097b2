use Rattle.std.proofs.Common.{List, ℕ, length}
use Rattle.std.specs.Prelude.{Result}
use Rattle.std.specs.declared.alloc.AllocError.{AllocError}
use Rattle.dw_text.specs.Added.{Adds}
use Rattle.dw_text.specs.Bytes.{hex_bytes}
use Rattle.dw_text.proofs.bytes.push_hex_bytes.Given as goal

abbrev pub invariant-loop-rest : goal.invariant-loop-rest
invariant-loop-rest l = (r : Result (Unit {0}) AllocError) (new : List ℕ) → Adds r l.out.items new (hex_bytes l.rest) → Adds r l.fn.out.items new (hex_bytes l.bytes)

abbrev pub decreases-loop-rest : goal.decreases-loop-rest
decreases-loop-rest l = length l.rest
