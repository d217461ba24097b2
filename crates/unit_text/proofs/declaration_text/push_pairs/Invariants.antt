use Rattle.std.proofs.Common.{List, ℕ, length, Result}
use Rattle.std.specs.declared.alloc.AllocError.{AllocError}
use Rattle.dw_text.specs.Added.{Adds}
use Rattle.unit_text.specs.Declarations.{pairs_text}
use Rattle.unit_text.proofs.declaration_text.push_pairs.Given as goal

abbrev pub invariant-loop-pair : goal.invariant-loop-pair
invariant-loop-pair l = (r : Result (Unit {0}) AllocError) (new : List ℕ) → Adds r l.out.items new (pairs_text l.attrs) → Adds r l.fn.out.items new (pairs_text l.fn.attrs)

abbrev pub decreases-loop-pair : goal.decreases-loop-pair
decreases-loop-pair l = length l.attrs
