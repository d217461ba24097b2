use Rattle.std.proofs.Common.{List, ℕ, length, ◌-◌, ◌≤◌, drop}
use Rattle.std.specs.Prelude.{Result}
use Rattle.std.specs.declared.alloc.AllocError.{AllocError}
use Rattle.dw_text.specs.Added.{Adds}
use Rattle.dw_text.specs.Escapes.{escaped}
use Rattle.dw_text.proofs.escapes.push_escaped.Given as goal

abbrev pub invariant-loop-done : goal.invariant-loop-done
invariant-loop-done l = record {
  within : l.done ≤ length l.text;
  later : (r : Result (Unit {0}) AllocError) (new : List ℕ) → Adds r l.out.items new (escaped (drop l.done l.text)) → Adds r l.fn.out.items new (escaped l.text);
}

abbrev pub decreases-loop-done : goal.decreases-loop-done
decreases-loop-done l = length l.text - l.done
