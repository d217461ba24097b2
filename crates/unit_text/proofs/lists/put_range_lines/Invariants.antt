use Rattle.std.proofs.Common.{ℕ, List, drop, Result}
use Rattle.unit_headers.specs.declared.refusal.UnitRefusal.{UnitRefusal}
use Rattle.unit_text.specs.Pieces.{Puts, texts_of}
use Rattle.unit_text.specs.Lists.{range_line}
use Rattle.unit_text.proofs.lists.put_range_lines.Given as goal

-- whatever appends the texts that are left makes the whole append all of them
abbrev pub invariant-loop-range : goal.invariant-loop-range
invariant-loop-range l = (r : Result (Unit {0}) UnitRefusal) (new : List ℕ) →
    Puts r l.out.items new (texts_of (range_line) (drop l.range-index l.ranges)) →
    Puts r l.fn.out.items new (texts_of range_line l.ranges)
