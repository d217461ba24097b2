use Rattle.std.proofs.Common.{ℕ, List, drop, map, Result}
use Rattle.unit_headers.specs.declared.refusal.UnitRefusal.{UnitRefusal}
use Rattle.range_lists.specs.declared.locations.Location.{Location}
use Rattle.unit_text.specs.Pieces.{Puts, texts_of}
use Rattle.range_lists.specs.Locations.{location_view}
use Rattle.unit_text.specs.Lists.{location_line}
use Rattle.unit_text.proofs.lists.put_location_lines.Given as goal

-- whatever appends the texts that are left makes the whole append all of them
abbrev pub invariant-loop-location : goal.invariant-loop-location
invariant-loop-location l = (r : Result (Unit {0}) UnitRefusal) (new : List ℕ) →
    Puts r l.out.items new (texts_of (λ (x : Location). location_line (location_view x)) (drop l.location-index l.locations)) →
    Puts r l.fn.out.items new (texts_of location_line (map location_view l.locations))
