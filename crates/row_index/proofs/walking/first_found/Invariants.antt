use Rattle.std.proofs.Common.{◌≡◌, map, drop}
use Rattle.row_index.specs.Rows.{found_from, found_in}
use Rattle.row_index.proofs.walking.first_found.Given as goal

abbrev pub invariant-loop-unit : goal.invariant-loop-unit
invariant-loop-unit l = found_from l.unit (drop l.unit (map (λ u. u.items) l.units)) l.address ≡ found_in (map (λ u. u.items) l.units) l.address
