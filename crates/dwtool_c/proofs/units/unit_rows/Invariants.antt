use Rattle.std.proofs.Common.{◌≡◌, ◌-◌}
use Rattle.unit_headers.specs.Headers.{header_at}
use Rattle.dwtool_c.specs.Units.{units_in, units_told}
use Rattle.dwtool_c.proofs.UnitRows.{ahead}
use Rattle.dwtool_c.proofs.units.unit_rows.Given as goal

-- the rows so far, and what is told from this unit on, are what is told of all units
abbrev pub invariant-loop-unit : goal.invariant-loop-unit
invariant-loop-unit l =
    units_in l.index ≡ ahead l.rows.items (units_told (header_at l.index.info l.index.order l.index.abbrev_length) l.unit (l.unit-end - l.unit))
