use Rattle.std.proofs.Common.{◌≡◌, ◌-◌}
use Rattle.unit_headers.specs.Headers.{unit_count}
use Rattle.dw_run.specs.CommandTexts.{units_printed}
use Rattle.dwtool_c.specs.Texts.{unit_text}
use Rattle.dwtool_c.proofs.SoFar.{SoFar}
use Rattle.dwtool_c.proofs.texts.put_units.Given as goal

abbrev pub invariant-units : goal.invariant-units
invariant-units l = record {
  same : l.units ≡ l.fn.units;
  so_far : SoFar (units_printed (unit_text l.command l.fn.units) 0 (unit_count l.fn.units.info l.fn.units.order))
      (units_printed (unit_text l.command l.fn.units) l.unit (l.unit-end - l.unit)) l.fn.out l.out l.size;
}
