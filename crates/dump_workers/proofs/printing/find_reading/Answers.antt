use Rattle.std.proofs.Common.{refl, sym, ap, ◌≡◌, ◌∙◌, ◌+◌, drop}
use Rattle.unit_draws.specs.Seats.{occurrences}
use Rattle.dump_workers.specs.declared.reading.Reading.{Reading}
use Rattle.dump_workers.specs.Readings.{units_read}
use Rattle.dump_workers.proofs.PrintLemmas.{one_left, passed_over}
use Rattle.dump_workers.proofs.printing.find_reading.Goals as goal

pub readings-init : goal.readings-init
readings-init c = record { none = refl; inside = one_left c.args.unit c.args.readings.now 0 c.requires.some refl }

pub readings-preserved : goal.readings-preserved
readings-preserved c =
    let rs = c.args.readings.now in
    let r : Reading = c.index-readings-place.result in
    let none : occurrences c.args.unit (units_read (drop (c.readings.place + 1) rs)) ≡ occurrences c.args.unit (units_read rs) =
    passed_over c.args.unit rs c.readings.place (occurrences c.args.unit (units_read rs)) r c.readings.invariant.inside c.index-readings-place.is
    (λ e. c.readings-test.true (sym (ap (λ (x : Reading). x.unit) c.index-readings-place.is) ∙ e)) c.readings.invariant.none in
    record { none = none; inside = one_left c.args.unit rs (c.readings.place + 1) c.requires.some none }
