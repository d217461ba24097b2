use Rattle.std.proofs.Common.{◌≡◌, ◌<◌, ◌-◌, drop, length}
use Rattle.unit_draws.specs.Seats.{occurrences}
use Rattle.dump_workers.specs.Readings.{units_read}
use Rattle.dump_workers.proofs.printing.find_reading.Given as goal

-- none of the readings so far is of the unit, so one is left
abbrev pub invariant-readings : goal.invariant-readings
invariant-readings l = record {
  none : occurrences l.unit (units_read (drop l.place l.readings)) ≡ occurrences l.unit (units_read l.readings);
  inside : l.place < length l.readings;
}

abbrev pub decreases-readings : goal.decreases-readings
decreases-readings l = length l.readings - l.place
