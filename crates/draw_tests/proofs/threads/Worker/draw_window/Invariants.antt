use Rattle.std.proofs.Common.{◌≡◌}
use Rattle.unit_draws.specs.Seats.{IsSeatOf, places_ahead}
use Rattle.draw_tests.proofs.threads.Worker.draw_window.Given as goal

abbrev pub invariant-loop-unit : goal.invariant-loop-unit
invariant-loop-unit l = IsSeatOf l.draws l.self.seat × (l.self.seat.knows.ended ≡ l.fn.self.seat.knows.ended)

abbrev pub decreases-loop-unit : goal.decreases-loop-unit
decreases-loop-unit l = places_ahead l.window l.self.seat.knows
