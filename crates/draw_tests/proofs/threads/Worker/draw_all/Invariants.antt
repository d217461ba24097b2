use Rattle.std.proofs.Common.{◌≡◌, ◌≤◌, ℕ}
use Rattle.unit_draws.specs.Seats.{occurrences, IsSeatOf}
use Rattle.draw_tests.proofs.threads.Worker.draw_all.Given as goal

abbrev pub invariant-loop-window : goal.invariant-loop-window
invariant-loop-window l = IsSeatOf l.draws l.self.seat × ((w : ℕ) → l.window ≤ w → occurrences w l.self.seat.knows.ended ≡ 0)
