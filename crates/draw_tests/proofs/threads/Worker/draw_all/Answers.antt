use Rattle.std.proofs.Common.{◌≡◌, ◌+◌, ◌≤◌, ℕ, List, [], ◌∷◌, ◌++◌, ap, ◌∙◌, arith}
use Rattle.unit_draws.specs.Seats.{occurrences}
use Rattle.unit_draws.proofs.Occurrences.{occurrences-nil, occurrences-append, occurrences_other}
use Rattle.draw_tests.proofs.threads.Worker.draw_all.Goals as goal

above_next : (k : ℕ) (ended : List ℕ) → ((w : ℕ) → k ≤ w → occurrences w ended ≡ 0) → (w : ℕ) → k + 1 ≤ w → occurrences w (ended ++ k ∷ []) ≡ 0
above_next k ended above w high =
    let add = occurrences-append w ended (k ∷ []) in
    let other = occurrences_other w k (λ e. omega arith) in
    let none_before = above w (omega arith) in omega arith

pub loop-window-init : goal.loop-window-init
loop-window-init c = (c.requires.of, (λ w high. ap (occurrences w) c.requires.«open» ∙ occurrences-nil w))

pub loop-window-preserved : goal.loop-window-preserved
loop-window-preserved c = (
  c.draw_window.ensures.of,
  (λ w high. ap (occurrences w) c.in_ok-draw_window.ensures.ended ∙ above_next c.loop-window.window c.loop-window.self.seat.knows.ended c.loop-window.invariant.1 w high),
)
