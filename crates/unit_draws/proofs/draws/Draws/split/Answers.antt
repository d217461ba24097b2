use Rattle.std.proofs.Common.{◌<◌, ℕ, sym, ap, subst, ◌∙◌, arith}
use Rattle.unit_draws.specs.Seats.{DrawsView, SeatView}
use Rattle.unit_draws.proofs.LeastSteps.{rule_splits}
use Rattle.unit_draws.proofs.draws.Draws.split.Goals as goal

pub split_seat-new-requires : goal.split_seat-new-requires
split_seat-new-requires g c = (
  ap (λ (s : SeatView). s.table) c.seat.view_is ∙ (c.requires.of.table ∙ sym (ap (λ (d : DrawsView). d.table) c.self.view_is)),
  subst (λ (n : ℕ). 0 < n) (sym c.self.invariant.1) (omega arith),
  rule_splits g.U.RefusedUnits.refuses c.self.inside.table.shared.key c.seat.inside.seat.id c.seat.inside.seat.me.0 c.seat.invariant.some (subst (λ (s : SeatView). 0 < s.knows.spare) (sym c.seat.view_is) c.requires.spare),
)
