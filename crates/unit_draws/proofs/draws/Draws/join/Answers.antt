use Rattle.std.proofs.Common.{◌≡◌, ◌≢◌, ◌<◌, ℕ, List, ◌++◌, length, sym, ap, subst, ◌∙◌, arith, length-append}
use Rattle.unit_draws.specs.declared.view.DrawView.{DrawView}
use Rattle.unit_draws.specs.Seats.{DrawsView, SeatView}
use Rattle.unit_draws.proofs.LeastSteps.{rule_joins, rule_load}
use Rattle.unit_draws.proofs.draws.Draws.join.Goals as goal

pub join_seat-requires : goal.join_seat-requires
join_seat-requires g c =
    let v : DrawView = c.into.inside.seat.me.0 in
    let u : DrawView = c.from.inside.seat.me.0 in
    let not_first : u.number ≢ 0 = λ e. c.requires.number (sym (ap (λ (s : SeatView). s.knows.number) c.from.view_is) ∙ e) in (
      ap (λ (s : SeatView). s.table) c.into.view_is ∙ (c.requires.of.table ∙ sym (ap (λ (d : DrawsView). d.table) c.self.view_is)),
      ap (λ (s : SeatView). s.table) c.from.view_is ∙ (c.requires.also.table ∙ sym (ap (λ (d : DrawsView). d.table) c.self.view_is)),
      c.from.invariant.slots,
      subst (λ (n : ℕ). 0 < n) (sym c.self.invariant.1) (omega arith),
      rule_joins g.U.RefusedUnits.refuses c.self.inside.table.shared.key c.into.inside.seat.id c.from.inside.seat.id v u c.into.invariant.some c.from.invariant.some not_first,
    )

pub load-requires : goal.load-requires
load-requires g c =
    let m = c.join_seat.new.seat.me in
    let v : DrawView = c.into.inside.seat.me.0 in
    let u : DrawView = c.from.inside.seat.me.0 in
    let numbers : m.0.numbers ≡ v.numbers ++ u.numbers = ap (λ x. x.0.numbers) c.join_seat.ensures.2 in (
      c.join_seat.ensures.0 ∙ (ap (λ (s : SeatView). s.table) c.into.view_is ∙ (c.requires.of.table ∙ sym (ap (λ (d : DrawsView). d.table) c.self.view_is))),
      subst (λ (n : ℕ). 0 < n) (sym c.self.invariant.1) (omega arith),
      rule_load g.U.RefusedUnits.refuses c.self.inside.table.shared.key c.self.inside.table.shared.table_id.slots c.join_seat.new.seat.id m.0 m.1 (let some = c.into.invariant.some in let add = length-append v.numbers u.numbers in let long = ap (λ (ns : List ℕ). length ns) numbers in omega arith),
    )
