use Rattle.std.proofs.Common.{◌≡◌, ◌<◌, sym, ap, subst, arith, ◌∙◌}
use Rattle.unit_draws.specs.declared.view.DrawSizes.{DrawSizes}
use Rattle.unit_draws.specs.Windows.{window_count}
use Rattle.unit_draws.specs.Seats.{occurrences, DrawsView, SeatView}
use Rattle.unit_draws.proofs.LeastSteps.{rule_draw}
use Rattle.unit_draws.proofs.draws.Draws.draw.Goals as goal

pub fetch_add-found-requires : goal.fetch_add-found-requires
fetch_add-found-requires g c =
    let me = c.seat.inside.seat.me in
    let draws = c.self.inside in
    let sizes : draws.sizes ≡ c.args.self.now.sizes = ap (λ (d : DrawsView). d.sizes) c.self.view_is in
    let window : c.args.window < window_count draws.sizes.units = subst (λ (s : DrawSizes). c.args.window < window_count s.units) (sym sizes) c.requires.window in
    let open_window : occurrences c.args.window me.0.ended ≡ 0 = ap (λ (s : SeatView). occurrences c.args.window s.knows.ended) c.seat.view_is ∙ c.requires.«open» in
    let words = c.self.invariant.1 in (
      ap (λ (s : SeatView). s.table) c.seat.view_is ∙ (c.requires.of.table ∙ sym (ap (λ (d : DrawsView). d.table) c.self.view_is)),
      omega (arith, window, words),
      rule_draw g.U.RefusedUnits.refuses draws.table.shared.key draws.table.shared.table_id.slots c.seat.inside.seat.id me.0 me.1 c.args.window c.seat.invariant.some
          (subst (λ (s : DrawSizes). c.args.window < window_count s.units) (sym c.self.invariant.0) window) open_window,
    )
