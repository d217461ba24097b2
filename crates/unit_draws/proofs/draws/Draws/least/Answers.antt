use Rattle.std.proofs.Common.{◌≡◌, ◌+◌, ◌<◌, ℕ, sym, ap, subst, arith, ◌∙◌}
use mathlib.Core.Option.{none}
use Rattle.atomic_table.specs.Table.{Allows, step}
use Rattle.unit_draws.specs.declared.view.DrawSizes.{DrawSizes}
use Rattle.unit_draws.specs.Rule.{RuleHolds, TellsLeast}
use Rattle.unit_draws.specs.Windows.{window_count}
use Rattle.unit_draws.specs.Seats.{DrawsView, SeatView}
use Rattle.unit_draws.proofs.LeastSteps.{rule_least}
use Rattle.unit_draws.proofs.draws.Draws.least.Goals as goal

pub load-least-requires : goal.load-least-requires
load-least-requires g c =
    let refuses = g.U.RefusedUnits.refuses in
    let me = c.seat.inside.seat.me in
    let draws = c.self.inside in
    let key = draws.table.shared.key in
    let slots : ℕ = draws.table.shared.table_id.slots in
    let window : ℕ = c.args.window in
    let sizes : draws.sizes ≡ c.args.self.now.sizes = ap (λ (d : DrawsView). d.sizes) c.self.view_is in
    let inside : window < window_count key.sizes.units = subst (λ (s : DrawSizes). window < window_count s.units) (sym (c.self.invariant.0 ∙ sizes)) c.requires.window in
    let count : window_count key.sizes.units ≡ c.count_windows.result = ap (λ (s : DrawSizes). window_count s.units) c.self.invariant.0 ∙ sym c.count_windows.ensures in
    let word : window_count key.sizes.units + window ≡ c.count_windows.result + window = ap (λ (n : ℕ). n + window) count in
    let words = c.self.invariant.1 in
    let same : window_count draws.sizes.units ≡ c.count_windows.result = sym c.count_windows.ensures in (
      ap (λ (s : SeatView). s.table) c.seat.view_is ∙ (c.requires.of.table ∙ sym (ap (λ (d : DrawsView). d.table) c.self.view_is)),
      omega (arith, words, same, count, inside),
      subst (λ (p : ℕ). Allows (RuleHolds refuses key) slots c.seat.inside.seat.id me p (λ n. n) (TellsLeast refuses (step slots p 0 0 none) me)) word
          (rule_least refuses key slots c.seat.inside.seat.id me.0 me.1 window c.seat.invariant.some inside),
    )
