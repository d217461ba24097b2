use Rattle.std.proofs.Common.{◌≡◌, ◌+◌, ◌*◌, ◌/◌, ◌%◌, ◌<◌, ℕ, min, List, sym, ap, subst, arith, ◌∙◌}
use mathlib.Core.Option.{none}
use Rattle.atomic_table.specs.Table.{Allows, step}
use Rattle.unit_draws.specs.declared.view.DrawSizes.{DrawSizes}
use Rattle.unit_draws.specs.Rule.{LowersUnit, RuleHolds}
use Rattle.unit_draws.specs.Windows.{window_count, window_length}
use Rattle.unit_draws.specs.Seats.{DrawsView, SeatView}
use Rattle.unit_draws.proofs.LeastSteps.{rule_lower}
use Rattle.unit_draws.proofs.draws.Draws.lower.Goals as goal

pub fetch_min-requires : goal.fetch_min-requires
fetch_min-requires g c =
    let refuses = g.U.RefusedUnits.refuses in
    let me = c.seat.inside.seat.me in
    let draws = c.self.inside in
    let key = draws.table.shared.key in
    let slots : ℕ = draws.table.shared.table_id.slots in
    let unit : ℕ = c.args.unit in
    let sizes : draws.sizes ≡ c.args.self.now.sizes = ap (λ (d : DrawsView). d.sizes) c.self.view_is in
    let units : key.sizes.units ≡ c.args.self.now.sizes.units = ap (λ (s : DrawSizes). s.units) (c.self.invariant.0 ∙ sizes) in
    let counted : unit < key.sizes.units = subst (λ (n : ℕ). unit < n) (sym units) c.requires.counted in
    let inside : unit / 256 < window_count key.sizes.units = omega (arith, counted) in
    let small : unit % 256 < window_length key.sizes.units (unit / 256) = omega (arith, counted) in
    let whole : unit ≡ 256 * (unit / 256) + unit % 256 = omega arith in
    let mark : c.args.self.now.tag ≡ key.tag.numbers = sym (ap (λ (d : DrawsView). d.tag) c.self.view_is) in
    let refused : refuses key.tag.numbers (256 * (unit / 256) + unit % 256) = subst (λ (p : List ℕ × ℕ). refuses p.0 p.1) (λ i. (mark i, whole i)) c.requires.refused in
    let count : window_count key.sizes.units ≡ c.count_windows.result = ap (λ (s : DrawSizes). window_count s.units) c.self.invariant.0 ∙ sym c.count_windows.ensures in
    let word : window_count key.sizes.units + unit / 256 ≡ c.count_windows.result + unit / 256 = ap (λ (n : ℕ). n + unit / 256) count in
    let words = c.self.invariant.1 in
    let same : window_count draws.sizes.units ≡ c.count_windows.result = sym c.count_windows.ensures in (
      ap (λ (s : SeatView). s.table) c.seat.view_is ∙ (c.requires.of.table ∙ sym (ap (λ (d : DrawsView). d.table) c.self.view_is)),
      omega (arith, words, same, count, inside),
      subst (λ (p : ℕ × ℕ). Allows (RuleHolds refuses key) slots c.seat.inside.seat.id me p.0 (λ n. min n p.1) (LowersUnit (step slots p.0 p.1 0 none) me))
          (λ i. (word i, sym c.from.ensures i))
          (rule_lower refuses key slots c.seat.inside.seat.id me.0 me.1 (unit / 256) (unit % 256) c.seat.invariant.some inside small refused),
    )
