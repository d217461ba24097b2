use Rattle.std.proofs.Common.{◌<◌, ◌+◌, ◌%◌, ◌^◌, ◌≤◌, ℕ, length, arith, sym, subst}
use mathlib.Core.Option.{none}
use Rattle.atomic_table.specs.Table.{Allows, step}
use Rattle.map_core.specs.declared.view.View.{View}
use Rattle.map_cells.specs.declared.about.About.{About}
use Rattle.map_cells.specs.Seen.{PassView}
use Rattle.map_core.specs.declared.places.TheConstants.{COUNT_WORD}
use Rattle.map_core.specs.Places.{word_count}
use Rattle.map_cells.specs.Rule.{TableHolds, Counted}
use Rattle.map_cells.proofs.WordSteps.{most_words, has_count, words_small}
use Rattle.map_cells.proofs.Exchanges.{count_allowed}
use Rattle.map_cells.proofs.CallFacts.{placed_small}
use Rattle.map_cells.proofs.StepFacts.{seated}
use Rattle.map_cells.proofs.cells.Cells.count.Goals as goal

pub fetch_add-found-requires : goal.fetch_add-found-requires
fetch_add-found-requires g c =
    let key = c.self.inside.table.shared.key in
    let slots : ℕ = c.self.inside.table.shared.table_id.slots in
    let me = c.pass.inside.seat.me in
    let v : View = c.pass.inside.seat.me.0 in
    let seat = seated c.args.self.now c.args.pass.now c.pass.inside.seat.table_id c.self.inside.table.shared.table_id v c.self.inside.layout key c.self.view_is c.pass.view_is c.self.invariant.0 c.requires.of in
    let left : 0 < length v.uncounted = subst (λ (p : PassView). 0 < length p.knows.uncounted) (sym c.pass.view_is) c.requires.uncounted in (
      seat.tables,
      subst (λ (n : ℕ). COUNT_WORD < n) (sym c.self.invariant.1) (has_count c.self.inside.layout),
      subst (λ (x : About). Allows (TableHolds g.F.Facts.fits x) slots c.pass.inside.seat.id me COUNT_WORD (λ n. (n + 1) % 2 ^ 64) (Counted g.F.Facts.fits (step slots COUNT_WORD 1 0 none) me)) seat.about_is
          (count_allowed g.F.Facts.fits key.tag slots c.pass.inside.seat.id v me.1 c.pass.invariant.facts left),
    )

-- the count is at most the number of words
most_counted : (n a b : ℕ) → n + 1 ≤ a → a ≤ b → b ≤ most_words → n + 1 ≤ most_words
most_counted n a b h s t = omega arith

pub overflow_add-count : goal.overflow_add-count
overflow_add-count g c =
    let r = c.fetch_add-found.ensures.2.raised in
    let w : View = c.fetch_add-found.new.seat.me.0 in
    let m = most_counted c.fetch_add-found.result (length w.front) (word_count w.layout) r.high r.facts.small (words_small w.layout) in omega arith

pub overflow_add-pass : goal.overflow_add-pass
overflow_add-pass g c =
    let m = placed_small g.F.Facts.fits c.pass.inside.seat.me.0 c.pass.invariant.facts in
    let n : ℕ = length c.pass.inside.seat.me.0.uncounted in
    let e = c.pass.invariant.entries in omega arith
