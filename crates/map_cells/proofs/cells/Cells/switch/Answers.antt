use Rattle.std.proofs.Common.{◌≡◌, ◌<◌, ◌≤◌, ◌+◌, ◌*◌, ◌/◌, ◌==◌, ℕ, Bool, sym, ap, subst, ◌∙◌, arith, ne_eqb}
use mathlib.Core.Logic.{dite}
use native.Mathlib.Decide.{ℕ_discrete}
use mathlib.Core.Option.{none}
use prog.Atomic.{either}
use Rattle.atomic_table.specs.Table.{Allows, step}
use Rattle.map_core.specs.declared.view.View.{View}
use Rattle.map_cells.specs.declared.about.About.{About}
use Rattle.map_core.specs.declared.places.TheConstants.{CURRENT_WORD}
use Rattle.map_core.specs.Sizes.{cells_of}
use Rattle.map_core.specs.Places.{finish_place}
use Rattle.map_core.specs.Passes.{look}
use Rattle.map_cells.specs.Seen.{PassView}
use Rattle.map_cells.specs.Rule.{TableHolds, Left}
use Rattle.map_cells.proofs.WordSteps.{has_current, within_low}
use Rattle.map_cells.proofs.Moving.{switch_allowed}
use Rattle.map_cells.proofs.StepFacts.{seated}
use Rattle.map_cells.proofs.cells.Cells.switch.Goals as goal

pub compare_exchange-found-requires : goal.compare_exchange-found-requires
compare_exchange-found-requires g c =
    let key = c.self.inside.table.shared.key in
    let slots : ℕ = c.self.inside.table.shared.table_id.slots in
    let me = c.pass.inside.seat.me in
    let v : View = c.pass.inside.seat.me.0 in
    let seat = seated c.args.self.now c.args.pass.now c.pass.inside.seat.table_id c.self.inside.table.shared.table_id v c.self.inside.layout key c.self.view_is c.pass.view_is c.self.invariant.0 c.requires.of in
    let at : ℕ = c.args.generation in
    let finished = subst (λ (p : PassView). (b : ℕ) → b < cells_of at / 64 → look p.knows.known (finish_place p.knows.layout at b) ≡ 1) (sym c.pass.view_is) c.requires.finished in
    let full = subst (λ (p : PassView). 3 * cells_of at ≤ 4 * p.knows.count_seen) (sym c.pass.view_is) c.requires.full in (
      seat.tables,
      subst (λ (n : ℕ). CURRENT_WORD < n) (sym c.self.invariant.1) (has_current c.self.inside.layout),
      subst (λ (x : About). Allows (TableHolds g.F.Facts.fits x) slots c.pass.inside.seat.id me CURRENT_WORD (λ n. either (n == at) (at + 1) n) (Left g.F.Facts.fits (step slots CURRENT_WORD at (at + 1) none) me)) seat.about_is
          (switch_allowed g.F.Facts.fits key.tag slots c.pass.inside.seat.id v me.1 c.pass.invariant.facts at finished full),
    )

pub after_exchange-current-requires-clause-generation : goal.after_exchange-current-requires-clause-generation
after_exchange-current-requires-clause-generation g c = within_low c.args.self.now.layout c.args.generation c.requires.generation

pub after_exchange-current-requires-clause-found : goal.after_exchange-current-requires-clause-found
after_exchange-current-requires-clause-found g c =
    let n : ℕ = c.compare_exchange-found.result in
    let at : ℕ = c.args.generation in
    let s = c.compare_exchange-found.ensures.2.switched in
    let w : View = c.compare_exchange-found.new.seat.me.0 in
    let low = within_low w.layout w.generation (s.seen.facts.currents w.generation s.seen.facts.generation) in
    let here = within_low c.args.self.now.layout at c.requires.generation in
    dite (ℕ_discrete n at)
    (λ e. omega arith)
    (λ ne. let is : w.generation ≡ n = s.seen.generation ∙ ap (λ (b : Bool). either b (at + 1) n) (ne_eqb n at ne) in omega arith)
