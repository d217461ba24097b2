use Rattle.std.proofs.Common.{◌<◌, ℕ, arith, sym, subst}
use mathlib.Core.Option.{none}
use Rattle.atomic_table.specs.Table.{Allows, step}
use Rattle.map_core.specs.declared.view.View.{View}
use Rattle.map_cells.specs.declared.about.About.{About}
use Rattle.map_core.specs.declared.places.TheConstants.{CURRENT_WORD}
use Rattle.map_cells.specs.Rule.{TableHolds, CurrentLooked}
use Rattle.map_cells.proofs.WordSteps.{has_current, within_low}
use Rattle.map_cells.proofs.Moving.{current_allowed}
use Rattle.map_cells.proofs.StepFacts.{seated}
use Rattle.map_cells.proofs.cells.Cells.current.Goals as goal

pub load-found-requires : goal.load-found-requires
load-found-requires g c =
    let key = c.self.inside.table.shared.key in
    let slots : ℕ = c.self.inside.table.shared.table_id.slots in
    let me = c.pass.inside.seat.me in
    let v : View = c.pass.inside.seat.me.0 in
    let seat = seated c.args.self.now c.args.pass.now c.pass.inside.seat.table_id c.self.inside.table.shared.table_id v c.self.inside.layout key c.self.view_is c.pass.view_is c.self.invariant.0 c.requires in (
      seat.tables,
      subst (λ (n : ℕ). CURRENT_WORD < n) (sym c.self.invariant.1) (has_current c.self.inside.layout),
      subst (λ (x : About). Allows (TableHolds g.F.Facts.fits x) slots c.pass.inside.seat.id me CURRENT_WORD (λ n. n) (CurrentLooked g.F.Facts.fits (step slots CURRENT_WORD 0 0 none) me)) seat.about_is
          (current_allowed g.F.Facts.fits key.tag slots c.pass.inside.seat.id v me.1 c.pass.invariant.facts),
    )

pub overflow_cast-generation : goal.overflow_cast-generation
overflow_cast-generation g c =
    let s = c.load-found.ensures.2.seen in
    let w : View = c.load-found.new.seat.me.0 in
    let low = within_low w.layout w.generation (s.facts.currents w.generation s.facts.generation) in
    let is = s.generation in omega arith
