use Rattle.std.proofs.Common.{◌<◌, ℕ, sym, ap, subst}
use mathlib.Core.Option.{none}
use Rattle.atomic_table.specs.Table.{Allows, step}
use Rattle.map_core.specs.declared.view.View.{View}
use Rattle.map_cells.specs.declared.about.About.{About}
use Rattle.map_cells.specs.Seen.{CellsView}
use Rattle.map_cells.specs.Rule.{TableHolds, ValueLooked}
use Rattle.map_cells.proofs.Allowed.{read_allowed}
use Rattle.map_cells.proofs.StepFacts.{seated, value_there, cell_there, fields_after}
use Rattle.map_cells.proofs.cells.Cells.value_at.Goals as goal

pub value_word-word-requires : goal.value_word-word-requires
value_word-word-requires g c = cell_there c.self.inside.layout c.args.self.now.layout c.args.cell.generation c.args.cell.index (ap (λ (p : CellsView). p.layout) c.self.view_is) c.requires.cell

pub load-found-requires : goal.load-found-requires
load-found-requires g c =
    let key = c.self.inside.table.shared.key in
    let slots : ℕ = c.self.inside.table.shared.table_id.slots in
    let me = c.pass.inside.seat.me in
    let v : View = c.pass.inside.seat.me.0 in
    let seat = seated c.args.self.now c.args.pass.now c.pass.inside.seat.table_id c.self.inside.table.shared.table_id v c.self.inside.layout key c.self.view_is c.pass.view_is c.self.invariant.0 c.requires.of in
    let at : ℕ = c.args.cell.generation in
    let i : ℕ = c.args.cell.index in
    let cell = cell_there v.layout c.args.self.now.layout at i seat.layout c.requires.cell in
    let word : ℕ = c.value_word-word.result in
    let place = value_there v.layout c.self.inside.layout at i word seat.inside c.value_word-word.ensures.place in (
      seat.tables,
      subst (λ (n : ℕ). word < n) (sym c.self.invariant.1) c.value_word-word.ensures.within,
      subst (λ (x : About). Allows (TableHolds g.F.Facts.fits x) slots c.pass.inside.seat.id me word (λ n. n) (ValueLooked g.F.Facts.fits (step slots word 0 0 none) me)) seat.about_is
          (read_allowed g.F.Facts.fits key.tag slots c.pass.inside.seat.id v me.1 c.pass.invariant.facts at i word cell place),
    )

pub invariant_of-pass : goal.invariant_of-pass
invariant_of-pass g c =
    let key = c.self.inside.table.shared.key in
    let slots : ℕ = c.self.inside.table.shared.table_id.slots in
    let me = c.pass.inside.seat.me in
    let v : View = c.pass.inside.seat.me.0 in
    let seat = seated c.args.self.now c.args.pass.now c.pass.inside.seat.table_id c.self.inside.table.shared.table_id v c.self.inside.layout key c.self.view_is c.pass.view_is c.self.invariant.0 c.requires.of in
    let at : ℕ = c.args.cell.generation in
    let i : ℕ = c.args.cell.index in
    let cell = cell_there v.layout c.args.self.now.layout at i seat.layout c.requires.cell in
    let word : ℕ = c.value_word-word.result in
    let place = value_there v.layout c.self.inside.layout at i word seat.inside c.value_word-word.ensures.place in
    let s = c.load-found.ensures.2.seen at i cell place in
    fields_after g.F.Facts.fits c.pass.inside.seat.me c.load-found.new.seat.me c.pass.inside.number c.pass.inside.spare c.pass.inside.entries c.pass.inside.count_seen c.pass.inside.generation c.pass.invariant c.load-found.ensures.2.slots s.looks.steps s.counted s.same_count s.facts
