use Rattle.std.proofs.Common.{◌<◌, ◌==◌, ℕ, sym, ap, subst}
use mathlib.Core.Option.{none}
use prog.Atomic.{either}
use Rattle.atomic_table.specs.Table.{Allows, step}
use Rattle.map_core.specs.declared.view.View.{View}
use Rattle.map_cells.specs.declared.about.About.{About}
use Rattle.map_core.specs.declared.layout.Layout.{Layout}
use Rattle.map_core.specs.Machine.{greatest}
use Rattle.map_cells.specs.Seen.{CellsView}
use Rattle.map_cells.specs.Rule.{TableHolds, KeyShut}
use Rattle.map_cells.proofs.Moving.{seal_key_allowed}
use Rattle.map_cells.proofs.StepFacts.{seated, key_there, cell_there, fields_after}
use Rattle.map_cells.proofs.cells.Cells.seal_key.Goals as goal

pub key_word-word-requires : goal.key_word-word-requires
key_word-word-requires g c = cell_there c.self.inside.layout c.args.self.now.layout c.args.cell.generation c.args.cell.index (ap (λ (p : CellsView). p.layout) c.self.view_is) c.requires.cell

pub compare_exchange-old-requires : goal.compare_exchange-old-requires
compare_exchange-old-requires g c =
    let key = c.self.inside.table.shared.key in
    let slots : ℕ = c.self.inside.table.shared.table_id.slots in
    let me = c.pass.inside.seat.me in
    let v : View = c.pass.inside.seat.me.0 in
    let seat = seated c.args.self.now c.args.pass.now c.pass.inside.seat.table_id c.self.inside.table.shared.table_id v c.self.inside.layout key c.self.view_is c.pass.view_is c.self.invariant.0 c.requires.of in
    let at : ℕ = c.args.cell.generation in
    let i : ℕ = c.args.cell.index in
    let cell = cell_there v.layout c.args.self.now.layout at i seat.layout c.requires.cell in
    let word : ℕ = c.key_word-word.result in
    let place = key_there v.layout c.self.inside.layout at i word seat.inside c.key_word-word.ensures.place in
    let below = subst (λ (l : Layout). at < l.last) (sym seat.layout) c.requires.below in (
      seat.tables,
      subst (λ (n : ℕ). word < n) (sym c.self.invariant.1) c.key_word-word.ensures.within,
      subst (λ (x : About). Allows (TableHolds g.F.Facts.fits x) slots c.pass.inside.seat.id me word (λ n. either (n == 0) greatest n) (KeyShut g.F.Facts.fits (step slots word 0 greatest none) me)) seat.about_is
          (seal_key_allowed g.F.Facts.fits key.tag slots c.pass.inside.seat.id v me.1 c.pass.invariant.facts at i word cell place below),
    )

pub invariant_of-pass : goal.invariant_of-pass
invariant_of-pass g c =
    let key = c.self.inside.table.shared.key in
    let slots : ℕ = c.self.inside.table.shared.table_id.slots in
    let me = c.pass.inside.seat.me in
    let v : View = c.pass.inside.seat.me.0 in
    let seat = seated c.args.self.now c.args.pass.now c.pass.inside.seat.table_id c.self.inside.table.shared.table_id v c.self.inside.layout key c.self.view_is c.pass.view_is c.self.invariant.0 c.requires.of in
    let at : ℕ = c.args.cell.generation in
    let i : ℕ = c.args.cell.index in
    let cell = cell_there v.layout c.args.self.now.layout at i seat.layout c.requires.cell in
    let word : ℕ = c.key_word-word.result in
    let place = key_there v.layout c.self.inside.layout at i word seat.inside c.key_word-word.ensures.place in
    let s = (c.compare_exchange-old.ensures.2.sealed at i cell place).leaves in
    fields_after g.F.Facts.fits c.pass.inside.seat.me c.compare_exchange-old.new.seat.me c.pass.inside.number c.pass.inside.spare c.pass.inside.entries c.pass.inside.count_seen c.pass.inside.generation c.pass.invariant c.compare_exchange-old.ensures.2.slots s.looks.steps s.counted s.same_count s.facts
