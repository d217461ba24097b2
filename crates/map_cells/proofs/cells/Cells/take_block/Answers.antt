use Rattle.std.proofs.Common.{◌<◌, ◌+◌, ◌%◌, ◌^◌, ℕ, sym, ap, subst}
use mathlib.Core.Option.{none}
use Rattle.atomic_table.specs.Table.{Allows, step}
use Rattle.map_core.specs.declared.view.View.{View}
use Rattle.map_cells.specs.declared.about.About.{About}
use Rattle.map_cells.specs.Seen.{CellsView}
use Rattle.map_cells.specs.Rule.{TableHolds, Took}
use Rattle.map_cells.proofs.Moving.{take_allowed}
use Rattle.map_cells.proofs.StepFacts.{seated, within_there, fields_after}
use Rattle.map_cells.proofs.cells.Cells.take_block.Goals as goal

pub take_word-word-requires : goal.take_word-word-requires
take_word-word-requires g c = within_there c.self.inside.layout c.args.self.now.layout c.args.generation (ap (λ (p : CellsView). p.layout) c.self.view_is) c.requires.generation

pub fetch_add-requires : goal.fetch_add-requires
fetch_add-requires g c =
    let key = c.self.inside.table.shared.key in
    let slots : ℕ = c.self.inside.table.shared.table_id.slots in
    let me = c.pass.inside.seat.me in
    let v : View = c.pass.inside.seat.me.0 in
    let seat = seated c.args.self.now c.args.pass.now c.pass.inside.seat.table_id c.self.inside.table.shared.table_id v c.self.inside.layout key c.self.view_is c.pass.view_is c.self.invariant.0 c.requires.of in
    let at : ℕ = c.args.generation in
    let within = within_there v.layout c.args.self.now.layout at seat.layout c.requires.generation in
    let word : ℕ = c.take_word-word.result in (
      seat.tables,
      subst (λ (n : ℕ). word < n) (sym c.self.invariant.1) c.take_word-word.ensures.within,
      subst (λ (x : About). Allows (TableHolds g.F.Facts.fits x) slots c.pass.inside.seat.id me word (λ n. (n + 1) % 2 ^ 64) (Took g.F.Facts.fits (step slots word 1 0 none) me)) seat.about_is
          (take_allowed g.F.Facts.fits key.tag slots c.pass.inside.seat.id v me.1 c.pass.invariant.facts at word within c.take_word-word.ensures.place),
    )

pub invariant_of-pass : goal.invariant_of-pass
invariant_of-pass g c =
    let key = c.self.inside.table.shared.key in
    let slots : ℕ = c.self.inside.table.shared.table_id.slots in
    let me = c.pass.inside.seat.me in
    let v : View = c.pass.inside.seat.me.0 in
    let seat = seated c.args.self.now c.args.pass.now c.pass.inside.seat.table_id c.self.inside.table.shared.table_id v c.self.inside.layout key c.self.view_is c.pass.view_is c.self.invariant.0 c.requires.of in
    let at : ℕ = c.args.generation in
    let within = within_there v.layout c.args.self.now.layout at seat.layout c.requires.generation in
    let word : ℕ = c.take_word-word.result in
    let s = (c.fetch_add.ensures.2.taken at within c.take_word-word.ensures.place).leaves in
    fields_after g.F.Facts.fits c.pass.inside.seat.me c.fetch_add.new.seat.me c.pass.inside.number c.pass.inside.spare c.pass.inside.entries c.pass.inside.count_seen c.pass.inside.generation c.pass.invariant c.fetch_add.ensures.2.slots s.looks.steps s.counted s.same_count s.facts
