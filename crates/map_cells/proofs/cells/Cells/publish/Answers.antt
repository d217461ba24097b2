use Rattle.std.proofs.Common.{◌≡◌, ◌<◌, ℕ, sym, ap, subst, ◌∙◌}
use mathlib.Core.Option.{none}
use Rattle.atomic_table.specs.Table.{Allows, step}
use Rattle.map_core.specs.declared.view.View.{View}
use Rattle.map_cells.specs.declared.about.About.{About}
use Rattle.map_cells.specs.Seen.{PassView, CellsView}
use Rattle.std.proofs.Common.{◌==◌}
use prog.Atomic.{either}
use Rattle.map_core.specs.Places.{key_place}
use Rattle.map_core.specs.Passes.{look}
use Rattle.map_cells.specs.Steps.{StepFrame, MayPublish, ValueTried}
use Rattle.map_cells.specs.Rule.{TableHolds, Published}
use Rattle.map_cells.proofs.Exchanges.{publish_allowed}
use Rattle.map_cells.proofs.StepFacts.{seated, value_there, cell_there, of_steps, fields_after}
use Rattle.map_cells.proofs.cells.Cells.publish.Goals as goal

pub value_word-word-requires : goal.value_word-word-requires
value_word-word-requires g c = cell_there c.self.inside.layout c.args.self.now.layout c.args.cell.generation c.args.cell.index (ap (λ (p : CellsView). p.layout) c.self.view_is) c.requires.cell

pub compare_exchange-found-requires : goal.compare_exchange-found-requires
compare_exchange-found-requires g c =
    let key = c.self.inside.table.shared.key in
    let slots : ℕ = c.self.inside.table.shared.table_id.slots in
    let me = c.pass.inside.seat.me in
    let v : View = c.pass.inside.seat.me.0 in
    let seat = seated c.args.self.now c.args.pass.now c.pass.inside.seat.table_id c.self.inside.table.shared.table_id v c.self.inside.layout key c.self.view_is c.pass.view_is c.self.invariant.0 c.requires.of in
    let at : ℕ = c.args.cell.generation in
    let i : ℕ = c.args.cell.index in
    let cell = cell_there v.layout c.args.self.now.layout at i seat.layout c.requires.cell in
    let word : ℕ = c.value_word-word.result in
    let place = value_there v.layout c.self.inside.layout at i word seat.inside c.value_word-word.ensures.place in
    let k : ℕ = c.args.key in
    let x : ℕ = c.args.value in
    let seen : look v.known (key_place v.layout at i) ≡ k = subst (λ (p : PassView). look p.knows.known (key_place p.knows.layout at i) ≡ k) (sym c.pass.view_is) c.requires.seen in
    let may : MayPublish g.F.Facts.fits at k x v = subst (λ (p : PassView). MayPublish g.F.Facts.fits at k x p.knows) (sym c.pass.view_is) c.requires.fits in (
      seat.tables,
      subst (λ (n : ℕ). word < n) (sym c.self.invariant.1) c.value_word-word.ensures.within,
      subst (λ (y : About). Allows (TableHolds g.F.Facts.fits y) slots c.pass.inside.seat.id me word (λ n. either (n == 0) x n) (Published g.F.Facts.fits (step slots word 0 x none) me)) seat.about_is
          (publish_allowed g.F.Facts.fits key.tag slots c.pass.inside.seat.id v me.1 c.pass.invariant.facts at i k x word cell place c.requires.key c.requires.value seen may),
    )

pub invariant_of-pass : goal.invariant_of-pass
invariant_of-pass g c =
    let key = c.self.inside.table.shared.key in
    let slots : ℕ = c.self.inside.table.shared.table_id.slots in
    let me = c.pass.inside.seat.me in
    let v : View = c.pass.inside.seat.me.0 in
    let seat = seated c.args.self.now c.args.pass.now c.pass.inside.seat.table_id c.self.inside.table.shared.table_id v c.self.inside.layout key c.self.view_is c.pass.view_is c.self.invariant.0 c.requires.of in
    let at : ℕ = c.args.cell.generation in
    let i : ℕ = c.args.cell.index in
    let cell = cell_there v.layout c.args.self.now.layout at i seat.layout c.requires.cell in
    let word : ℕ = c.value_word-word.result in
    let place = value_there v.layout c.self.inside.layout at i word seat.inside c.value_word-word.ensures.place in
    let k : ℕ = c.args.key in
    let x : ℕ = c.args.value in
    let seen : look v.known (key_place v.layout at i) ≡ k = subst (λ (p : PassView). look p.knows.known (key_place p.knows.layout at i) ≡ k) (sym c.pass.view_is) c.requires.seen in
    let s = c.compare_exchange-found.ensures.2.tried at i k cell place c.requires.key seen in
    fields_after g.F.Facts.fits c.pass.inside.seat.me c.compare_exchange-found.new.seat.me c.pass.inside.number c.pass.inside.spare c.pass.inside.entries c.pass.inside.count_seen c.pass.inside.generation c.pass.invariant c.compare_exchange-found.ensures.2.slots s.steps s.counted s.same_count s.facts

pub returns-clause-of : goal.returns-clause-of
returns-clause-of g c =
    let key = c.self.inside.table.shared.key in
    let slots : ℕ = c.self.inside.table.shared.table_id.slots in
    let me = c.pass.inside.seat.me in
    let v : View = c.pass.inside.seat.me.0 in
    let seat = seated c.args.self.now c.args.pass.now c.pass.inside.seat.table_id c.self.inside.table.shared.table_id v c.self.inside.layout key c.self.view_is c.pass.view_is c.self.invariant.0 c.requires.of in
    let at : ℕ = c.args.cell.generation in
    let i : ℕ = c.args.cell.index in
    let cell = cell_there v.layout c.args.self.now.layout at i seat.layout c.requires.cell in
    let word : ℕ = c.value_word-word.result in
    let place = value_there v.layout c.self.inside.layout at i word seat.inside c.value_word-word.ensures.place in
    let k : ℕ = c.args.key in
    let x : ℕ = c.args.value in
    let seen : look v.known (key_place v.layout at i) ≡ k = subst (λ (p : PassView). look p.knows.known (key_place p.knows.layout at i) ≡ k) (sym c.pass.view_is) c.requires.seen in
    let s = c.compare_exchange-found.ensures.2.tried at i k cell place c.requires.key seen in
    of_steps c.args.self.now c.args.pass.now record { table = c.compare_exchange-found.new.seat.table_id; knows = c.compare_exchange-found.new.seat.me.0 } c.requires.of
    (c.compare_exchange-found.ensures.0 ∙ ap (λ (p : PassView). p.table) c.pass.view_is)
    (subst (λ (p : PassView). StepFrame p.knows c.compare_exchange-found.new.seat.me.0) c.pass.view_is s.steps)

pub returns-clause-tried : goal.returns-clause-tried
returns-clause-tried g c =
    let key = c.self.inside.table.shared.key in
    let slots : ℕ = c.self.inside.table.shared.table_id.slots in
    let me = c.pass.inside.seat.me in
    let v : View = c.pass.inside.seat.me.0 in
    let seat = seated c.args.self.now c.args.pass.now c.pass.inside.seat.table_id c.self.inside.table.shared.table_id v c.self.inside.layout key c.self.view_is c.pass.view_is c.self.invariant.0 c.requires.of in
    let at : ℕ = c.args.cell.generation in
    let i : ℕ = c.args.cell.index in
    let cell = cell_there v.layout c.args.self.now.layout at i seat.layout c.requires.cell in
    let word : ℕ = c.value_word-word.result in
    let place = value_there v.layout c.self.inside.layout at i word seat.inside c.value_word-word.ensures.place in
    let k : ℕ = c.args.key in
    let x : ℕ = c.args.value in
    let seen : look v.known (key_place v.layout at i) ≡ k = subst (λ (p : PassView). look p.knows.known (key_place p.knows.layout at i) ≡ k) (sym c.pass.view_is) c.requires.seen in
    let s = c.compare_exchange-found.ensures.2.tried at i k cell place c.requires.key seen in
    let w : View = c.compare_exchange-found.new.seat.me.0 in
    subst (λ (y : ℕ × PassView). ValueTried g.F.Facts.fits at i k x y.0 y.1.knows w) (λ z. (sym c.of.ensures.number z, c.pass.view_is z)) s
