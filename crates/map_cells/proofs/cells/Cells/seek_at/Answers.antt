use Rattle.std.proofs.Common.{◌≡◌, ℕ, ap, ◌∙◌, refl}
use Rattle.map_core.specs.declared.view.View.{View}
use Rattle.map_core.specs.declared.layout.Layout.{Layout}
use Rattle.map_core.specs.Places.{key_place}
use Rattle.map_core.specs.Passes.{look}
use Rattle.map_cells.specs.Puts.{HoldsKey}
use Rattle.map_cells.proofs.WalkLemmas.{walks_then, key_walks, value_walks, closed_more, reaches_more, shut_sealed, not_last}
use Rattle.map_cells.proofs.PutLemmas.{closed_seen}
use Rattle.map_cells.proofs.StepFacts.{cell_there}
use Rattle.map_cells.proofs.cells.Cells.seek_at.Goals as goal

pub returns-in-Sealed-clause-sought : goal.returns-in-Sealed-clause-sought
returns-in-Sealed-clause-sought g c =
    let v : View = c.args.pass.now.knows in
    let w : View = c.key_at.new.pass.knows in
    let at : ℕ = c.args.cell.generation in
    let i : ℕ = c.args.cell.index in
    let s = c.in-Sealed.ensures.seen in
    shut_sealed at i c.args.key w (reaches_more v w at i c.args.key s.looks.steps c.requires.reached) (not_last at v w s.looks.steps s.unsealed)
    (ap (λ (x : Layout). look w.known (key_place x at i)) s.looks.steps.layout ∙ s.word)

pub returns-in-Unset-clause-walk : goal.returns-in-Unset-clause-walk
returns-in-Unset-clause-walk g c =
    let v : View = c.args.pass.now.knows in
    let u : View = c.key_at.new.pass.knows in
    let w : View = c.value_at.new.pass.knows in
    walks_then g.F.Facts.fits v u w (key_walks g.F.Facts.fits c.args.cell.generation c.args.cell.index _ v u c.key_at.ensures.seen) (value_walks g.F.Facts.fits c.args.cell.generation c.args.cell.index _ u w c.value_at.ensures.seen)

pub returns-in-Closed-clause-walk : goal.returns-in-Closed-clause-walk
returns-in-Closed-clause-walk g c =
    let v : View = c.args.pass.now.knows in
    let u : View = c.key_at.new.pass.knows in
    let w : View = c.value_at.new.pass.knows in
    walks_then g.F.Facts.fits v u w (key_walks g.F.Facts.fits c.args.cell.generation c.args.cell.index _ v u c.key_at.ensures.seen) (value_walks g.F.Facts.fits c.args.cell.generation c.args.cell.index _ u w c.value_at.ensures.seen)

pub returns-in-Value-clause-walk : goal.returns-in-Value-clause-walk
returns-in-Value-clause-walk g c =
    let v : View = c.args.pass.now.knows in
    let u : View = c.key_at.new.pass.knows in
    let w : View = c.value_at.new.pass.knows in
    walks_then g.F.Facts.fits v u w (key_walks g.F.Facts.fits c.args.cell.generation c.args.cell.index _ v u c.key_at.ensures.seen) (value_walks g.F.Facts.fits c.args.cell.generation c.args.cell.index _ u w c.value_at.ensures.seen)

pub returns-in-Unset-clause-sought : goal.returns-in-Unset-clause-sought
returns-in-Unset-clause-sought g c =
    let v : View = c.args.pass.now.knows in
    let u : View = c.key_at.new.pass.knows in
    let s = c.in-Key.ensures.seen in
    let key : look u.known (key_place u.layout c.args.cell.generation c.args.cell.index) ≡ c.args.key = ap (λ (x : Layout). look u.known (key_place x c.args.cell.generation c.args.cell.index)) s.looks.steps.layout ∙ (s.word ∙ c.if-found-key.false) in
    c.in-Unset.ensures.seen.absent c.args.key c.requires.key refl key (closed_more v u c.args.cell.generation c.args.key s.looks.steps c.requires.closed c.requires.key.0)

pub returns-in-Closed-clause-sought : goal.returns-in-Closed-clause-sought
returns-in-Closed-clause-sought g c =
    let v : View = c.args.pass.now.knows in
    let u : View = c.key_at.new.pass.knows in
    let w : View = c.value_at.new.pass.knows in
    let at : ℕ = c.args.cell.generation in
    let i : ℕ = c.args.cell.index in
    let s = c.in-Key.ensures.seen in
    let key : HoldsKey at i c.args.key u = ap (λ (x : Layout). look u.known (key_place x at i)) s.looks.steps.layout ∙ (s.word ∙ c.if-found-key.false) in
    let here = cell_there u.layout c.args.self.now.layout at i (s.looks.steps.layout ∙ c.requires.of.layout) c.requires.cell in
    closed_seen g.F.Facts.fits at i c.args.key u w here c.requires.key key (reaches_more v u at i c.args.key s.looks.steps c.requires.reached) c.in-Closed.ensures.seen
