use Rattle.std.proofs.Common.{◌<◌, ℕ, ap, ◌∙◌, arith}
use Rattle.map_core.specs.declared.layout.Layout.{Layout}
use Rattle.map_core.specs.declared.view.View.{View}
use Rattle.map_core.specs.Places.{key_place}
use Rattle.map_core.specs.Machine.{greatest}
use Rattle.map_core.specs.Passes.{look}
use Rattle.map_cells.proofs.WalkLemmas.{settled_more, reaches_more, shut_sealed, not_last}
use Rattle.map_cells.proofs.PutLemmas.{takes_won, takes_lost, takes_seen}
use Rattle.map_cells.proofs.cells.Cells.take_key.Goals as goal

pub claim-requires-clause-settled : goal.claim-requires-clause-settled
claim-requires-clause-settled g c =
    settled_more c.args.pass.now.knows c.key_at.new.pass.knows c.args.cell.generation c.args.key c.key_at.ensures.seen.looks.steps c.requires.key.0 c.requires.settled

pub returns-in-Empty-claim-clause-takes : goal.returns-in-Empty-claim-clause-takes
returns-in-Empty-claim-clause-takes g c =
    takes_won g.F.Facts.fits c.args.cell.generation c.args.cell.index c.args.key c.args.pass.now.knows c.key_at.new.pass.knows c.claim.new.pass.knows c.in-Empty.ensures.seen c.in-Empty-claim.ensures.tried

pub returns-in-Sealed-claim-clause-takes : goal.returns-in-Sealed-claim-clause-takes
returns-in-Sealed-claim-clause-takes g c =
    let some_there : 0 < greatest = omega arith in
    takes_lost g.F.Facts.fits c.args.cell.generation c.args.cell.index c.args.key greatest c.args.pass.now.knows c.key_at.new.pass.knows c.claim.new.pass.knows c.requires.free some_there c.in-Empty.ensures.seen c.in-Sealed-claim.ensures.tried

pub returns-in-Sealed-claim-clause-taken : goal.returns-in-Sealed-claim-clause-taken
returns-in-Sealed-claim-clause-taken g c =
    let v : View = c.args.pass.now.knows in
    let u : View = c.key_at.new.pass.knows in
    let w : View = c.claim.new.pass.knows in
    let at : ℕ = c.args.cell.generation in
    let i : ℕ = c.args.cell.index in
    let k : ℕ = c.args.key in
    let a = c.in-Empty.ensures.seen in
    let b = c.in-Sealed-claim.ensures.tried in
    let lost = b.lost (λ e. omega arith) in (
      shut_sealed at i k w (reaches_more u w at i k b.looks.steps (reaches_more v u at i k a.looks.steps c.requires.reached)) (not_last at u w b.looks.steps b.unsealed)
          (ap (λ (x : Layout). look w.known (key_place x at i)) b.looks.steps.layout ∙ lost.1),
      lost.0 ∙ (a.claim ∙ c.requires.free),
    )

pub returns-in-Sealed-clause-takes : goal.returns-in-Sealed-clause-takes
returns-in-Sealed-clause-takes g c = takes_seen g.F.Facts.fits c.args.cell.generation c.args.cell.index greatest c.args.pass.now.knows c.key_at.new.pass.knows c.requires.free c.in-Sealed.ensures.seen

pub returns-in-Sealed-clause-taken : goal.returns-in-Sealed-clause-taken
returns-in-Sealed-clause-taken g c =
    let v : View = c.args.pass.now.knows in
    let w : View = c.key_at.new.pass.knows in
    let at : ℕ = c.args.cell.generation in
    let i : ℕ = c.args.cell.index in
    let s = c.in-Sealed.ensures.seen in (
      shut_sealed at i c.args.key w (reaches_more v w at i c.args.key s.looks.steps c.requires.reached) (not_last at v w s.looks.steps s.unsealed)
          (ap (λ (x : Layout). look w.known (key_place x at i)) s.looks.steps.layout ∙ s.word),
      s.claim ∙ c.requires.free,
    )

pub returns-then-winner-key-clause-takes : goal.returns-then-winner-key-clause-takes
returns-then-winner-key-clause-takes g c =
    takes_lost g.F.Facts.fits c.args.cell.generation c.args.cell.index c.args.key c.in-Key-claim.winner c.args.pass.now.knows c.key_at.new.pass.knows c.claim.new.pass.knows c.requires.free c.in-Key-claim.ensures.word.0 c.in-Empty.ensures.seen c.in-Key-claim.ensures.tried

pub returns-else-winner-key-clause-takes : goal.returns-else-winner-key-clause-takes
returns-else-winner-key-clause-takes g c =
    takes_lost g.F.Facts.fits c.args.cell.generation c.args.cell.index c.args.key c.in-Key-claim.winner c.args.pass.now.knows c.key_at.new.pass.knows c.claim.new.pass.knows c.requires.free c.in-Key-claim.ensures.word.0 c.in-Empty.ensures.seen c.in-Key-claim.ensures.tried
