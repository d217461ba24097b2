use Rattle.std.proofs.Common.{ℕ, refl, arith}
use Rattle.map_core.specs.declared.view.View.{View}
use Rattle.map_core.specs.Machine.{greatest}
use Rattle.map_cells.proofs.WalkLemmas.{walks_then, key_walks}
use Rattle.block_moves.proofs.MoveLemmas.{key_by, leaves_walks}
use Rattle.block_moves.proofs.blocks.key_or_seal.Goals as goal

pub returns-in-Empty-seal_key-clause-walk : goal.returns-in-Empty-seal_key-clause-walk
returns-in-Empty-seal_key-clause-walk g c =
    let v : View = c.args.pass.now.knows in
    let u : View = c.key_at.new.pass.knows in
    let w : View = c.seal_key.new.pass.knows in
    let at : ℕ = c.args.cell.generation in
    let i : ℕ = c.args.cell.index in
    walks_then g.F.Facts.fits v u w (key_walks g.F.Facts.fits at i _ v u c.in-Empty.ensures.seen) (leaves_walks g.F.Facts.fits u w c.in-Empty-seal_key.ensures.sealed.leaves)

pub returns-in-Empty-seal_key-clause-none : goal.returns-in-Empty-seal_key-clause-none
returns-in-Empty-seal_key-clause-none g c =
    let v : View = c.args.pass.now.knows in
    let u : View = c.key_at.new.pass.knows in
    let w : View = c.seal_key.new.pass.knows in
    let at : ℕ = c.args.cell.generation in
    let i : ℕ = c.args.cell.index in
    key_by at i greatest u w c.in-Empty-seal_key.ensures.sealed.leaves.looks.steps (c.in-Empty-seal_key.ensures.sealed.won refl)

pub returns-in-Sealed-seal_key-clause-walk : goal.returns-in-Sealed-seal_key-clause-walk
returns-in-Sealed-seal_key-clause-walk g c =
    let v : View = c.args.pass.now.knows in
    let u : View = c.key_at.new.pass.knows in
    let w : View = c.seal_key.new.pass.knows in
    let at : ℕ = c.args.cell.generation in
    let i : ℕ = c.args.cell.index in
    walks_then g.F.Facts.fits v u w (key_walks g.F.Facts.fits at i _ v u c.in-Empty.ensures.seen) (leaves_walks g.F.Facts.fits u w c.in-Sealed-seal_key.ensures.sealed.leaves)

pub returns-in-Sealed-seal_key-clause-none : goal.returns-in-Sealed-seal_key-clause-none
returns-in-Sealed-seal_key-clause-none g c =
    let v : View = c.args.pass.now.knows in
    let u : View = c.key_at.new.pass.knows in
    let w : View = c.seal_key.new.pass.knows in
    let at : ℕ = c.args.cell.generation in
    let i : ℕ = c.args.cell.index in
    key_by at i greatest u w c.in-Sealed-seal_key.ensures.sealed.leaves.looks.steps (c.in-Sealed-seal_key.ensures.sealed.lost (λ e. omega arith))

pub returns-in-Key-seal_key-clause-walk : goal.returns-in-Key-seal_key-clause-walk
returns-in-Key-seal_key-clause-walk g c =
    let v : View = c.args.pass.now.knows in
    let u : View = c.key_at.new.pass.knows in
    let w : View = c.seal_key.new.pass.knows in
    let at : ℕ = c.args.cell.generation in
    let i : ℕ = c.args.cell.index in
    walks_then g.F.Facts.fits v u w (key_walks g.F.Facts.fits at i _ v u c.in-Empty.ensures.seen) (leaves_walks g.F.Facts.fits u w c.in-Key-seal_key.ensures.sealed.leaves)

pub returns-in-Key-seal_key-clause-some : goal.returns-in-Key-seal_key-clause-some
returns-in-Key-seal_key-clause-some g c =
    let v : View = c.args.pass.now.knows in
    let u : View = c.key_at.new.pass.knows in
    let w : View = c.seal_key.new.pass.knows in
    let at : ℕ = c.args.cell.generation in
    let i : ℕ = c.args.cell.index in
    let word = c.in-Key-seal_key.ensures.word in
    let pos = word.0 in
    record { word = word; seen = key_by at i c.in-Key-seal_key.key u w c.in-Key-seal_key.ensures.sealed.leaves.looks.steps (c.in-Key-seal_key.ensures.sealed.lost (λ e. omega arith)) }

pub returns-in-Sealed-clause-walk : goal.returns-in-Sealed-clause-walk
returns-in-Sealed-clause-walk g c =
    let v : View = c.args.pass.now.knows in
    let u : View = c.key_at.new.pass.knows in
    let at : ℕ = c.args.cell.generation in
    let i : ℕ = c.args.cell.index in
    key_walks g.F.Facts.fits at i _ v u c.in-Sealed.ensures.seen

pub returns-in-Sealed-clause-none : goal.returns-in-Sealed-clause-none
returns-in-Sealed-clause-none g c =
    let v : View = c.args.pass.now.knows in
    let u : View = c.key_at.new.pass.knows in
    let at : ℕ = c.args.cell.generation in
    let i : ℕ = c.args.cell.index in
    key_by at i greatest v u c.in-Sealed.ensures.seen.looks.steps c.in-Sealed.ensures.seen.word

pub returns-in-Key-clause-walk : goal.returns-in-Key-clause-walk
returns-in-Key-clause-walk g c =
    let v : View = c.args.pass.now.knows in
    let u : View = c.key_at.new.pass.knows in
    let at : ℕ = c.args.cell.generation in
    let i : ℕ = c.args.cell.index in
    key_walks g.F.Facts.fits at i _ v u c.in-Key.ensures.seen

pub returns-in-Key-clause-some : goal.returns-in-Key-clause-some
returns-in-Key-clause-some g c =
    let v : View = c.args.pass.now.knows in
    let u : View = c.key_at.new.pass.knows in
    let at : ℕ = c.args.cell.generation in
    let i : ℕ = c.args.cell.index in
    record { word = c.in-Key.ensures.word; seen = key_by at i c.in-Key.key v u c.in-Key.ensures.seen.looks.steps c.in-Key.ensures.seen.word }
