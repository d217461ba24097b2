use Rattle.std.proofs.Common.{ℕ, refl, sym, subst, arith}
use Rattle.map_core.specs.declared.view.View.{View}
use Rattle.map_core.specs.Machine.{greatest, IsWord}
use Rattle.map_cells.proofs.WalkLemmas.{walks_then, value_walks}
use Rattle.block_moves.proofs.MoveLemmas.{word_on, value_by, current_on, sealed_walks}
use Rattle.block_moves.proofs.blocks.value_or_seal.Goals as goal

pub returns-in-Unset-seal_value-clause-walk : goal.returns-in-Unset-seal_value-clause-walk
returns-in-Unset-seal_value-clause-walk g c =
    let v : View = c.args.pass.now.knows in
    let u : View = c.value_at.new.pass.knows in
    let w : View = c.seal_value.new.pass.knows in
    let at : ℕ = c.args.cell.generation in
    let i : ℕ = c.args.cell.index in
    walks_then g.F.Facts.fits v u w (value_walks g.F.Facts.fits at i _ v u c.in-Unset.ensures.seen) (sealed_walks g.F.Facts.fits at i _ u w c.in-Unset-seal_value.ensures.sealed)

pub returns-in-Unset-seal_value-clause-none : goal.returns-in-Unset-seal_value-clause-none
returns-in-Unset-seal_value-clause-none g c =
    let v : View = c.args.pass.now.knows in
    let u : View = c.value_at.new.pass.knows in
    let w : View = c.seal_value.new.pass.knows in
    let at : ℕ = c.args.cell.generation in
    let i : ℕ = c.args.cell.index in
    value_by at i greatest u w c.in-Unset-seal_value.ensures.sealed.looks.steps (c.in-Unset-seal_value.ensures.sealed.won refl)

pub returns-in-Unset-seal_value-clause-key : goal.returns-in-Unset-seal_value-clause-key
returns-in-Unset-seal_value-clause-key g c =
    let v : View = c.args.pass.now.knows in
    let u : View = c.value_at.new.pass.knows in
    let w : View = c.seal_value.new.pass.knows in
    let at : ℕ = c.args.cell.generation in
    let i : ℕ = c.args.cell.index in
    word_on at i c.args.key u w c.in-Unset-seal_value.ensures.sealed.looks.steps (word_on at i c.args.key v u c.in-Unset.ensures.seen.looks.steps c.requires.key)

pub returns-in-Closed-seal_value-clause-walk : goal.returns-in-Closed-seal_value-clause-walk
returns-in-Closed-seal_value-clause-walk g c =
    let v : View = c.args.pass.now.knows in
    let u : View = c.value_at.new.pass.knows in
    let w : View = c.seal_value.new.pass.knows in
    let at : ℕ = c.args.cell.generation in
    let i : ℕ = c.args.cell.index in
    walks_then g.F.Facts.fits v u w (value_walks g.F.Facts.fits at i _ v u c.in-Unset.ensures.seen) (sealed_walks g.F.Facts.fits at i _ u w c.in-Closed-seal_value.ensures.sealed)

pub returns-in-Closed-seal_value-clause-none : goal.returns-in-Closed-seal_value-clause-none
returns-in-Closed-seal_value-clause-none g c =
    let v : View = c.args.pass.now.knows in
    let u : View = c.value_at.new.pass.knows in
    let w : View = c.seal_value.new.pass.knows in
    let at : ℕ = c.args.cell.generation in
    let i : ℕ = c.args.cell.index in
    value_by at i greatest u w c.in-Closed-seal_value.ensures.sealed.looks.steps (c.in-Closed-seal_value.ensures.sealed.lost (λ e. omega arith))

pub returns-in-Closed-seal_value-clause-key : goal.returns-in-Closed-seal_value-clause-key
returns-in-Closed-seal_value-clause-key g c =
    let v : View = c.args.pass.now.knows in
    let u : View = c.value_at.new.pass.knows in
    let w : View = c.seal_value.new.pass.knows in
    let at : ℕ = c.args.cell.generation in
    let i : ℕ = c.args.cell.index in
    word_on at i c.args.key u w c.in-Closed-seal_value.ensures.sealed.looks.steps (word_on at i c.args.key v u c.in-Unset.ensures.seen.looks.steps c.requires.key)

pub returns-in-Value-seal_value-clause-walk : goal.returns-in-Value-seal_value-clause-walk
returns-in-Value-seal_value-clause-walk g c =
    let v : View = c.args.pass.now.knows in
    let u : View = c.value_at.new.pass.knows in
    let w : View = c.seal_value.new.pass.knows in
    let at : ℕ = c.args.cell.generation in
    let i : ℕ = c.args.cell.index in
    walks_then g.F.Facts.fits v u w (value_walks g.F.Facts.fits at i _ v u c.in-Unset.ensures.seen) (sealed_walks g.F.Facts.fits at i _ u w c.in-Value-seal_value.ensures.sealed)

pub returns-in-Value-seal_value-clause-some : goal.returns-in-Value-seal_value-clause-some
returns-in-Value-seal_value-clause-some g c =
    let v : View = c.args.pass.now.knows in
    let u : View = c.value_at.new.pass.knows in
    let w : View = c.seal_value.new.pass.knows in
    let at : ℕ = c.args.cell.generation in
    let i : ℕ = c.args.cell.index in
    let word = c.in-Value-seal_value.ensures.word in
    let pos = word.0 in
    record { word = word; seen = value_by at i c.in-Value-seal_value.value u w c.in-Value-seal_value.ensures.sealed.looks.steps (c.in-Value-seal_value.ensures.sealed.lost (λ e. omega arith)) }

pub returns-in-Value-seal_value-clause-key : goal.returns-in-Value-seal_value-clause-key
returns-in-Value-seal_value-clause-key g c =
    let v : View = c.args.pass.now.knows in
    let u : View = c.value_at.new.pass.knows in
    let w : View = c.seal_value.new.pass.knows in
    let at : ℕ = c.args.cell.generation in
    let i : ℕ = c.args.cell.index in
    word_on at i c.args.key u w c.in-Value-seal_value.ensures.sealed.looks.steps (word_on at i c.args.key v u c.in-Unset.ensures.seen.looks.steps c.requires.key)

pub returns-in-Closed-clause-walk : goal.returns-in-Closed-clause-walk
returns-in-Closed-clause-walk g c =
    let v : View = c.args.pass.now.knows in
    let u : View = c.value_at.new.pass.knows in
    let at : ℕ = c.args.cell.generation in
    let i : ℕ = c.args.cell.index in
    value_walks g.F.Facts.fits at i _ v u c.in-Closed.ensures.seen

pub returns-in-Closed-clause-none : goal.returns-in-Closed-clause-none
returns-in-Closed-clause-none g c =
    let v : View = c.args.pass.now.knows in
    let u : View = c.value_at.new.pass.knows in
    let at : ℕ = c.args.cell.generation in
    let i : ℕ = c.args.cell.index in
    value_by at i greatest v u c.in-Closed.ensures.seen.looks.steps c.in-Closed.ensures.seen.word

pub returns-in-Closed-clause-key : goal.returns-in-Closed-clause-key
returns-in-Closed-clause-key g c =
    let v : View = c.args.pass.now.knows in
    let u : View = c.value_at.new.pass.knows in
    let at : ℕ = c.args.cell.generation in
    let i : ℕ = c.args.cell.index in
    word_on at i c.args.key v u c.in-Closed.ensures.seen.looks.steps c.requires.key

pub returns-in-Value-clause-walk : goal.returns-in-Value-clause-walk
returns-in-Value-clause-walk g c =
    let v : View = c.args.pass.now.knows in
    let u : View = c.value_at.new.pass.knows in
    let at : ℕ = c.args.cell.generation in
    let i : ℕ = c.args.cell.index in
    value_walks g.F.Facts.fits at i _ v u c.in-Value.ensures.seen

pub returns-in-Value-clause-some : goal.returns-in-Value-clause-some
returns-in-Value-clause-some g c =
    let v : View = c.args.pass.now.knows in
    let u : View = c.value_at.new.pass.knows in
    let at : ℕ = c.args.cell.generation in
    let i : ℕ = c.args.cell.index in
    record { word = c.in-Value.ensures.word; seen = value_by at i c.in-Value.value v u c.in-Value.ensures.seen.looks.steps c.in-Value.ensures.seen.word }

pub returns-in-Value-clause-key : goal.returns-in-Value-clause-key
returns-in-Value-clause-key g c =
    let v : View = c.args.pass.now.knows in
    let u : View = c.value_at.new.pass.knows in
    let at : ℕ = c.args.cell.generation in
    let i : ℕ = c.args.cell.index in
    word_on at i c.args.key v u c.in-Value.ensures.seen.looks.steps c.requires.key

pub seal_value-requires-clause-key : goal.seal_value-requires-clause-key
seal_value-requires-clause-key g c =
    let v : View = c.args.pass.now.knows in
    let u : View = c.value_at.new.pass.knows in
    let at : ℕ = c.args.cell.generation in
    let i : ℕ = c.args.cell.index in
    let h = word_on at i c.args.key v u c.in-Unset.ensures.seen.looks.steps c.requires.key in subst IsWord (sym h.seen) h.word

pub seal_value-requires-clause-current : goal.seal_value-requires-clause-current
seal_value-requires-clause-current g c =
    let v : View = c.args.pass.now.knows in
    let u : View = c.value_at.new.pass.knows in
    let at : ℕ = c.args.cell.generation in
    let i : ℕ = c.args.cell.index in
    current_on at v u c.in-Unset.ensures.seen.looks.steps c.requires.current
