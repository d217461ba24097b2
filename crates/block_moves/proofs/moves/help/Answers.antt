use Rattle.std.proofs.Common.{ℕ, ◌≤◌, length, arith}
use Rattle.map_core.specs.declared.view.View.{View}
use Rattle.map_core.specs.Places.{word_count}
use Rattle.map_cells.proofs.WordSteps.{most_words, words_small}
use Rattle.map_cells.proofs.WalkLemmas.{rises_then}
use Rattle.block_moves.proofs.MoveLemmas.{loaded_rise}
use Rattle.block_moves.proofs.moves.help.Goals as goal

pub returns-then-generation-layout-clause-rises : goal.returns-then-generation-layout-clause-rises
returns-then-generation-layout-clause-rises g c =
    let v : View = c.args.pass.now.knows in
    let u : View = c.current-generation.new.pass.knows in
    let w : View = c.counted-count.new.pass.knows in
    let n : ℕ = c.current-generation.result in
    let m : ℕ = c.counted-count.result in
    let a = c.current-generation.ensures.seen in
    let b = c.counted-count.ensures.seen in
    loaded_rise g.F.Facts.fits n m v u w a b

pub returns-then-count-cells-clause-rises : goal.returns-then-count-cells-clause-rises
returns-then-count-cells-clause-rises g c =
    let v : View = c.args.pass.now.knows in
    let u : View = c.current-generation.new.pass.knows in
    let w : View = c.counted-count.new.pass.knows in
    let n : ℕ = c.current-generation.result in
    let m : ℕ = c.counted-count.result in
    let a = c.current-generation.ensures.seen in
    let b = c.counted-count.ensures.seen in
    loaded_rise g.F.Facts.fits n m v u w a b

pub overflow_mul-count : goal.overflow_mul-count
overflow_mul-count g c =
    let v : View = c.args.pass.now.knows in
    let u : View = c.current-generation.new.pass.knows in
    let w : View = c.counted-count.new.pass.knows in
    let n : ℕ = c.current-generation.result in
    let m : ℕ = c.counted-count.result in
    let a = c.current-generation.ensures.seen in
    let b = c.counted-count.ensures.seen in
    let high : m ≤ length w.front = b.high in
    let small : length w.front ≤ word_count w.layout = b.facts.small in
    let most : word_count w.layout ≤ most_words = words_small w.layout in omega arith

pub returns-then-move_generation-clause-rises : goal.returns-then-move_generation-clause-rises
returns-then-move_generation-clause-rises g c =
    let v : View = c.args.pass.now.knows in
    let u : View = c.current-generation.new.pass.knows in
    let w : View = c.counted-count.new.pass.knows in
    let n : ℕ = c.current-generation.result in
    let m : ℕ = c.counted-count.result in
    let a = c.current-generation.ensures.seen in
    let b = c.counted-count.ensures.seen in
    rises_then v w c.move_generation.new.pass.knows (loaded_rise g.F.Facts.fits n m v u w a b) c.move_generation.ensures.rises

pub returns-else-move_generation-clause-rises : goal.returns-else-move_generation-clause-rises
returns-else-move_generation-clause-rises g c =
    let v : View = c.args.pass.now.knows in
    let u : View = c.current-generation.new.pass.knows in
    let w : View = c.counted-count.new.pass.knows in
    let n : ℕ = c.current-generation.result in
    let m : ℕ = c.counted-count.result in
    let a = c.current-generation.ensures.seen in
    let b = c.counted-count.ensures.seen in
    rises_then v w c.move_generation.new.pass.knows (loaded_rise g.F.Facts.fits n m v u w a b) c.move_generation.ensures.rises
