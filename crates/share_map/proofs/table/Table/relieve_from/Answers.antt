use Rattle.std.proofs.Common.{◌≤◌, length, arith}
use Rattle.map_core.specs.declared.view.View.{View}
use Rattle.map_core.specs.Places.{word_count}
use Rattle.map_cells.proofs.WordSteps.{most_words, words_small}
use Rattle.share_map.proofs.table.Table.relieve_from.Goals as goal

pub overflow_mul-count : goal.overflow_mul-count
overflow_mul-count g c =
    let v : View = c.args.pass.now.knows in
    let high : c.args.count ≤ length v.front = c.requires.most in
    let small : length v.front ≤ word_count v.layout = c.recall.ensures.small in
    let most : word_count v.layout ≤ most_words = words_small v.layout in omega arith
