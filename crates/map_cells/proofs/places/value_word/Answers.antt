use Rattle.std.proofs.Common.{◌<◌, ◌≤◌, ◌+◌, ℕ, arith, sym, ap, subst, ◌∙◌}
use Rattle.map_core.specs.Places.{word_count}
use Rattle.map_cells.proofs.WordSteps.{most_words, words_small, value_within, value_word_is}
use Rattle.map_cells.proofs.places.value_word.Goals as goal

pub overflow_add-result : goal.overflow_add-result
overflow_add-result c =
    let w : ℕ = word_count c.args.layout.now in
    let small : w ≤ most_words = words_small c.args.layout.now in
    let low : c.key_word.result < w = c.key_word.ensures.within in omega arith

pub returns-clause-place : goal.returns-clause-place
returns-clause-place c = ap (λ (n : ℕ). n + 1) c.key_word.ensures.place ∙ value_word_is c.args.layout.now c.args.cell.generation c.args.cell.index

pub returns-clause-within : goal.returns-clause-within
returns-clause-within c =
    let l = c.args.layout.now in
    let is = ap (λ (n : ℕ). n + 1) c.key_word.ensures.place ∙ value_word_is l c.args.cell.generation c.args.cell.index in
    subst (λ (n : ℕ). n < word_count l) (sym is) (value_within l c.args.cell.generation c.args.cell.index c.requires)
