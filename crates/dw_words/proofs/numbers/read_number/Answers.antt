use Rattle.std.proofs.Common.{arith, sym, ◌∙◌}
use Rattle.dw_words.proofs.NumberLemmas.{number_parsed}
use Rattle.dw_words.proofs.numbers.read_number.Goals as goal

pub returns : goal.returns
returns c =
    let plain = sym (c.if-starts_with.ensures.byte (omega arith) (omega arith) (λ w o h. h)) in
    c.ok.ensures.value ∙ number_parsed c.args.base c.args.most c.args.word.now _ (omega (arith, c.if-word-most.false)) plain c.from_str_radix.ensures.value
