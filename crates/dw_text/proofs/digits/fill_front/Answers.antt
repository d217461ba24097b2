use Rattle.std.proofs.Common.{◌≡◌, ◌+◌, ◌-◌, ◌++◌, ◌∷◌, sym, ap, ◌∙◌, drop, arith}
use Rattle.dw_text.specs.Numbers.{hex}
use Rattle.dw_text.proofs.Fill.{put_before, hex_pair, hex_one}
use Rattle.dw_text.proofs.digits.fill_front.Goals as goal

pub returns-then-byte-ge16-clause-text : goal.returns-then-byte-ge16-clause-text
returns-then-byte-ge16-clause-text c =
    let e : c.args.end - 2 + 2 ≡ c.args.end = omega arith in
    c.fill_pair.ensures
    ∙ ap (λ t. t ++ drop (c.args.end - 2 + 2) c.args.into.now) (sym (hex_pair c.args.byte c.if-byte-ge16.true c.ranges.byte.fits))
    ∙ ap (λ j. hex c.args.byte ++ drop j c.args.into.now) e

pub returns-clause-text : goal.returns-clause-text
returns-clause-text c =
    put_before c.args.into.now c.args.end c.glyph.result (omega arith) (omega arith)
    ∙ ap (λ d. d ∷ drop c.args.end c.args.into.now) c.glyph.ensures
    ∙ ap (λ t. t ++ drop c.args.end c.args.into.now) (sym (hex_one c.args.byte c.if-byte-ge16.false))
