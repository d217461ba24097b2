use Rattle.std.proofs.Common.{◌∷◌, [], ◌++◌, ap, sym, ◌∙◌, w64}
use Rattle.std.specs.Prelude.{pos}
use Rattle.std.proofs.Math.Facts.{to_z-of_z}
use Rattle.std.proofs.Math.IntN.{nat_abs}
use Rattle.std.specs.Int.Signed.{lt_z}
use Rattle.dw_text.specs.Added.{labelled}
use Rattle.dw_text.specs.Numbers.{decimal}
use Rattle.dw_text.proofs.Laws.{signed_below, signed_above}
use Rattle.dw_text.proofs.line_buffer.LineBuffer.prepend_signed.Goals as goal

pub returns-then-number-lt0-clause-text : goal.returns-then-number-lt0-clause-text
returns-then-number-lt0-clause-text c =
    let z = c.args.number in
    let same = to_z-of_z {w = w64} {z = z} c.ranges.number in
    let below = ap (λ x. lt_z x (pos 0)) (sym same) ∙ c.if-number-lt0.true in
    let size = c.unsigned_abs.ensures.value ∙ ap nat_abs same in
    c.prepend_decimal_after.ensures.text ∙ ap (λ t. t ++ c.args.self.now) (ap (λ n. labelled (45 ∷ []) (decimal n)) size ∙ sym (signed_below z below))

pub returns-else-number-lt0-clause-text : goal.returns-else-number-lt0-clause-text
returns-else-number-lt0-clause-text c =
    let z = c.args.number in
    let same = to_z-of_z {w = w64} {z = z} c.ranges.number in
    let above = ap (λ x. lt_z x (pos 0)) (sym same) ∙ c.if-number-lt0.false in
    let size = c.unsigned_abs-else-number-lt0.ensures.value ∙ ap nat_abs same in
    c.prepend_decimal_after-else-number-lt0.ensures.text ∙ ap (λ t. t ++ c.args.self.now) (ap (λ n. labelled [] (decimal n)) size ∙ sym (signed_above z above))
