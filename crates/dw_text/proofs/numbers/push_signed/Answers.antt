use Rattle.std.proofs.Common.{◌∷◌, [], ap, subst, sym, ◌∙◌, w64}
use Rattle.std.specs.Prelude.{pos}
use Rattle.std.proofs.Math.Facts.{to_z-of_z}
use Rattle.std.proofs.Math.IntN.{nat_abs}
use Rattle.std.specs.Int.Signed.{lt_z}
use Rattle.dw_text.specs.Added.{Adds, labelled}
use Rattle.dw_text.specs.Numbers.{decimal}
use Rattle.dw_text.proofs.Laws.{signed_below}
use Rattle.dw_text.proofs.numbers.push_signed.Goals as goal

pub returns-then-number-lt0 : goal.returns-then-number-lt0
returns-then-number-lt0 c =
    let z = c.args.number in
    let same = to_z-of_z {w = w64} {z = z} c.ranges.number in
    let below = ap (λ x. lt_z x (pos 0)) (sym same) ∙ c.if-number-lt0.true in
    let size = c.unsigned_abs.ensures.value ∙ ap nat_abs same in
    subst (λ t. Adds c.push_decimal_after.result c.args.out.now.items c.push_decimal_after.new.out.items t)
    (ap (λ n. labelled (45 ∷ []) (decimal n)) size ∙ sym (signed_below z below)) c.push_decimal_after.ensures
