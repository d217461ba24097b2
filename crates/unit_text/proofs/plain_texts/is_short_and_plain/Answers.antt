use Rattle.std.proofs.Common.{◌≡◌, length, subst, arith}
use Rattle.std.proofs.lemmas.Bool.Decides.{nat_tests}
use Rattle.dw_text.specs.Escapes.{IsPlainFrom}
use Rattle.dw_text.specs.Laws.{plain_all}
use Rattle.unit_text.proofs.plain_texts.is_short_and_plain.Goals as goal

pub returns-then-text-le-LONGEST-clause-plain : goal.returns-then-text-le-LONGEST-clause-plain
returns-then-text-le-LONGEST-clause-plain c = λ whole.
    let e : c.plain_end.result ≡ length c.args.text.now = grind (arith, nat_tests, whole) in
    plain_all c.args.text.now (subst (λ n. IsPlainFrom c.args.text.now 0 n) e c.plain_end.ensures.plain)
