use Rattle.std.proofs.Common.{arith, ◌∙◌}
use Rattle.abbrev_decl.proofs.ShortPairs.{two_bytes}
use Rattle.abbrev_decl.proofs.pairs.short_pair.Goals as goal

pub returns-then-from-ne-IMPLICIT_CONST : goal.returns-then-from-ne-IMPLICIT_CONST
returns-then-from-ne-IMPLICIT_CONST c = (
  two_bytes c.args.section.now c.args.place c.in-len2-up.len_at_least c.if-name-lt128.true c.if-form-lt128.true
      (λ same. c.if-from-ne-IMPLICIT_CONST.true (c.from.ensures ∙ same)),
  omega (arith, c.in-len2-up.len_at_least),
)
