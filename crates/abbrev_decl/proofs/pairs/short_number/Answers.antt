use Rattle.std.proofs.Common.{arith}
use Rattle.abbrev_decl.proofs.ShortPairs.{one_byte_number, two_byte_number}
use Rattle.abbrev_decl.proofs.pairs.short_number.Goals as goal

pub returns-then-first-lt128 : goal.returns-then-first-lt128
returns-then-first-lt128 c = (
  one_byte_number c.args.section.now c.args.place c.from.result c.in-len2-up.len_at_least c.if-first-lt128.true c.from.ensures,
  omega (arith, c.in-len2-up.len_at_least),
  omega (arith, c.in-len2-up.len_at_least),
)

pub returns-then-second-lt128 : goal.returns-then-second-lt128
returns-then-second-lt128 c = (
  two_byte_number c.args.section.now c.args.place c.from-then-second-lt128.result c.from-then-second-lt128-2.result c.in-len2-up.len_at_least
      (omega (arith, c.if-first-lt128.false)) c.if-second-lt128.true c.from-then-second-lt128.ensures c.from-then-second-lt128-2.ensures,
  omega (arith, c.in-len2-up.len_at_least),
  omega (arith, c.in-len2-up.len_at_least),
)
