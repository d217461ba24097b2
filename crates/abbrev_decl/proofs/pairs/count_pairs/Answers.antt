use Rattle.std.proofs.Common.{Some, None, sym, ap, length, arith}
use Rattle.abbrev_decl.proofs.PairLaws.{takes_next, takes_none, takes_fault, pair_stands}
use Rattle.abbrev_decl.proofs.pairs.count_pairs.Goals as goal

pub pairs-preserved : goal.pairs-preserved
pairs-preserved c =
    let stands = pair_stands _ c.in-Ok-Some-default.next _ (Some c.in-Ok-Some-default.field-0-0-0)
    c.in-Ok-Some-default.ensures.answer c.in-Ok-Some-default.field-0-0-is in
    let taken = takes_next c.args.section.now c.pairs.place c.in-Ok-Some-default.next c.in-Ok-Some-default.field-0-0-0 stands c.pairs.invariant.left.read in
    let one = ap length taken.0 in
    record {
      left = record { inside = omega (arith, c.in-Ok-Some-default.ensures.inside); read = taken.1 };
      counted = omega (arith, one, c.pairs.invariant.counted);
      fewer = omega (arith, c.in-Ok-Some-default.ensures.inside, c.pairs.invariant.fewer);
    }

pub returns-in-Ok-None-default : goal.returns-in-Ok-None-default
returns-in-Ok-None-default c =
    let stands = pair_stands _ c.in-Ok-None-default.field-0-1 _ None c.in-Ok-None-default.ensures.answer c.in-Ok-None-default.field-0-0-is in
    let none = ap length (takes_none c.args.section.now c.pairs.place c.in-Ok-None-default.field-0-1 stands) in
    omega (arith, none, c.pairs.invariant.counted)

pub unreachable-requires : goal.unreachable-requires
unreachable-requires c =
    takes_fault c.args.section.now c.pairs.place c.in-Err.field-0 (sym c.in-Err.ensures.answer) c.pairs.invariant.left.read
