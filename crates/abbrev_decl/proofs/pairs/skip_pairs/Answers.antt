use Rattle.std.proofs.Common.{Some, None, Ok, Err, sym, arith}
use Rattle.abbrev_decl.proofs.PairLaws.{skips_next, skips_end, pairs_fault, pair_stands}
use Rattle.abbrev_decl.proofs.pairs.skip_pairs.Goals as goal

pub pairs-preserved : goal.pairs-preserved
pairs-preserved c =
    let stands = pair_stands _ c.in-Ok-Some-default.next _ (Some c.in-Ok-Some-default.field-0-0-0)
    c.in-Ok-Some-default.ensures.answer c.in-Ok-Some-default.field-0-0-is in
    record {
      forward = omega (arith, c.in-Ok-Some-default.ensures.inside);
      inside = omega (arith, c.in-Ok-Some-default.ensures.inside);
      walk = λ r h. c.pairs.invariant.walk r
          (skips_next r c.args.section.now c.pairs.place c.in-Ok-Some-default.next c.in-Ok-Some-default.field-0-0-0 stands h);
    }

pub returns-in-Ok-None-default-clause-answer : goal.returns-in-Ok-None-default-clause-answer
returns-in-Ok-None-default-clause-answer c =
    let stands = pair_stands _ c.in-Ok-None-default.next _ None c.in-Ok-None-default.ensures.answer c.in-Ok-None-default.field-0-0-is in
    c.pairs.invariant.walk (Ok c.in-Ok-None-default.next) (skips_end c.args.section.now c.pairs.place c.in-Ok-None-default.next stands)

pub returns-in-Err-clause-answer : goal.returns-in-Err-clause-answer
returns-in-Err-clause-answer c =
    c.pairs.invariant.walk (Err c.in-Err.fault) (pairs_fault c.args.section.now c.pairs.place c.in-Err.fault (sym c.in-Err.ensures.answer))
