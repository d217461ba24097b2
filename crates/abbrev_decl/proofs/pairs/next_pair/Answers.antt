use Rattle.std.proofs.Common.{Some, None, sym, arith}
use Rattle.abbrev_decl.proofs.PairLaws.{takes_next, takes_none, takes_fault, pair_stands}
use Rattle.abbrev_decl.proofs.pairs.next_pair.Goals as goal

pub returns-in-Ok-Some-default : goal.returns-in-Ok-Some-default
returns-in-Ok-Some-default c =
    let stands = pair_stands _ c.in-Ok-Some-default.next _ (Some c.in-Ok-Some-default.pair)
    c.in-Ok-Some-default.ensures.answer c.in-Ok-Some-default.field-0-0-is in
    let taken = takes_next c.args.section.now c.args.place c.in-Ok-Some-default.next c.in-Ok-Some-default.pair stands c.requires.read in
    (taken.0, record { inside = omega (arith, c.in-Ok-Some-default.ensures.inside); read = taken.1 })

pub returns-in-Ok-None-default : goal.returns-in-Ok-None-default
returns-in-Ok-None-default c =
    let stands = pair_stands _ c.in-Ok-None-default.field-0-1 _ None c.in-Ok-None-default.ensures.answer c.in-Ok-None-default.field-0-0-is in
    takes_none c.args.section.now c.args.place c.in-Ok-None-default.field-0-1 stands

pub returns-in-Err : goal.returns-in-Err
returns-in-Err c = absurd (takes_fault c.args.section.now c.args.place c.in-Err.field-0 (sym c.in-Err.ensures.answer) c.requires.read)
