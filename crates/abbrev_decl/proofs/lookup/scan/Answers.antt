use Rattle.std.proofs.Common.{◌≢◌, Ok, sym, ap, ◌∙◌, arith}
use Rattle.abbrev_decl.specs.Counting.{ticked_by}
use Rattle.abbrev_decl.specs.Lookup.{declarations_walked}
use Rattle.abbrev_decl.proofs.CountLaws.{count_found, count_next, count_missing, count_broken}
use Rattle.abbrev_decl.proofs.WalkLaws.{walk_found, walk_next, walk_missing, walk_broken}
use Rattle.abbrev_decl.proofs.lookup.scan.Goals as goal

pub returns-in-Err-clause-answer : goal.returns-in-Err-clause-answer
returns-in-Err-clause-answer g c =
    sym (walk_broken c.args.section.now c.walk.place c.args.code c.in-Err.fault (sym c.in-Err.ensures.answer)) ∙ c.walk.invariant.walk

pub returns-in-Err-clause-counted : goal.returns-in-Err-clause-counted
returns-in-Err-clause-counted g c =
    c.in-Err.ensures.counted
    ∙ sym (count_broken c.args.section.now c.walk.place c.args.code c.walk.steps c.in-Err.fault (sym c.in-Err.ensures.answer))
    ∙ c.walk.invariant.counted

pub returns-then-code-clause-answer : goal.returns-then-code-clause-answer
returns-then-code-clause-answer g c =
    sym (walk_found c.args.section.now c.walk.place c.in-Some.pair.1 c.args.code c.in-Some.pair.0
    (sym c.in-Ok.ensures.answer ∙ ap Ok c.in-Some.is) (sym c.code.ensures ∙ c.if-code.true)) ∙ c.walk.invariant.walk

pub returns-then-code-clause-counted : goal.returns-then-code-clause-counted
returns-then-code-clause-counted g c =
    c.in-Ok.ensures.counted
    ∙ sym (count_found c.args.section.now c.walk.place c.in-Some.pair.1 c.args.code c.walk.steps c.in-Some.pair.0
    (sym c.in-Ok.ensures.answer ∙ ap Ok c.in-Some.is) (sym c.code.ensures ∙ c.if-code.true))
    ∙ c.walk.invariant.counted

pub walk-preserved : goal.walk-preserved
walk-preserved g c =
    let stands = sym c.in-Ok.ensures.answer ∙ ap Ok c.in-Some.is in
    let other : c.in-Some.pair.0.code ≢ c.args.code = λ same. c.if-code.false (c.code.ensures ∙ same) in
    record {
      inside = (rw c.in-Some.is at c.in-Ok.ensures.inside).1;
      walk = sym (walk_next c.args.section.now c.walk.place c.in-Some.pair.1 c.args.code c.in-Some.pair.0 stands other) ∙ c.walk.invariant.walk;
      counted = ap (λ n. ticked_by (declarations_walked c.args.section.now c.in-Some.pair.1 c.args.code) n) c.in-Ok.ensures.counted
          ∙ sym (count_next c.args.section.now c.walk.place c.in-Some.pair.1 c.args.code c.walk.steps c.in-Some.pair.0 stands other)
          ∙ c.walk.invariant.counted;
      never_less = omega (arith, c.in-Ok.ensures.never_less, c.walk.invariant.never_less);
    }

pub returns-in-None-clause-answer : goal.returns-in-None-clause-answer
returns-in-None-clause-answer g c =
    sym (walk_missing c.args.section.now c.walk.place c.args.code (sym c.in-Ok.ensures.answer ∙ ap Ok c.in-None.is)) ∙ c.walk.invariant.walk

pub returns-in-None-clause-counted : goal.returns-in-None-clause-counted
returns-in-None-clause-counted g c =
    c.in-Ok.ensures.counted
    ∙ sym (count_missing c.args.section.now c.walk.place c.args.code c.walk.steps (sym c.in-Ok.ensures.answer ∙ ap Ok c.in-None.is))
    ∙ c.walk.invariant.counted
