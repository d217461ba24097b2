use Rattle.std.proofs.Common.{Ok, ap, sym, subst, List, ℕ, arith, ◌∙◌}
use Rattle.abbrev_decl.proofs.WalkLaws.{walk_broken, walk_missing}
use Rattle.walked_tables.specs.WalkedTables.{IsWalked}
use Rattle.walked_tables.proofs.Walking.{walked_more}
use Rattle.walked_tables.proofs.table_walker.read_next.Goals as goal

pub returns-in-Err-clause-fault : goal.returns-in-Err-clause-fault
returns-in-Err-clause-fault g c = λ code past.
    c.requires.others code past ∙ walk_broken c.args.section.now c.args.walked.now.next code c.in-Err.fault (sym c.in-Err.ensures.answer)

pub returns-in_default-clause-fault : goal.returns-in_default-clause-fault
returns-in_default-clause-fault g c = λ code past.
    c.requires.others code past ∙ walk_missing c.args.section.now c.args.walked.now.next code (sym c.in-Ok.ensures.answer ∙ ap (λ f. Ok f) c.in_default.is)

pub returns-clause-walked : goal.returns-clause-walked
returns-clause-walked g c =
    let kept = rw c.if-not-keep_place.false at c.keep_place.ensures in
    let inside = rw c.in-Some.is at c.in-Ok.ensures.inside in
    subst (λ (places : List ℕ). IsWalked c.args.section.now c.args.walked.now.table places c.in-Some.next) (sym kept)
    (walked_more c.args.section.now c.args.walked.now.table c.args.walked.now.places.items c.args.walked.now.next c.in-Some.next c.in-Some.declaration
    c.requires (sym c.in-Ok.ensures.answer ∙ ap (λ f. Ok f) c.in-Some.is)
    (omega (arith, c.code.ensures, c.if-code-len.false, c.len.ensures, c.args.walked.now.places.ok.0)) inside.1)
