use Rattle.std.proofs.Common.{◌+◌, ◌-◌, ap, sym, subst, ◌∙◌, [], length, Ok, Err, arith}
use Rattle.unit_text.specs.Declarations.{declaration_text}
use Rattle.unit_text.specs.Tables.{AddsTo, table_from, table_from_start}
use Rattle.unit_text.proofs.TableLaws.{adds_to_then, nothing_more, table_next, table_zero, table_fault}
use Rattle.unit_text.proofs.tables.push_table.Goals as goal

pub declarations-init : goal.declarations-init
unfolding table_from_start
declarations-init c = record {
  most = length c.args.section.now + 1;
  enough = omega arith;
  forward = omega arith;
  inside = c.requires;
  later = λ r new p. p;
}

pub returns-in-Err-clause-text : goal.returns-in-Err-clause-text
returns-in-Err-clause-text c =
    let l = c.declarations in
    l.invariant.later (Ok (Err c.in-Err.fault)) l.out.items (nothing_more l.out.items (Err c.in-Err.fault) (table_from l.invariant.most c.args.section.now l.place)
    (table_fault c.args.section.now l.invariant.most l.place c.in-Err.fault (omega arith) (sym c.in-Err.ensures.answer)))

pub declarations-preserved : goal.declarations-preserved
declarations-preserved c =
    let l = c.declarations in
    let i = l.invariant in
    let section = c.args.section.now in
    let pair = c.in-Some.pair in
    let ends = rw c.in-Some.is at c.in-Ok.ensures.inside in
    record {
      most = i.most - 1;
      enough = omega (arith, ends.0);
      forward = omega (arith, ends.0);
      inside = ends.1;
      later = λ r new p. i.later r new (subst (λ t. AddsTo r l.out.items new t)
          (sym (table_next section i.most l.place pair.0 pair.1 (omega arith) (sym c.in-Ok.ensures.answer ∙ ap (λ found. Ok found) c.in-Some.is)))
          (adds_to_then r l.out.items c.push_declaration.new.out.items new (declaration_text pair.0) (table_from (i.most - 1) section pair.1) c.in_ok-push_declaration-in-Some.ensures p));
    }

pub returns-in-None-clause-text : goal.returns-in-None-clause-text
returns-in-None-clause-text c =
    let l = c.declarations in
    l.invariant.later (Ok (Ok c.behind_zero.result)) l.out.items (nothing_more l.out.items (Ok c.behind_zero.result) (table_from l.invariant.most c.args.section.now l.place)
    (table_zero c.args.section.now l.invariant.most l.place (omega arith) (sym c.in-Ok.ensures.answer ∙ ap (λ found. Ok found) c.in-None.is)
    ∙ ap (λ next. ([], Ok next)) (sym c.behind_zero.ensures.place)))
