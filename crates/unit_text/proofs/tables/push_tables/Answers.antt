use Rattle.std.proofs.Common.{◌+◌, ◌-◌, sym, subst, ◌∙◌, length, Some, None, Ok, arith}
use Rattle.std.specs.declared.alloc.AllocError.{AllocError}
use Rattle.unit_text.specs.Tables.{AddsTo, headed_table, tables_from, tables_text}
use Rattle.unit_text.proofs.TableLaws.{nothing_more, tables_next, tables_end, tables_then, tables_stop}
use Rattle.unit_text.proofs.tables.push_tables.Goals as goal

pub loop-table-init : goal.loop-table-init
unfolding tables_text
loop-table-init c = record {
  most = length c.args.section.now + 1;
  enough = omega arith;
  inside = omega arith;
  later = λ r new p. p;
}

pub loop-table-preserved : goal.loop-table-preserved
loop-table-preserved c =
    let l = c.loop-table in
    let i = l.invariant in
    let section = c.args.section.now in
    let ends = rw c.in-Ok.is at c.in_ok-next.ensures.ends in
    record {
      most = i.most - 1;
      enough = omega (arith, ends.0);
      inside = ends.1;
      later = λ r new p. i.later r new (subst (λ t. AddsTo r l.out.items new t)
          (sym (tables_next section i.most l.table (omega arith) c.loop-table-test.true))
          (tables_then r l.out.items c.push_headed.new.out.items new (headed_table section l.table) c.in-Ok.next (λ next. tables_from (i.most - 1) section next)
          (sym c.in_ok-next.ensures.text.0 ∙ c.in-Ok.is) c.in_ok-next.ensures.text.1 p));
    }

pub returns-in-Err : goal.returns-in-Err
returns-in-Err c =
    let l = c.loop-table in
    let i = l.invariant in
    let section = c.args.section.now in
    i.later (Ok (Some c.in-Err.fault)) c.push_headed.new.out.items (subst (λ t. AddsTo {E = AllocError} (Ok (Some c.in-Err.fault)) l.out.items c.push_headed.new.out.items t)
    (sym (tables_next section i.most l.table (omega arith) c.loop-table-test.true))
    (tables_stop l.out.items c.push_headed.new.out.items (headed_table section l.table) c.in-Err.fault (λ next. tables_from (i.most - 1) section next)
    (sym c.in_ok-next.ensures.text.0 ∙ c.in-Err.is) c.in_ok-next.ensures.text.1))

pub returns : goal.returns
returns c =
    let l = c.loop-table in
    l.invariant.later (Ok None) l.out.items (nothing_more l.out.items None (tables_from l.invariant.most c.args.section.now l.table)
    (tables_end c.args.section.now l.invariant.most l.table (omega arith) c.loop-table-test.false))
