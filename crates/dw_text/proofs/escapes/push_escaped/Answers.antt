use Rattle.std.proofs.Common.{sym, ap, ◌∙◌, ◌++◌, append-nil, arith}
use Rattle.std.specs.Prelude.{Ok}
use Rattle.dw_text.proofs.Laws.{run_of, run_last, escape_then, escaped_end}
use Rattle.dw_text.proofs.escapes.push_escaped.Goals as goal

pub loop-done-preserved : goal.loop-done-preserved
loop-done-preserved c =
    let l = c.loop-done in
    record {
      within = omega arith;
      later = λ r new p. l.invariant.later r new (escape_then r l.out.items c.push_text.new.out.items c.push_escape.new.out.items new c.args.text.now l.done c.plain_end-end.result
          (omega arith) (run_of c.args.text.now l.done c.plain_end-end.result c.plain_end-end.ensures.begins c.plain_end-end.ensures.within c.plain_end-end.ensures.plain) c.in_ok-push_text.ensures c.in_ok-push_escape.ensures p);
    }

pub returns-then-end-text : goal.returns-then-end-text
returns-then-end-text c =
    let l = c.loop-done in
    l.invariant.later (Ok tt) c.push_text.new.out.items (run_last l.out.items c.push_text.new.out.items c.args.text.now l.done c.plain_end-end.result
    (omega arith) (run_of c.args.text.now l.done c.plain_end-end.result c.plain_end-end.ensures.begins c.plain_end-end.ensures.within c.plain_end-end.ensures.plain) c.in_ok-push_text.ensures)

pub returns : goal.returns
returns c =
    let l = c.loop-done in
    l.invariant.later (Ok tt) l.out.items (sym (append-nil l.out.items) ∙ ap (λ t. l.out.items ++ t) (sym (escaped_end c.args.text.now l.done c.loop-done-test.false)))
