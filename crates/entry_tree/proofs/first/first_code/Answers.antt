use Rattle.std.proofs.Common.{◌+◌, ◌-◌, ap, ◌∙◌, arith}
use Rattle.dw_fields.specs.Span.{Span, at}
use Rattle.entry_tree.specs.Entries.{first_code_from}
use Rattle.entry_tree.proofs.FirstCode.{first_next}
use Rattle.entry_tree.proofs.first.first_code.Goals as goal

pub zeros-preserved : goal.zeros-preserved
zeros-preserved c = record {
  same = c.in_ok-code.ensures.field.1 ∙ ap (λ (s : Span). at s c.uleb.new.self.place) c.zeros.invariant.same;
  first = ap (λ (s : Span). first_code_from (c.left-turns.result - (c.zeros._turn + 1)) s) c.in_ok-code.ensures.field.1
      ∙ first_next (c.left-turns.result - c.zeros._turn) (c.left-turns.result - (c.zeros._turn + 1)) c.zeros.cut c.in_ok-code.code c.uleb.new.self.place
      (omega arith) (omega arith) c.in_ok-code.ensures.field.0 (omega arith)
      ∙ c.zeros.invariant.first;
}
