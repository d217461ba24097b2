use Rattle.std.proofs.Common.{◌+◌, ◌-◌, ◌++◌, map, ap, ◌∙◌, arith}
use Rattle.dw_fields.specs.Span.{Span}
use Rattle.line_programs.specs.Shapes.{name_view}
use Rattle.line_programs.specs.DefinedFiles.{defined_by}
use Rattle.line_programs.proofs.Defined.{defined_end, defined_next, defined_refused, defined_stop}
use Rattle.line_programs.proofs.defined_files.add_defined_files.Goals as goal

pub returns-then-left-eq0 : goal.returns-then-left-eq0
returns-then-left-eq0 c =
    defined_end c.args.program.now c.args.lengths.now (c.left-left.result - c.program._turn) c.program.cut (map name_view c.program.files.items) _ (omega arith) c.program.invariant.read

pub returns-in_default : goal.returns-in_default
returns-in_default c =
    defined_refused c.args.program.now c.args.lengths.now (c.left-left.result - c.program._turn) (c.left-left.result - (c.program._turn + 1)) c.program.cut c.in_default.field-0 (map name_view c.program.files.items) _
    (omega arith) (omega arith) c.in_default.ensures.field c.program.invariant.read

pub program-preserved : goal.program-preserved
program-preserved c = record {
  ends = ap (λ (s : Span). s.end) c.in-Ok.ensures.field.1 ∙ c.program.invariant.ends;
  turns = c.program.invariant.turns;
  read = defined_next c.args.program.now c.args.lengths.now (c.left-left.result - c.program._turn) (c.left-left.result - (c.program._turn + 1)) c.program.cut c.read_operation.new.cut c.in-Ok.operation
      (map name_view c.program.files.items) (map name_view c.add_defined.new.files.items) _ (omega arith) (omega arith) c.in-Ok.ensures.field.0 c.in-Ok.ensures.field.1
      (c.in_ok-add_defined.ensures ∙ ap (λ s. map name_view c.program.files.items ++ defined_by c.in-Ok.operation s) c.fork-ahead.ensures) c.program.invariant.read;
}

pub returns : goal.returns
returns c =
    defined_stop c.args.program.now c.args.lengths.now (c.left-left.result - c.program._turn) c.program.cut (map name_view c.program.files.items) _ (omega arith) c.program.invariant.read
