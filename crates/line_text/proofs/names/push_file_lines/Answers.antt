use Rattle.std.proofs.Common.{rules, arith, Ok, Err}
use Rattle.line_text.proofs.Lines.{numbered_next, numbered_end}
use Rattle.line_text.specs.Names.{file_line}
use Rattle.line_programs.specs.Shapes.{name_view}
use Rattle.line_text.proofs.names.push_file_lines.Goals as goal

pub files-preserved : goal.files-preserved
files-preserved c = record {
  few = c.files.invariant.few;
  number = omega arith;
  text = λ r new p. c.files.invariant.text r new
      (numbered_next file_line name_view c.args.files.now c.files.number c.files.file-index _ r _ _ new c.files-test.true c.in_ok-push_file.ensures p);
}

pub returns-in_err-push_file : goal.returns-in_err-push_file
returns-in_err-push_file c =
    let part = c.files.invariant.text (Err c.in_err-push_file.field-0.0) _ c.in_err-push_file.ensures in
    search rules

pub returns : goal.returns
returns c = c.files.invariant.text (Ok tt) _ (numbered_end file_line name_view _ c.files.number c.files.file-index _ c.files-test.false)
