use Rattle.std.proofs.Common.{rules, Bor, ℕ, List, arith, Ok, Err}
use Rattle.line_text.proofs.Lines.{numbered_next, numbered_end}
use Rattle.line_text.specs.Names.{directory_line}
use Rattle.line_text.proofs.names.push_directory_lines.Goals as goal

pub directories-preserved : goal.directories-preserved
directories-preserved c = record {
  few = c.directories.invariant.few;
  number = omega arith;
  text = λ r new p. c.directories.invariant.text r new
      (numbered_next directory_line (λ (d : Bor (List ℕ)). d.now) c.args.directories.now c.directories.number c.directories.directory-index _ r _ _ new c.directories-test.true c.in_ok-push_directory.ensures p);
}

pub returns-in_err-push_directory : goal.returns-in_err-push_directory
returns-in_err-push_directory c =
    let part = c.directories.invariant.text (Err c.in_err-push_directory.field-0.0) _ c.in_err-push_directory.ensures in
    search rules

pub returns : goal.returns
returns c = c.directories.invariant.text (Ok tt) _ (numbered_end directory_line (λ (d : Bor (List ℕ)). d.now) _ c.directories.number c.directories.directory-index _ c.directories-test.false)
