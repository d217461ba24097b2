use Rattle.std.proofs.Common.{append_assoc}
use Rattle.line_text.specs.Rows.{row_edges}
use Rattle.line_text.proofs.row_text.prepend_edges.Goals as goal

pub returns-clause-text : goal.returns-clause-text
unfolding row_edges
returns-clause-text c = rw (c.prepend_flag-3.ensures.text, c.prepend_flag-2.ensures.text, c.prepend_flag.ensures.text) (simp append_assoc)
