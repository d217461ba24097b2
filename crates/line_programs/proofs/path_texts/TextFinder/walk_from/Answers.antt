use Rattle.std.proofs.Common.{sym}
use Rattle.line_programs.proofs.Fronts.{text_near}
use Rattle.line_programs.proofs.path_texts.TextFinder.walk_from.Goals as goal

pub returns-in-Some-clause-text : goal.returns-in-Some-clause-text
returns-in-Some-clause-text c =
    rw (← c.self.view_is) (text_near c.self.inside.bytes.now c.args.place c.min-near.result c.in-Some.count c.if-place-bytes.false (sym c.in-Some.ensures.place))
