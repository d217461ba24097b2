use Rattle.std.proofs.Common.{◌∙◌, map, string_bytes}
use Rattle.dw_words.proofs.Answered.{are_texts, parse_fails, parse_means}
use Rattle.dw_words.proofs.parser.parse.Goals as goal

pub returns-in-Ok : goal.returns-in-Ok
returns-in-Ok c = parse_means _ (map string_bytes c.args.words.now) c.in-Ok.matches c.in_ok-command.ensures (are_texts c.args.words.now) c.in-Ok.ensures.matches c.in-Ok.ensures.kinds

pub returns : goal.returns
returns c = parse_fails _ (map string_bytes c.args.words.now) c.in-Err.error c.in_ok-command.ensures (are_texts c.args.words.now) c.in-Err.ensures.kinds (λ e. c.in_default.not-OutOfMemory (c.kind.ensures ∙ e))
