use Rattle.std.proofs.Common.{◌-◌, ap, ◌∙◌, drop, arith}
use Rattle.dw_text.proofs.Laws.{drop_inside}
use Rattle.dw_text.proofs.line_buffer.LineBuffer.prepend_last.Goals as goal

pub returns : goal.returns
returns c =
    c.drop_front.ensures ∙ ap (drop (32 - c.args.count)) c.prepend_text.ensures ∙ drop_inside (32 - c.args.count) c.args.bytes.now c.args.self.now (omega (arith, c.told-bytes))
