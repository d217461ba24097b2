use Rattle.std.proofs.Common.{drop_of_length-le, arith}
use Rattle.dw_text.proofs.line_buffer.LineBuffer.clear.Goals as goal

pub returns : goal.returns
returns c = drop_of_length-le c.self.inside.bytes {i = 256} (omega (arith, c.self.told))
