use Rattle.std.proofs.Common.{◌≤◌, ◌∙◌, length, drop, ap, arith, length-drop, length-append}
use Rattle.std.specs.Fmt.{decimal}
use Rattle.dw_text.proofs.Fill.{few_digits}
use Rattle.dw_text.proofs.line_buffer.LineBuffer.prepend_decimal_after.Goals as goal

pub write_digits-self-inside-requires : goal.write_digits-self-inside-requires
write_digits-self-inside-requires c =
    let few = few_digits c.args.number c.ranges.number.fits in
    let room : 20 ≤ c.self.inside.first = omega (arith, c.self.told, c.self.invariant, ap length c.self.view_is, length-drop c.self.inside.first c.self.inside.bytes) in
    (omega arith, omega (arith, c.self.told, c.self.invariant))

pub prepend_text-requires : goal.prepend_text-requires
prepend_text-requires c =
    let few = few_digits c.args.number c.ranges.number.fits in
    omega (arith, ap length c.self.view_is, ap length c.write_digits-self-inside.ensures.written, length-append (decimal c.args.number) (drop c.self.inside.first c.self.inside.bytes))

pub returns-clause-size : goal.returns-clause-size
returns-clause-size c =
    let few = few_digits c.args.number c.ranges.number.fits in
    omega (
      arith,
      ap length c.self.view_is,
      ap length c.write_digits-self-inside.ensures.written,
      length-append (decimal c.args.number) (drop c.self.inside.first c.self.inside.bytes),
      ap length c.prepend_text.ensures ∙ length-append c.args.word.now (drop c.write_digits-self-inside.result c.write_digits-self-inside.new.buf),
    )
