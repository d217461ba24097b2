use Rattle.std.proofs.Common.{◌≡◌, ◌+◌, ◌-◌, false, ◌∙◌, arith}
use Rattle.elf_sections.specs.Headers.{section_header_of}
use Rattle.elf_sections.specs.Names.{is_out_of_bounds}
use Rattle.elf_sections.proofs.First.{first_next}
use Rattle.elf_sections.proofs.reading.first_out_of_bounds.Goals as goal

pub loop-number-preserved : goal.loop-number-preserved
loop-number-preserved c =
    let stays : is_out_of_bounds c.args.file.now (section_header_of c.args.layout c.args.table c.args.file.now c.loop-number.number) ≡ false = cc in
    first_next (is_out_of_bounds c.args.file.now) (section_header_of c.args.layout c.args.table c.args.file.now) c.loop-number.number
    (c.args.table.count - c.loop-number.number) (c.args.table.count - (c.loop-number.number + 1)) (omega arith) stays
    ∙ c.loop-number.invariant
