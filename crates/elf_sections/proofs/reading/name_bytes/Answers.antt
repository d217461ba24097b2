use Rattle.std.proofs.Common.{◌-◌, ◌<◌, arith}
use Rattle.elf_sections.specs.Headers.{section_header_of}
use Rattle.elf_sections.specs.Names.{is_out_of_bounds}
use Rattle.elf_sections.proofs.First.{none_inside}
use Rattle.elf_sections.proofs.reading.name_bytes.Goals as goal

pub contents_of-requires : goal.contents_of-requires
contents_of-requires c =
    let i = c.args.table.names in
    let below : i < c.args.table.count = c.requires.inside.names c.requires.some in
    rw c.section_header_of-header.ensures (none_inside (is_out_of_bounds c.args.file.now) (section_header_of c.args.layout c.args.table c.args.file.now)
    (c.args.table.count - 1) 1 i c.requires.bounds (omega arith) (omega arith))
