use Rattle.std.proofs.Common.{◌≡◌, ◌-◌, map}
use Rattle.std.specs.List.{range_with_len}
use Rattle.elf_sections.specs.Refusals.{first_in}
use Rattle.elf_sections.specs.Headers.{section_header_of, section_headers_of}
use Rattle.elf_sections.specs.Names.{is_out_of_bounds}
use Rattle.elf_sections.proofs.reading.first_out_of_bounds.Given as goal

abbrev pub invariant-loop-number : goal.invariant-loop-number
invariant-loop-number l =
    first_in (is_out_of_bounds l.file) l.number (map (section_header_of l.layout l.table l.file) (range_with_len l.number (l.table.count - l.number)))
    ≡ first_in (is_out_of_bounds l.file) 1 (section_headers_of l.layout l.table l.file)
