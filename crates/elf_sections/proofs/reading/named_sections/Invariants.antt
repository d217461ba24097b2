use Rattle.std.proofs.Common.{◌≡◌, ◌-◌, map, ◌∷◌}
use Rattle.std.specs.List.{range_with_len}
use Rattle.elf_sections.specs.Refusals.{first_in}
use Rattle.elf_sections.specs.Headers.{section_header_of, section_headers_of}
use Rattle.elf_sections.specs.Names.{has_no_name, null_row, row_of}
use Rattle.elf_sections.specs.Shapes.{row}
use Rattle.elf_sections.proofs.reading.named_sections.Given as goal

abbrev pub invariant-loop-number : goal.invariant-loop-number
invariant-loop-number l = record {
  first : first_in (has_no_name l.names) l.number (map (section_header_of l.layout l.table l.file) (range_with_len l.number (l.table.count - l.number)))
      ≡ first_in (has_no_name l.names) 1 (section_headers_of l.layout l.table l.file);
  rows : map row l.sections.items ≡ null_row ∷ map (row_of l.file l.names) (map (section_header_of l.layout l.table l.file) (range_with_len 1 (l.number - 1)));
}
