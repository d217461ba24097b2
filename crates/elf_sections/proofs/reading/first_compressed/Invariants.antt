use Rattle.std.proofs.Common.{◌≡◌, map, drop}
use Rattle.elf_sections.specs.Refusals.{first_in}
use Rattle.elf_sections.specs.Names.{is_compressed}
use Rattle.elf_sections.specs.Shapes.{row}
use Rattle.elf_sections.proofs.reading.first_compressed.Given as goal

abbrev pub invariant-loop-section : goal.invariant-loop-section
invariant-loop-section l = record {
  counted : l.number ≡ l.section-index;
  first : first_in is_compressed l.number (map row (drop l.section-index l.sections)) ≡ first_in is_compressed 0 (map row l.sections);
}
