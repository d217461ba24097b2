use Rattle.std.proofs.Common.{◌≡◌, map, drop}
use Rattle.elf_sections.specs.Rows.{bytes_named, AllShort}
use Rattle.elf_sections.specs.Shapes.{row}
use Rattle.elf_sections.proofs.named.first_named.Given as goal

abbrev pub invariant-loop-section : goal.invariant-loop-section
invariant-loop-section l =
    (bytes_named l.name (map row (drop l.section-index l.sections)) ≡ bytes_named l.name (map row l.sections))
    × AllShort (map row (drop l.section-index l.sections))
