-- Rows of sections.
use Rattle.std.proofs.Common.{◌≡◌, ◌∙◌, List, map, sym, ap}
use Rattle.std.proofs.lemmas.Simd.{map-map}
use Rattle.elf_sections.specs.declared.section.Section.{Section}
use Rattle.elf_sections.specs.Rows.{SectionRow}
use Rattle.elf_sections.specs.Shapes.{row}
use Rattle.dwtool_c.specs.Sections.{section_row}

-- the rows of sections are those of their views
pub rows_of_views : (sections : List Section) (views : List SectionRow) → map row sections ≡ views
    → map (λ s. section_row (row s)) sections ≡ map section_row views
rows_of_views sections views same = sym (map-map section_row row sections) ∙ ap (map section_row) same
