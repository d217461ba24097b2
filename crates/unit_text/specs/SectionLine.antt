-- The line of a section, as our text format has it.
use Rattle.std.specs.Prelude.{ℕ, List, [], ◌∷◌, ◌++◌, codes}
use Rattle.dw_text.specs.Added.{labelled}
use Rattle.dw_text.specs.Numbers.{decimal, hex}
use Rattle.dw_text.specs.Escapes.{escaped}
use Rattle.elf_sections.specs.Rows.{SectionRow}

unfoldable pub section_line : ℕ → SectionRow → List ℕ
section_line number section =
    labelled (codes "section ") (decimal number)
    ++ labelled (codes " \"") (escaped section.name)
    ++ labelled (codes "\" type 0x") (hex section.kind)
    ++ labelled (codes " flags 0x") (hex section.flags)
    ++ labelled (codes " size 0x") (hex section.size)
    ++ (10 ∷ [])
