-- The line of a refusal. Its numbers and places are those of docs/FORMATS.md.
use Rattle.std.specs.Prelude.{ℕ, List, [], ◌∷◌, ◌++◌, codes}
use Rattle.dw_fields.specs.declared.fault_code.Fault.{Fault}
use Rattle.dw_fields.specs.Codes.{code_number}
use Rattle.dw_text.specs.Added.{labelled}
use Rattle.dw_text.specs.Numbers.{decimal, hex}
use Rattle.elf_sections.specs.declared.refusals.ElfRefusal.{ElfRefusal}
use Rattle.elf_sections.specs.declared.refusals.ElfRefusal.TheVariants.{NotElf, ElfClass, ElfData, HeaderShort, SectionTable, SectionBounds, Compressed, Relocatable, NameOutside, FileLimit}
use Rattle.dw_run.specs.declared.refusals.Refusal.{Refusal}
use Rattle.dw_run.specs.declared.refusals.Refusal.TheVariants as refusals

-- the number of a file's refusal
abbrev pub file_number : ElfRefusal → ℕ
file_number NotElf = 1
file_number ElfClass = 2
file_number ElfData = 3
file_number HeaderShort = 4
file_number SectionTable = 5
file_number (SectionBounds i) = 6
file_number (Compressed i) = 7
file_number Relocatable = 8
file_number (NameOutside i) = 9
file_number FileLimit = 10

-- the section that it names, where it names one
abbrev pub section_text : ElfRefusal → List ℕ
section_text NotElf = []
section_text ElfClass = []
section_text ElfData = []
section_text HeaderShort = []
section_text SectionTable = []
section_text (SectionBounds i) = labelled (codes " section ") (decimal i)
section_text (Compressed i) = labelled (codes " section ") (decimal i)
section_text Relocatable = []
section_text (NameOutside i) = labelled (codes " section ") (decimal i)
section_text FileLimit = []

unfoldable pub file_refusal_line : ElfRefusal → List ℕ
file_refusal_line r = labelled (codes "dwtool: file: refusal ") (decimal (file_number r)) ++ section_text r ++ labelled (10 ∷ []) []

-- the number of a fault and its place, and the end of the line
unfoldable pub fault_text : Fault → List ℕ
fault_text f = labelled (codes ": refusal ") (decimal (code_number f.code)) ++ labelled (codes " at 0x") (hex f.place) ++ labelled (10 ∷ []) []

unfoldable pub unit_fault_line : ℕ → Fault → List ℕ
unit_fault_line unit f = labelled (codes "dwtool: unit ") (decimal unit) ++ fault_text f

unfoldable pub tables_fault_line : Fault → List ℕ
tables_fault_line f = labelled (codes "dwtool: abbrev") [] ++ fault_text f

abbrev pub refusal_line : Refusal → List ℕ
refusal_line (refusals.File r) = file_refusal_line r
refusal_line (refusals.Unit unit f) = unit_fault_line unit f
refusal_line (refusals.Tables f) = tables_fault_line f
