-- A refusal as a C caller sees it: what is refused, the number of the cause (docs/FORMATS.md), and the place, the section
-- and the unit that it names.
use Rattle.std.specs.Prelude.{ℕ}
use Rattle.dw_fields.specs.declared.fault_code.Fault.{Fault}
use Rattle.dw_fields.specs.Codes.{code_number}
use Rattle.elf_sections.specs.declared.refusals.ElfRefusal.{ElfRefusal}
use Rattle.elf_sections.specs.declared.refusals.ElfRefusal.TheVariants.{NotElf, ElfClass, ElfData, HeaderShort, SectionTable, SectionBounds, Compressed, Relocatable, NameOutside, FileLimit}
use Rattle.dw_run.specs.declared.refusals.Refusal.{Refusal}
use Rattle.dw_run.specs.declared.refusals.Refusal.TheVariants as refusals
use Rattle.dw_run.specs.RefusalLines.{file_number}
use Rattle.dwtool_c.specs.declared.refusal.DwtoolRefusal.{DwtoolRefusal}
use Rattle.dwtool_c.specs.declared.refusal.TheConstants.{NOTHING, OF_FILE, OF_UNIT, OF_TABLES}

-- nothing is refused
abbrev pub no_refusal : DwtoolRefusal
no_refusal = record { place = 0; section = 0; unit = 0; number = 0; what = NOTHING }

-- the section that a file's refusal names, and 0 where it names none
abbrev pub section_named : ElfRefusal → ℕ
section_named NotElf = 0
section_named ElfClass = 0
section_named ElfData = 0
section_named HeaderShort = 0
section_named SectionTable = 0
section_named (SectionBounds i) = i
section_named (Compressed i) = i
section_named Relocatable = 0
section_named (NameOutside i) = i
section_named FileLimit = 0

abbrev pub file_refusal : ElfRefusal → DwtoolRefusal
file_refusal r = record { place = 0; section = section_named r; unit = 0; number = file_number r; what = OF_FILE }

abbrev pub unit_refusal : ℕ → Fault → DwtoolRefusal
unit_refusal unit f = record { place = f.place; section = 0; unit = unit; number = code_number f.code; what = OF_UNIT }

abbrev pub tables_refusal : Fault → DwtoolRefusal
tables_refusal f = record { place = f.place; section = 0; unit = 0; number = code_number f.code; what = OF_TABLES }

abbrev pub refusal_row : Refusal → DwtoolRefusal
refusal_row (refusals.File r) = file_refusal r
refusal_row (refusals.Unit unit f) = unit_refusal unit f
refusal_row (refusals.Tables f) = tables_refusal f
