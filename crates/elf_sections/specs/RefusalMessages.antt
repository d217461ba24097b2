-- The words in which refusals show themselves to a program's user.
use Rattle.std.specs.Prelude.{ℕ, List, ◌++◌, codes}
use Rattle.std.specs.Fmt.{decimal}
use Rattle.elf_sections.specs.declared.refusals.ElfRefusal.{ElfRefusal}
use Rattle.elf_sections.specs.declared.refusals.ElfRefusal.TheVariants.{NotElf, ElfClass, ElfData, HeaderShort, SectionTable, SectionBounds, Compressed, Relocatable, NameOutside, FileLimit}
use Rattle.elf_sections.specs.declared.refusals.OpenRefusal.{OpenRefusal}
use Rattle.elf_sections.specs.declared.refusals.OpenRefusal.TheVariants.{Refused, OutOfMemory}

abbrev pub elf_message : ElfRefusal → List ℕ
elf_message NotElf = codes "not an ELF file"
elf_message ElfClass = codes "ELF class that is not read"
elf_message ElfData = codes "byte order that is not read"
elf_message HeaderShort = codes "ELF header past the end of the file"
elf_message SectionTable = codes "section headers that do not fit the file or its class"
elf_message (SectionBounds i) = codes "section " ++ decimal i ++ codes " past the end of the file"
elf_message (Compressed i) = codes "section " ++ decimal i ++ codes " is compressed"
elf_message Relocatable = codes "relocatable object file"
elf_message (NameOutside i) = codes "name of section " ++ decimal i ++ codes " outside the section of names"
elf_message FileLimit = codes "more bytes than are read"

abbrev pub open_message : OpenRefusal → List ℕ
open_message (Refused refusal) = elf_message refusal
open_message OutOfMemory = codes "out of memory"
