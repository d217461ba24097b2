-- What the first 16 bytes of an ELF file tell, and where the numbers stand (gABI chapter 4, "ELF
-- Identification", "ELF Header", "Section Header").
--
-- Both classes have the same fields in the same order. A word (an address, an offset, a size, the flags
-- of a section) has 4 bytes in class 1 and 8 in class 2; every other field is as wide in both.
use Rattle.std.specs.Prelude.{ℕ, ◌==◌, nat_eq, nat_lt, Bool, true, false, not, if◌then◌else◌, List, ◌∷◌, length, drop, slice_index, codes, Result, Ok, Err}
use Rattle.std.specs.List.{starts_with}
use Rattle.dw_fields.specs.declared.byte_order.Order.{Order}
use Rattle.dw_fields.specs.declared.byte_order.Order.TheVariants.{Little, Big}
use Rattle.dw_fields.specs.Reading.{number_of, ◌>>=◌, ◌>>◌, refuse}
use Rattle.elf_sections.specs.declared.class_layout.ClassLayout.{ClassLayout}
use Rattle.elf_sections.specs.declared.class_layout.TheConstants.{FILE_LIMIT}
use Rattle.elf_sections.specs.declared.refusals.ElfRefusal.{ElfRefusal}
use Rattle.elf_sections.specs.declared.refusals.ElfRefusal.TheVariants.{FileLimit, NotElf, HeaderShort, ElfClass, ElfData}

-- the number of n bytes at a place of the file
unfoldable pub field : Order → ℕ → ℕ → List ℕ → ℕ
field order n place file = number_of order n (drop place file)

-- how many bytes a word has
unfoldable pub word_size : ClassLayout → ℕ
word_size layout = if layout.wide then 8 else 4

-- the word at a place of the file
abbrev pub word : ClassLayout → ℕ → List ℕ → ℕ
word layout place file = field layout.order (word_size layout) place file

unfoldable pub magic_of : List ℕ → Result (Unit {0}) ElfRefusal
magic_of file = do
  refuse (nat_lt FILE_LIMIT (length file)) FileLimit
  refuse (not (starts_with nat_eq file (0x7f ∷ codes "ELF"))) NotElf
  refuse (nat_lt (length file) 16) HeaderShort

-- whether the class is that of 64-bit files; class 1 is that of 32-bit files
unfoldable pub class_of : ℕ → Result Bool ElfRefusal
class_of class =
    if class == 1 then Ok false else (if class == 2 then Ok true else Err ElfClass)

-- the order of the numbers by the data encoding
unfoldable pub order_of : ℕ → Result Order ElfRefusal
order_of order =
    if order == 1 then Ok Little else (if order == 2 then Ok Big else Err ElfData)

unfoldable pub layout_of : List ℕ → Result ClassLayout ElfRefusal
layout_of file = do
  magic_of file
  wide ← class_of (slice_index file 4)
  order ← order_of (slice_index file 5)
  Ok (record { order = order; wide = wide })
