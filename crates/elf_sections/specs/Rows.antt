-- What a file's section table holds, as lists of bytes and numbers.
use Rattle.std.specs.Prelude.{ℕ, ◌<◌, ◌^◌, List, [], ◌∷◌, Option, Some, None, length, if◌then◌else◌}
use Rattle.std.specs.Str.{bytes_eq}
use Rattle.dw_fields.specs.declared.byte_order.Order.{Order}

-- one section header, with the name and the bytes that it stands for (gABI chapter 4, "Sections")
pub record SectionRow : Type 0 where
  pub name : List ℕ
  pub kind : ℕ
  pub flags : ℕ
  pub size : ℕ
  pub bytes : List ℕ

-- the file's byte order, and its sections in table order
pub record ElfView : Type 0 where
  pub order : Order
  pub sections : List SectionRow

-- the bytes of the first section of that name
unfoldable pub bytes_named : List ℕ → List SectionRow → Option (List ℕ)
bytes_named name [] = None
bytes_named name (row ∷ rows) = if bytes_eq row.name name then Some row.bytes else bytes_named name rows

-- each section's bytes are fewer than 2^31, so that a place in it and a code of 32 bits fit 63 bits
abbrev pub AllShort : List SectionRow → Type 0
AllShort [] = Unit {0}
AllShort (row ∷ rows) = (length row.bytes < 2 ^ 31) × AllShort rows
