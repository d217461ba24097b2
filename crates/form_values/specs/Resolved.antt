-- What an offset or an index in a raw value stands for (DWARF 5, sections 7.26 to 7.29, and the bases of
-- section 7.5.5).
use Rattle.std.specs.Prelude.{◌≡◌, ℕ, ◌+◌, ◌*◌, ◌^◌, ◌==◌, nat_lt, nat_le, Bool, List, [], length, take, drop, position, Option, Some, None, Result, Ok, Err, if◌then◌else◌}
use Rattle.std.specs.Borrow.{Bor}
use Rattle.dw_fields.specs.declared.byte_order.Order.{Order}
use Rattle.dw_fields.specs.declared.fault_code.Code.{Code}
use Rattle.dw_fields.specs.declared.fault_code.Code.TheVariants.{TextOutside, TextUnended, IndexOutside, NoBase, NoSection}
use Rattle.dw_fields.specs.declared.fault_code.Fault.{Fault}
use Rattle.dw_fields.specs.Codes.{fault}
use Rattle.dw_fields.specs.Reading.{◌>>=◌, number_of}
use Rattle.elf_sections.specs.Shapes.{SectionsView}
use Rattle.form_values.specs.declared.raw.Bases.{Bases}
use Rattle.form_values.specs.View.{RawView, Address, AddressIndex, Text, TextOffset, LineTextOffset, TextIndex, Offset, RangeIndex, LocationIndex}

-- A cause is the refusal of a place.
abbrev pub refused_at : {X : Type 0} → ℕ → Result X Code → Result X Fault
refused_at place (Ok x) = Ok x
refused_at place (Err code) = Err (fault code place)

-- a base or a section that is needed, or the cause of its absence
abbrev pub needed : {X : Type 0} → Code → Option X → Result X Code
needed cause (Some x) = Ok x
needed cause None = Err cause

-- bytes of an offset in the 64-bit format (wide) and in the 32-bit format (section 7.4)
abbrev pub offset_size : Bool → ℕ
offset_size wide = if wide then 8 else 4

-- the bytes from an offset in a section up to the next zero byte
unfoldable pub text_from : List ℕ → ℕ → Result (List ℕ) Code
text_from section offset =
    if nat_lt offset (length section) then
    (elim (position (λ b. b == 0) (drop offset section)) [
      | None ↦ Err TextUnended
      | Some n ↦ Ok (take n (drop offset section))
    ])
    else Err TextOutside

-- the same in a section that may be absent
unfoldable pub text_in : Option (List ℕ) → ℕ → Result (List ℕ) Code
text_in section offset = do
  present ← needed NoSection section
  text_from present offset

-- where the word that an index names begins in a table that begins at `base`, if the whole word is within
-- `bound` bytes
unfoldable pub word_place_of : ℕ → ℕ → ℕ → ℕ → Option ℕ
word_place_of size bound base index =
    if nat_le (base + index * size + size) bound then Some (base + index * size) else None

-- the number of `size` bytes that an index names in a table that begins at `base`
unfoldable pub word_at : ℕ → Order → List ℕ → ℕ → ℕ → Result ℕ Code
word_at size order table base index = elim (word_place_of size (length table) base index) [
  | None ↦ Err IndexOutside
  | Some place ↦ Ok (number_of order size (take size (drop place table)))
]

-- a text by its index: the table gives its offset
unfoldable pub indexed_text : ℕ → Bool → SectionsView → Option ℕ → Result (List ℕ) Code
indexed_text index wide sections base = do
  start ← needed NoBase base
  table ← needed NoSection sections.text_offsets
  texts ← needed NoSection sections.text
  offset ← word_at (offset_size wide) sections.order table start index
  text_from texts offset

-- an address by its index
unfoldable pub indexed_address : ℕ → ℕ → SectionsView → Option ℕ → Result ℕ Code
indexed_address index size sections base = do
  start ← needed NoBase base
  table ← needed NoSection sections.address
  word_at size sections.order table start index

-- the sum, where 64 bits hold it
unfoldable pub within_place : ℕ → Result ℕ Code
within_place n = if nat_lt n (2 ^ 64) then Ok n else Err IndexOutside

-- the place of a list by its index: the table begins at the base and gives offsets from the base
unfoldable pub indexed_list : ℕ → Bool → Order → Option (List ℕ) → Option ℕ → Result ℕ Code
indexed_list index wide order section base = do
  start ← needed NoBase base
  table ← needed NoSection section
  offset ← word_at (offset_size wide) order table start index
  within_place (start + offset)

-- Resolution of a text; a value of another kind has none.
unfoldable pub text_of : RawView → Bool → SectionsView → Bases → Result (List ℕ) Code
text_of (Text bytes) wide sections bases = Ok bytes
text_of (TextOffset offset) wide sections bases = text_in sections.text offset
text_of (LineTextOffset offset) wide sections bases = text_in sections.line_text offset
text_of (TextIndex index) wide sections bases = indexed_text index wide sections bases.text
text_of _ wide sections bases = Ok []

-- Resolution of an address, of `size` bytes in the table.
unfoldable pub address_of : RawView → ℕ → SectionsView → Bases → Result ℕ Code
address_of (Address n) size sections bases = Ok n
address_of (AddressIndex index) size sections bases =
    indexed_address index size sections bases.address
address_of _ size sections bases = Ok 0

-- Resolution of the place of a list: an offset is its own answer.
unfoldable pub list_of : RawView → Bool → SectionsView → Bases → Result ℕ Code
list_of (Offset n) wide sections bases = Ok n
list_of (RangeIndex index) wide sections bases =
    indexed_list index wide sections.order sections.range_lists bases.ranges
list_of (LocationIndex index) wide sections bases =
    indexed_list index wide sections.order sections.location_lists bases.locations
list_of _ wide sections bases = Ok 0

-- the answer is this text, or the same cause
abbrev pub SameText : Result (Bor (List ℕ)) Code → Result (List ℕ) Code → Type 0
SameText (Ok x) read = read ≡ Ok x.now
SameText (Err cause) read = read ≡ Err cause
