-- Unit headers of version 5 (DWARF 5 section 7.5.1) and of version 4 (DWARF 4 section 7.5.1.1): the
-- fields behind the length in their order, and the first refusal. A field that passes the unit's end
-- is refused at its first byte.
use Rattle.std.specs.Prelude.{◌≡◌, ◌⊎◌, ◌||◌, ℕ, ◌+◌, ◌≤◌, ◌==◌, not, nat_lt, Bool, if◌then◌else◌, List, length, get_or, Result, Ok, Err}
use Rattle.dw_fields.specs.declared.byte_order.Order.{Order}
use Rattle.dw_fields.specs.declared.fault_code.Code.TheVariants.{UnitTruncated, UnitVersion, AddressSize, AbbrevOutside}
use Rattle.dw_fields.specs.declared.fault_code.Fault.{Fault}
use Rattle.dw_fields.specs.Codes.{fault}
use Rattle.dw_fields.specs.Span.{Span, at}
use Rattle.dw_fields.specs.Reading.{IsAddressSize, Reader, ◌>>=◌, ◌>>◌, is_address_size, number_at, offset_at, refuse}
use Rattle.unit_headers.specs.declared.chain.Link.{Link}
use Rattle.unit_headers.specs.declared.chain.Link.TheVariants.{Whole, Broken}
use Rattle.unit_headers.specs.declared.header.UnitFields.{UnitFields}
use Rattle.unit_headers.specs.declared.header.UnitHeader.{UnitHeader}
use Rattle.unit_headers.specs.declared.kind.Extra.TheVariants.{Nothing}
use Rattle.unit_headers.specs.declared.kind.UnitKind.{UnitKind}
use Rattle.unit_headers.specs.declared.kind.UnitKind.TheVariants.{Compile}
use Rattle.unit_headers.specs.Kinds.{HasExtraOf, extra_at, in_unit, kind_of}
use Rattle.unit_headers.specs.Links.{unit_chain}

-- the versions whose headers are read
abbrev pub IsUnitVersion : ℕ → Type 0
IsUnitVersion version = (version ≡ 4) ⊎ (version ≡ 5)

abbrev pub is_unit_version : ℕ → Bool
is_unit_version version = version == 4 || version == 5

unfoldable pub version_at : Reader ℕ
version_at s = do
  version ← in_unit (number_at 2 s)
  refuse (not (is_unit_version version.0)) (fault UnitVersion s.place)
  Ok version

unfoldable pub kind_at : Reader UnitKind
kind_at s = do
  number ← in_unit (number_at 1 s)
  kind ← kind_of number.0 s.place
  Ok (kind, number.1)

unfoldable pub size_at : Reader ℕ
size_at s = do
  size ← in_unit (number_at 1 s)
  refuse (not (is_address_size size.0)) (fault AddressSize s.place)
  Ok size

-- the offset of the unit's declarations, which is at most their section's length
unfoldable pub declarations_at : ℕ → Bool → Reader ℕ
declarations_at abbrev_length wide s = do
  offset ← in_unit (offset_at wide s)
  refuse (nat_lt abbrev_length offset.0) (fault AbbrevOutside s.place)
  Ok offset

-- behind version 5: the unit's type, the size of an address, the offset, and what the type adds
unfoldable pub fields_of_version_5 : ℕ → Bool → Reader UnitFields
fields_of_version_5 abbrev_length wide s = do
  kind ← kind_at s
  size ← size_at (at s kind.1)
  declarations ← declarations_at abbrev_length wide (at s size.1)
  extra ← extra_at kind.0 wide (at s declarations.1)
  Ok (
    record {
      kind = kind.0;
      address_size = size.0;
      «abbrev» = declarations.0;
      extra = extra.0;
    },
    extra.1,
  )

-- behind version 4: the offset and the size of an address; every unit is a compilation unit
unfoldable pub fields_of_version_4 : ℕ → Bool → Reader UnitFields
fields_of_version_4 abbrev_length wide s = do
  declarations ← declarations_at abbrev_length wide s
  size ← size_at (at s declarations.1)
  Ok (
    record {
      kind = Compile;
      address_size = size.0;
      «abbrev» = declarations.0;
      extra = Nothing;
    },
    size.1,
  )

-- what stands behind the version
unfoldable pub fields_at : ℕ → ℕ → Bool → Reader UnitFields
fields_at version abbrev_length wide s =
    if version == 4 then fields_of_version_4 abbrev_length wide s
    else fields_of_version_5 abbrev_length wide s

-- The header of the unit with this number, which begins at `place`: the span stands behind its length
-- and ends with the unit.
unfoldable pub header_of : ℕ → ℕ → ℕ → Bool → Span → Result UnitHeader Fault
header_of abbrev_length number place wide s = do
  version ← version_at s
  fields ← fields_at version.0 abbrev_length wide (at s version.1)
  Ok (record {
    number = number;
    place = place;
    end = s.end;
    wide = wide;
    version = version.0;
    kind = fields.0.kind;
    address_size = fields.0.address_size;
    «abbrev» = fields.0.«abbrev»;
    entries = fields.1;
    extra = fields.0.extra;
  })

abbrev pub linked_header : List ℕ → Order → ℕ → ℕ → Link → Result UnitHeader Fault
linked_header info order abbrev_length i (Whole place body end wide) =
    header_of abbrev_length i place wide
    (record { bytes = info; place = body; end = end; order = order })
linked_header info order abbrev_length i (Broken f) = Err f

-- the number of units of a section, with the last one where the chain can't be followed
unfoldable pub unit_count : List ℕ → Order → ℕ
unit_count info order = length (unit_chain info order)

-- The header of unit i of a section, or the refusal of its broken link, or the first refusal of its
-- fields. A unit behind the last would begin at the section's end, and is cut off there.
unfoldable pub header_at : List ℕ → Order → ℕ → ℕ → Result UnitHeader Fault
header_at info order abbrev_length i =
    linked_header info order abbrev_length i
    (get_or (unit_chain info order) i (Broken (fault UnitTruncated (length info))))

-- what every header says: the unit lies in the section, its entries begin in the unit, and its fields
-- are those of its kind, which in version 4 is that of a compilation unit
pub record HasShape (size abbrev_length number : ℕ) (header : UnitHeader) : Type 0 where
  pub counted : header.number ≡ number
  pub version : IsUnitVersion header.version
  pub address : IsAddressSize header.address_size
  pub declarations : header.«abbrev» ≤ abbrev_length
  pub begins : header.place + 4 ≤ header.entries
  pub inside : header.entries ≤ header.end
  pub ends : header.end ≤ size
  pub extra : HasExtraOf header.kind header.extra
  pub compile : header.version ≡ 4 → header.kind ≡ Compile
