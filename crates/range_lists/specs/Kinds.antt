-- The kinds of the entries of range lists and location lists (DWARF 5, section 7.25, table 7.30, and
-- section 7.7.3, table 7.10).
use Rattle.std.specs.Prelude.{ℕ, ◌==◌, if◌then◌else◌, Option, Some, None, Result, Ok, Err}
use Rattle.dw_fields.specs.declared.fault_code.Fault.{Fault}
use Rattle.dw_fields.specs.declared.fault_code.Code.TheVariants.{Truncated, ListKind, ListUnended}
use Rattle.dw_fields.specs.Codes.{fault}
use Rattle.dw_fields.specs.Reading.{Reader, ◌>>=◌, number_at, renamed}
use Rattle.range_lists.specs.declared.kinds.Kind.{Kind}
use Rattle.range_lists.specs.declared.kinds.Kind.TheVariants.{EndOfList, BaseAddressx, StartxEndx, StartxLength, OffsetPair, DefaultLocation, BaseAddress, StartEnd, StartLength}

-- DW_RLE_..
unfoldable pub range_kind : ℕ → Option Kind
range_kind n =
    if n == 0 then Some EndOfList else (
    if n == 1 then Some BaseAddressx else (
    if n == 2 then Some StartxEndx else (
    if n == 3 then Some StartxLength else (
    if n == 4 then Some OffsetPair else (
    if n == 5 then Some BaseAddress else (
    if n == 6 then Some StartEnd else (
    if n == 7 then Some StartLength else None)))))))

-- DW_LLE_..
unfoldable pub location_kind : ℕ → Option Kind
location_kind n =
    if n == 0 then Some EndOfList else (
    if n == 1 then Some BaseAddressx else (
    if n == 2 then Some StartxEndx else (
    if n == 3 then Some StartxLength else (
    if n == 4 then Some OffsetPair else (
    if n == 5 then Some DefaultLocation else (
    if n == 6 then Some BaseAddress else (
    if n == 7 then Some StartEnd else (
    if n == 8 then Some StartLength else None))))))))

-- a number that no kind has is refused at its place
abbrev pub known_kind : ℕ → Option Kind → Result Kind Fault
known_kind place (Some kind) = Ok kind
known_kind place None = Err (fault ListKind place)

-- the number that begins an entry; a list may not end with the section
unfoldable pub kind_number_at : Reader ℕ
kind_number_at s = renamed Truncated ListUnended (number_at 1 s)

-- the kind that begins an entry
unfoldable pub list_kind_at : (ℕ → Option Kind) → Reader Kind
list_kind_at kinds s = do
  number ← kind_number_at s
  kind ← known_kind s.place (kinds number.0)
  Ok (kind, number.1)
