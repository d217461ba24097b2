-- The unit types (DWARF 5 section 7.5.1, table 7.2), and what their headers add.
use Rattle.std.specs.Prelude.{◌≡◌, ℕ, ◌==◌, Bool, if◌then◌else◌, Result, Ok, Err}
use Rattle.dw_fields.specs.declared.fault_code.Code.TheVariants.{Truncated, UnitTruncated, UnitType}
use Rattle.dw_fields.specs.declared.fault_code.Fault.{Fault}
use Rattle.dw_fields.specs.Codes.{fault}
use Rattle.dw_fields.specs.Span.{at}
use Rattle.dw_fields.specs.Reading.{Reader, ◌>>=◌, number_at, offset_at, renamed}
use Rattle.unit_headers.specs.declared.kind.Extra.{Extra}
use Rattle.unit_headers.specs.declared.kind.Extra.TheVariants.{Nothing, Id, Signature}
use Rattle.unit_headers.specs.declared.kind.UnitKind.{UnitKind}
use Rattle.unit_headers.specs.declared.kind.UnitKind.TheVariants.{Compile, TypeUnit, Partial, Skeleton, SplitCompile, SplitType}

-- a field of a header that passes the unit's end
abbrev pub in_unit : {X : Type 0} → Result X Fault → Result X Fault
in_unit read = renamed Truncated UnitTruncated read

unfoldable pub kind_of : ℕ → ℕ → Result UnitKind Fault
kind_of number place =
    if number == 1 then Ok Compile
    else (if number == 2 then Ok TypeUnit
    else (if number == 3 then Ok Partial
    else (if number == 4 then Ok Skeleton
    else (if number == 5 then Ok SplitCompile
    else (if number == 6 then Ok SplitType
    else Err (fault UnitType place))))))

unfoldable pub id_at : Reader Extra
id_at s = do
  id ← in_unit (number_at 8 s)
  Ok (Id id.0, id.1)

unfoldable pub signature_at : Bool → Reader Extra
signature_at wide s = do
  signature ← in_unit (number_at 8 s)
  offset ← in_unit (offset_at wide (at s signature.1))
  Ok (Signature signature.0 offset.0, offset.1)

-- a skeleton or split compilation unit adds its identifier, a type unit its signature and the
-- offset of its type
unfoldable pub extra_at : UnitKind → Bool → Reader Extra
extra_at Compile wide s = Ok (Nothing, s.place)
extra_at TypeUnit wide s = signature_at wide s
extra_at Partial wide s = Ok (Nothing, s.place)
extra_at Skeleton wide s = id_at s
extra_at SplitCompile wide s = id_at s
extra_at SplitType wide s = signature_at wide s

-- the extra fields are those of the kind
abbrev pub HasExtraOf : UnitKind → Extra → Type 0
HasExtraOf Compile extra = extra ≡ Nothing
HasExtraOf TypeUnit extra = (signature : ℕ) × (offset : ℕ) × (extra ≡ Signature signature offset)
HasExtraOf Partial extra = extra ≡ Nothing
HasExtraOf Skeleton extra = (id : ℕ) × (extra ≡ Id id)
HasExtraOf SplitCompile extra = (id : ℕ) × (extra ≡ Id id)
HasExtraOf SplitType extra = (signature : ℕ) × (offset : ℕ) × (extra ≡ Signature signature offset)
