-- Attribute forms (DWARF 5, sections 7.5.5 and 7.5.6, table 7.6): the bytes of each form and the value
-- that they give.
use Rattle.std.specs.Prelude.{ℕ, ℤ, ◌==◌, ◌||◌, nat_lt, not, true, List, Result, Ok, Err, if◌then◌else◌}
use Rattle.dw_fields.specs.declared.fault_code.Fault.{Fault}
use Rattle.dw_fields.specs.declared.fault_code.Code.TheVariants as causes
use Rattle.dw_fields.specs.Codes.{fault, is_same_code}
use Rattle.dw_fields.specs.Span.{at}
use Rattle.dw_fields.specs.Reading.{Reader, ◌>>=◌, bytes_at, number_at, offset_at, uleb_at, sleb_at, text_at}
use Rattle.dw_numbers.specs.declared.form.TheConstants as forms
use Rattle.form_values.specs.declared.raw.Widths.{Widths}
use Rattle.form_values.specs.View.{RawView, Address, AddressIndex, Block, Expression, Unsigned, Signed, Wide, Flag, Text}
use Rattle.form_values.specs.View.{TextOffset, LineTextOffset, TextIndex, Local, Global, Signature, Offset, RangeIndex, LocationIndex, Supplement}

-- a field that was read, as a raw value
abbrev pub as_raw : {X : Type 0} → (X → RawView) → Result (X × ℕ) Fault → Result (RawView × ℕ) Fault
as_raw view (Ok x) = Ok (view x.0, x.1)
as_raw view (Err f) = Err f

-- `count` bytes from the place on
abbrev pub behind : ℕ → ℕ → Reader (List ℕ)
behind place count s = bytes_at count (at s place)

-- a count, then that many bytes; bytes that don't fit are refused behind the count
unfoldable pub counted_bytes : Reader ℕ → Reader (List ℕ)
counted_bytes count s = do
  n ← count s
  behind n.1 n.0 s

-- the forms 0x01 to 0x0f
unfoldable pub low_at : ℕ → Widths → Reader RawView
low_at form widths s =
    if form == forms.ADDR then as_raw Address (number_at widths.address_size s) else (
    if form == forms.BLOCK2 then as_raw Block (counted_bytes (number_at 2) s) else (
    if form == forms.BLOCK4 then as_raw Block (counted_bytes (number_at 4) s) else (
    if form == forms.DATA2 then as_raw Unsigned (number_at 2 s) else (
    if form == forms.DATA4 then as_raw Unsigned (number_at 4 s) else (
    if form == forms.DATA8 then as_raw Unsigned (number_at 8 s) else (
    if form == forms.STRING then as_raw Text (text_at s) else (
    if form == forms.BLOCK then as_raw Block (counted_bytes uleb_at s) else (
    if form == forms.BLOCK1 then as_raw Block (counted_bytes (number_at 1) s) else (
    if form == forms.DATA1 then as_raw Unsigned (number_at 1 s) else (
    if form == forms.FLAG then as_raw (λ n. Flag (not (n == 0))) (number_at 1 s) else (
    if form == forms.SDATA then as_raw Signed (sleb_at s) else (
    if form == forms.STRP then as_raw TextOffset (offset_at widths.wide s) else (
    if form == forms.UDATA then as_raw Unsigned (uleb_at s) else
    Err (fault causes.UnknownForm s.place))))))))))))))

-- the forms 0x10 to 0x1f but indirect
unfoldable pub middle_at : ℕ → Widths → Reader RawView
middle_at form widths s =
    if form == forms.REF_ADDR then as_raw Global (offset_at widths.wide s) else (
    if form == forms.REF1 then as_raw Local (number_at 1 s) else (
    if form == forms.REF2 then as_raw Local (number_at 2 s) else (
    if form == forms.REF4 then as_raw Local (number_at 4 s) else (
    if form == forms.REF8 then as_raw Local (number_at 8 s) else (
    if form == forms.REF_UDATA then as_raw Local (uleb_at s) else (
    if form == forms.SEC_OFFSET then as_raw Offset (offset_at widths.wide s) else (
    if form == forms.EXPRLOC then as_raw Expression (counted_bytes uleb_at s) else (
    if form == forms.FLAG_PRESENT then Ok (Flag true, s.place) else (
    if form == forms.STRX then as_raw TextIndex (uleb_at s) else (
    if form == forms.ADDRX then as_raw AddressIndex (uleb_at s) else (
    if form == forms.REF_SUP4 then as_raw Supplement (number_at 4 s) else (
    if form == forms.STRP_SUP then as_raw Supplement (offset_at widths.wide s) else (
    if form == forms.DATA16 then as_raw Wide (bytes_at 16 s) else (
    if form == forms.LINE_STRP then as_raw LineTextOffset (offset_at widths.wide s) else
    Err (fault causes.UnknownForm s.place)))))))))))))))

-- the forms from 0x20 on but implicit_const
unfoldable pub high_at : ℕ → Reader RawView
high_at form s =
    if form == forms.REF_SIG8 then as_raw Signature (number_at 8 s) else (
    if form == forms.LOCLISTX then as_raw LocationIndex (uleb_at s) else (
    if form == forms.RNGLISTX then as_raw RangeIndex (uleb_at s) else (
    if form == forms.REF_SUP8 then as_raw Supplement (number_at 8 s) else (
    if form == forms.STRX1 then as_raw TextIndex (number_at 1 s) else (
    if form == forms.STRX2 then as_raw TextIndex (number_at 2 s) else (
    if form == forms.STRX3 then as_raw TextIndex (number_at 3 s) else (
    if form == forms.STRX4 then as_raw TextIndex (number_at 4 s) else (
    if form == forms.ADDRX1 then as_raw AddressIndex (number_at 1 s) else (
    if form == forms.ADDRX2 then as_raw AddressIndex (number_at 2 s) else (
    if form == forms.ADDRX3 then as_raw AddressIndex (number_at 3 s) else (
    if form == forms.ADDRX4 then as_raw AddressIndex (number_at 4 s) else
    Err (fault causes.UnknownForm s.place))))))))))))

-- a form whose value stands at the place, that is any but indirect and implicit_const
unfoldable pub direct_at : ℕ → Widths → Reader RawView
direct_at form widths s =
    if nat_lt form 0x10 then low_at form widths s else (
    if nat_lt form 0x20 then middle_at form widths s else high_at form s)

-- Behind an indirect form, an unknown form and a text without an end are refused at the place of the
-- form; every other refusal keeps the place of the field that it speaks of.
abbrev pub value_fault : ℕ → Fault → Fault
value_fault place f =
    if is_same_code f.code causes.UnknownForm || is_same_code f.code causes.TextUnended
    then fault f.code place else f

abbrev pub behind_form : {X : Type 0} → ℕ → Result X Fault → Result X Fault
behind_form place (Ok x) = Ok x
behind_form place (Err f) = Err (value_fault place f)

-- indirect: the form, then its value
unfoldable pub indirect_at : Widths → Reader RawView
indirect_at widths s = do
  form ← uleb_at s
  (if (form.0 == forms.INDIRECT) || (form.0 == forms.IMPLICIT_CONST)
      then Err (fault causes.IndirectForm s.place)
      else behind_form s.place (direct_at form.0 widths (at s form.1)))

-- Attribute value: the value that stands at the place in this form, and the place behind it. `implicit`
-- is the number that the declaration gives for implicit_const.
unfoldable pub value_at : ℕ → Widths → ℤ → Reader RawView
value_at form widths implicit s =
    if form == forms.INDIRECT then indirect_at widths s else (
    if form == forms.IMPLICIT_CONST then Ok (Signed implicit, s.place) else direct_at form widths s)
