-- The texts of attribute values, as our text format has them; each begins with the blank behind the attribute's name.
use Rattle.std.specs.Prelude.{ℕ, Bool, if◌then◌else◌, ◌==◌, List, [], ◌++◌, length, Result, Ok, Err, codes}
use Rattle.dw_fields.specs.declared.fault_code.Code.{Code}
use Rattle.dw_fields.specs.Codes.{fault}
use Rattle.dw_text.specs.Added.{labelled}
use Rattle.dw_text.specs.Numbers.{decimal, hex, signed, sixteen}
use Rattle.dw_text.specs.Escapes.{escaped}
use Rattle.dw_text.specs.Bytes.{hex_bytes}
use Rattle.form_values.specs.View.{RawView, Address, AddressIndex, Block, Expression, Unsigned, Signed, Wide, Flag, TextOffset, LineTextOffset, TextIndex, Local, Global, Signature, Offset, RangeIndex, LocationIndex, Supplement}
use Rattle.form_values.specs.View as raw
use Rattle.form_values.specs.Resolved.{text_of, address_of, list_of}
use Rattle.unit_text.specs.UnitView.{UnitView}
use Rattle.unit_text.specs.Pieces.{Text}

-- a value that was resolved, as a text; or its refusal at the attribute's place
abbrev pub resolved : {X : Type 0} → (X → List ℕ) → ℕ → Result X Code → Text
resolved text place (Ok x) = Ok (text x)
resolved text place (Err cause) = Err (fault cause place)

-- a text in quotes, escaped
unfoldable pub quoted : List ℕ → List ℕ
quoted text = labelled (codes " text \"") (escaped text) ++ (codes "\"")

-- bytes behind their number; without the blank between them where there are none
unfoldable pub counted : List ℕ → List ℕ → List ℕ
counted word bytes =
    labelled word (decimal (length bytes))
    ++ (if length bytes == 0 then [] else labelled (codes " ") (hex_bytes bytes))

unfoldable pub flag_text : Bool → List ℕ
flag_text flag = if flag then codes " flag yes" else codes " flag no"

unfoldable pub address_text : ℕ → List ℕ
address_text address = labelled (codes " address 0x") (hex address)

unfoldable pub offset_text : ℕ → List ℕ
offset_text offset = labelled (codes " offset 0x") (hex offset)

-- An address, a text or the place of a list, with what an index stands for by the unit's sections and bases. The widths
-- are those of the unit's header.
module _ (u : UnitView) (place : ℕ) where
  unfoldable pub address_value : RawView → Text
  address_value raw =
      resolved address_text place (address_of raw u.header.address_size u.sections u.facts.bases)

  unfoldable pub text_value : RawView → Text
  text_value raw = resolved quoted place (text_of raw u.header.wide u.sections u.facts.bases)

  unfoldable pub list_value : RawView → Text
  list_value raw = resolved offset_text place (list_of raw u.header.wide u.sections u.facts.bases)

  -- the text of a value of each kind
  unfoldable pub value_text : RawView → Text
  value_text (Address n) = address_value (Address n)
  value_text (AddressIndex n) = address_value (AddressIndex n)
  value_text (Block bytes) = Ok (counted (codes " block ") bytes)
  value_text (Expression bytes) = Ok (counted (codes " expression ") bytes)
  value_text (Unsigned n) = Ok (labelled (codes " unsigned ") (decimal n))
  value_text (Signed z) = Ok (labelled (codes " signed ") (signed z))
  value_text (Wide bytes) = Ok (labelled (codes " bytes ") (hex_bytes bytes))
  value_text (Flag flag) = Ok (flag_text flag)
  value_text (raw.Text text) = text_value (raw.Text text)
  value_text (TextOffset n) = text_value (TextOffset n)
  value_text (LineTextOffset n) = text_value (LineTextOffset n)
  value_text (TextIndex n) = text_value (TextIndex n)
  value_text (Local n) = Ok (labelled (codes " entry 0x") (hex n))
  value_text (Global n) = Ok (labelled (codes " global 0x") (hex n))
  value_text (Signature n) = Ok (labelled (codes " signature 0x") (sixteen n))
  value_text (Offset n) = list_value (Offset n)
  value_text (RangeIndex n) = list_value (RangeIndex n)
  value_text (LocationIndex n) = list_value (LocationIndex n)
  value_text (Supplement n) = Ok (labelled (codes " supplement 0x") (hex n))
