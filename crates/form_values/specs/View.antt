-- What clauses see of a raw value: the variants of `Raw` with their bytes as lists.
use Rattle.std.specs.Prelude.{ℕ, ℤ, Bool, true, false, List}
use Rattle.form_values.specs.declared.raw.Raw.{Raw}
use Rattle.form_values.specs.declared.raw.Raw.TheVariants as raws
use Rattle.form_values.specs.declared.raw.Widths.{Widths}
use Rattle.unit_headers.specs.declared.header.UnitHeader.{UnitHeader}

-- a value as it stands in the entry, before an offset or an index in it is followed
pub data RawView : Type 0 where
  Address : ℕ → RawView
  AddressIndex : ℕ → RawView
  Block : List ℕ → RawView
  Expression : List ℕ → RawView
  Unsigned : ℕ → RawView
  Signed : ℤ → RawView
  Wide : List ℕ → RawView
  Flag : Bool → RawView
  Text : List ℕ → RawView
  TextOffset : ℕ → RawView
  LineTextOffset : ℕ → RawView
  TextIndex : ℕ → RawView
  Local : ℕ → RawView
  Global : ℕ → RawView
  Signature : ℕ → RawView
  Offset : ℕ → RawView
  RangeIndex : ℕ → RawView
  LocationIndex : ℕ → RawView
  Supplement : ℕ → RawView

abbrev pub raw_view : Raw → RawView
raw_view (raws.Address n) = Address n
raw_view (raws.AddressIndex n) = AddressIndex n
raw_view (raws.Block bytes) = Block bytes.now
raw_view (raws.Expression bytes) = Expression bytes.now
raw_view (raws.Unsigned n) = Unsigned n
raw_view (raws.Signed z) = Signed z
raw_view (raws.Wide bytes) = Wide bytes.now
raw_view (raws.Flag b) = Flag b
raw_view (raws.Text bytes) = Text bytes.now
raw_view (raws.TextOffset n) = TextOffset n
raw_view (raws.LineTextOffset n) = LineTextOffset n
raw_view (raws.TextIndex n) = TextIndex n
raw_view (raws.Local n) = Local n
raw_view (raws.Global n) = Global n
raw_view (raws.Signature n) = Signature n
raw_view (raws.Offset n) = Offset n
raw_view (raws.RangeIndex n) = RangeIndex n
raw_view (raws.LocationIndex n) = LocationIndex n
raw_view (raws.Supplement n) = Supplement n

-- the widths that a unit's header gives to the values of its entries
abbrev pub widths_of : UnitHeader → Widths
widths_of header = record { wide = header.wide; address_size = header.address_size }

-- the value stands for a text
abbrev pub is_text : RawView → Bool
is_text (Text bytes) = true
is_text (TextOffset n) = true
is_text (LineTextOffset n) = true
is_text (TextIndex n) = true
is_text _ = false

-- the value stands for an address
abbrev pub is_address : RawView → Bool
is_address (Address n) = true
is_address (AddressIndex n) = true
is_address _ = false

-- the value stands for the place of a range list or a location list, or of another section's data
abbrev pub is_list : RawView → Bool
is_list (Offset n) = true
is_list (RangeIndex n) = true
is_list (LocationIndex n) = true
is_list _ = false
