-- Numbers, values and attributes that were written read back. What is written is data, and the place of each is a sum.
use Rattle.std.specs.Prelude.{◌≡◌, ℕ, suc, pos, ◌+◌, ◌-◌, ◌*◌, ◌%◌, ◌<◌, ◌≤◌, ◌^◌, true, false, List, [], ◌∷◌, ◌++◌, length, take, drop, map, Some, Ok, refl}
use Rattle.std.specs.Int.{bytes_low_first}
use Rattle.std.proofs.Common.{arith, ap, ap₂, ◌∙◌, length-append, mod-eq_of_lt}
use Rattle.std.proofs.lemmas.Bool.{lt-ltb, le-leb}
use Rattle.byteorder.specs.Endian.{little_from}
use Rattle.byteorder.specs.Numbers.{length-bytes_low_first, little_from-take, little_number-reads_back}
use Rattle.dw_fields.specs.declared.byte_order.Order.TheVariants.{Little}
use Rattle.dw_fields.specs.Leb.{last_group, unsigned_of}
use Rattle.dw_fields.specs.Span.{Span}
use Rattle.dw_fields.specs.Reading.{bytes_at, number_at, offset_at, uleb_at}
use Rattle.abbrev_decl.specs.declared.pairs.AttrSpec.{AttrSpec}
use Rattle.form_values.specs.declared.raw.Widths.{Widths}
use Rattle.form_values.specs.FormTable.{value_at, direct_at, low_at, middle_at}
use Rattle.form_values.specs.View.{RawView}
use Rattle.form_values.specs.View as raws
use Rattle.entry_tree.specs.Entries.{attr_at, attrs_at}
use Rattle.entry_tree.specs.Views.{AttrView}
use Rattle.built_files.specs.Places.{LiesAt, lies_at, lies_front, lies_back}

-- a part of little-endian bytes
abbrev pub span : List ℕ → ℕ → ℕ → Span
span bytes place end = record { bytes = bytes; place = place; end = end; order = Little }

-- the 32-bit format with addresses of 8 bytes
abbrev pub narrow : Widths
narrow = record { wide = false; address_size = 8 }

pub number_read : {bytes : List ℕ} {place : ℕ} → (end n x : ℕ) → x < 256 ^ n → place + n ≤ end → LiesAt bytes place (bytes_low_first 0 n x)
    → number_at n (span bytes place end) ≡ Ok (x, place + n)
unfolding number_at bytes_at
number_read {bytes = bytes} {place = place} end n x fits inside l =
    let value : little_from 0 n (take n (drop place bytes)) ≡ x = little_from-take 0 n n (drop place bytes) (omega arith) ∙ ap (little_from 0 n) l.is ∙ little_number-reads_back n x l.rest fits in
    rw (le-leb (place + n) end inside, value) refl

one_group : (b : ℕ) → b < 128 → unsigned_of (b ∷ []) ≡ Some b
one_group b small =
    let sum : 0 * 128 + b % 128 ≡ b = omega (arith, mod-eq_of_lt small) in
    rw (sum, lt-ltb b (2 ^ 64) (omega arith)) refl

-- a number of one byte in LEB128
pub uleb_read : {bytes : List ℕ} {place : ℕ} → (end b : ℕ) → b < 128 → place < end → LiesAt bytes place (b ∷ []) → uleb_at (span bytes place end) ≡ Ok (b, place + 1)
unfolding uleb_at last_group
uleb_read {bytes = bytes} {place = place} end b small inside l =
    let count : end - place ≡ suc (end - place - 1) = omega arith in
    let rest : take (end - place) (drop place bytes) ≡ b ∷ take (end - place - 1) l.rest = ap₂ (λ n (t : List ℕ). take n t) count l.is in
    let some : 0 < length (b ∷ take (end - place - 1) l.rest) = omega arith in
    rw (rest, lt-ltb b 128 small, lt-ltb 0 (length (b ∷ take (end - place - 1) l.rest)) some, rest, one_group b small) refl

-- a value that is written, by its form: addr, data1, data4, ref4, strp, line_strp, sec_offset, flag_present
pub data Value : Type 0 where
  Address : ℕ → Value
  Small : ℕ → Value
  Number : ℕ → Value
  Reference : ℕ → Value
  Text : ℕ → Value
  LineText : ℕ → Value
  Place : ℕ → Value
  Present : Value

abbrev pub form_of : Value → ℕ
form_of (Address x) = 0x01
form_of (Small x) = 0x0b
form_of (Number x) = 0x06
form_of (Reference x) = 0x13
form_of (Text x) = 0x0e
form_of (LineText x) = 0x1f
form_of (Place x) = 0x17
form_of Present = 0x19

abbrev pub size_of : Value → ℕ
size_of (Address x) = 8
size_of (Small x) = 1
size_of (Number x) = 4
size_of (Reference x) = 4
size_of (Text x) = 4
size_of (LineText x) = 4
size_of (Place x) = 4
size_of Present = 0

abbrev pub held : Value → ℕ
held (Address x) = x
held (Small x) = x
held (Number x) = x
held (Reference x) = x
held (Text x) = x
held (LineText x) = x
held (Place x) = x
held Present = 0

abbrev pub raw_of : Value → RawView
raw_of (Address x) = raws.Address x
raw_of (Small x) = raws.Unsigned x
raw_of (Number x) = raws.Unsigned x
raw_of (Reference x) = raws.Local x
raw_of (Text x) = raws.TextOffset x
raw_of (LineText x) = raws.LineTextOffset x
raw_of (Place x) = raws.Offset x
raw_of Present = raws.Flag true

abbrev pub value_bytes : Value → List ℕ
value_bytes v = bytes_low_first 0 (size_of v) (held v)

abbrev pub Fits : Value → Type 0
Fits v = held v < 256 ^ size_of v

pub value_read : {bytes : List ℕ} {place : ℕ} → (end : ℕ) (v : Value) → Fits v → place + size_of v ≤ end → LiesAt bytes place (value_bytes v)
    → value_at (form_of v) narrow (pos 0) (span bytes place end) ≡ Ok (raw_of v, place + size_of v)
unfolding value_at direct_at low_at middle_at offset_at
value_read end (Address x) fits inside l = rw (number_read end 8 x fits inside l) refl
value_read end (Small x) fits inside l = rw (number_read end 1 x fits inside l) refl
value_read end (Number x) fits inside l = rw (number_read end 4 x fits inside l) refl
value_read end (Reference x) fits inside l = rw (number_read end 4 x fits inside l) refl
value_read end (Text x) fits inside l = rw (number_read end 4 x fits inside l) refl
value_read end (LineText x) fits inside l = rw (number_read end 4 x fits inside l) refl
value_read end (Place x) fits inside l = rw (number_read end 4 x fits inside l) refl
value_read {place = place} end Present fits inside l = let same : place ≡ place + 0 = omega arith in ap (λ p. Ok (raws.Flag true, p)) same

-- an attribute that is written: its name and its value
pub record Written : Type 0 where
  pub name : ℕ
  pub value : Value

abbrev pub pair_of : Written → AttrSpec
pair_of a = record { name = a.name; form = form_of a.value; implicit = pos 0 }

abbrev pub attrs_bytes : List Written → List ℕ
attrs_bytes [] = []
attrs_bytes (a ∷ attrs) = value_bytes a.value ++ attrs_bytes attrs

abbrev pub attrs_size : List Written → ℕ
attrs_size [] = 0
attrs_size (a ∷ attrs) = size_of a.value + attrs_size attrs

abbrev pub AllFit : List Written → Type 0
AllFit [] = Unit {0}
AllFit (a ∷ attrs) = Fits a.value × AllFit attrs

-- the attributes as they are read from a place on
abbrev pub attrs_seen : ℕ → List Written → List AttrView
attrs_seen place [] = []
attrs_seen place (a ∷ attrs) =
    record { name = a.name; form = form_of a.value; place = place; raw = raw_of a.value } ∷ attrs_seen (place + size_of a.value) attrs

pub length-attrs : (attrs : List Written) → length (attrs_bytes attrs) ≡ attrs_size attrs
length-attrs [] = refl
length-attrs (a ∷ attrs) = length-append (value_bytes a.value) (attrs_bytes attrs) ∙ ap₂ (λ m n. m + n) (length-bytes_low_first 0 (size_of a.value) (held a.value)) (length-attrs attrs)

pub attrs_read : {bytes : List ℕ} → (end place : ℕ) (attrs : List Written) → AllFit attrs → place + attrs_size attrs ≤ end → LiesAt bytes place (attrs_bytes attrs)
    → attrs_at narrow (map pair_of attrs) (span bytes place end) ≡ Ok (attrs_seen place attrs, place + attrs_size attrs)
unfolding attrs_at attr_at
attrs_read end place [] fit inside l = let same : place ≡ place + 0 = omega arith in ap (λ p. Ok ([], p)) same
attrs_read end place (a ∷ attrs) fit inside l =
    let long = length-bytes_low_first 0 (size_of a.value) (held a.value) in
    let first = value_read end a.value fit.0 (omega arith) (lies_front (value_bytes a.value) (attrs_bytes attrs) l) in
    let behind = lies_at (ap (λ n. place + n) long) (lies_back (value_bytes a.value) (attrs_bytes attrs) l) in
    let others = attrs_read end (place + size_of a.value) attrs fit.1 (omega arith) behind in
    let sum : place + size_of a.value + attrs_size attrs ≡ place + (size_of a.value + attrs_size attrs) = omega arith in
    rw (first, others, sum) refl
