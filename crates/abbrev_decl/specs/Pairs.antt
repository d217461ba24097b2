-- The pairs of an abbreviation declaration: DWARF 5, section 7.5.3.
use Rattle.std.specs.Prelude.{ℕ, zero, suc, ℤ, pos, ◌+◌, ◌≡◌, ◌≤◌, ◌==◌, ◌&&◌, List, [], ◌∷◌, length, Result, Ok, Err, Option, Some, None, if◌then◌else◌}
use Rattle.std.specs.Borrow.{Bor}
use Rattle.dw_fields.specs.declared.fault_code.Fault.{Fault}
use Rattle.dw_fields.specs.declared.fault_code.Code.TheVariants.{Truncated, DeclTruncated}
use Rattle.dw_fields.specs.declared.byte_order.Order.TheVariants.{Little}
use Rattle.dw_fields.specs.Codes.{fault}
use Rattle.dw_fields.specs.Span.{Span, at}
use Rattle.dw_fields.specs.Reading.{Reader, ◌>>=◌, renamed, uleb_at, sleb_at}
use Rattle.dw_numbers.specs.declared.form.TheConstants.{IMPLICIT_CONST}
use Rattle.abbrev_decl.specs.declared.pairs.AttrSpec.{AttrSpec}

-- `.debug_abbrev` from a place to its end. Its numbers are LEB128 and single bytes, which have no
-- byte order.
abbrev pub from : List ℕ → ℕ → Span
from section place = record { bytes = section; place = place; end = length section; order = Little }

-- A field that passes the section's end makes a truncated declaration, at that field.
abbrev pub in_table : {X : Type 0} → Result X Fault → Result X Fault
in_table read = renamed Truncated DeclTruncated read

-- What stands behind a form in its pair: for implicit_const an SLEB128, else nothing.
unfoldable pub implicit_at : ℕ → Reader ℤ
implicit_at form s = if form == IMPLICIT_CONST then in_table (sleb_at s) else Ok (pos 0, s.place)

-- A pair: a name and a form in ULEB128. None is the pair 0, 0.
unfoldable pub pair_at : Reader (Option AttrSpec)
pair_at s = do
  name ← in_table (uleb_at s)
  form ← in_table (uleb_at (at s name.1))
  (if (name.0 == 0) && (form.0 == 0) then Ok (None, form.1) else (do
    implicit ← implicit_at form.0 (at s form.1)
    Ok (Some (record { name = name.0; form = form.0; implicit = implicit.0 }), implicit.1)))

-- The same where name and form take one byte each and no number stands behind them.
abbrev pub short_pair : ℕ → ℕ → Option AttrSpec
short_pair name form =
    if (name == 0) && (form == 0) then None
    else Some (record { name = name; form = form; implicit = pos 0 })

-- A pair in front of the pairs behind it.
abbrev pub in_front : AttrSpec → Result (List AttrSpec × ℕ) Fault → Result (List AttrSpec × ℕ) Fault
in_front pair (Ok others) = Ok (pair ∷ others.0, others.1)
in_front pair (Err f) = Err f

-- What a pair, or the pair 0, 0, makes of the pairs behind it.
abbrev pub pairs_on : Result (Option AttrSpec × ℕ) Fault → (ℕ → Result (List AttrSpec × ℕ) Fault)
    → Result (List AttrSpec × ℕ) Fault
pairs_on (Err f) others = Err f
pairs_on (Ok (None, next)) others = Ok ([], next)
pairs_on (Ok (Some pair, next)) others = in_front pair (others next)

-- At most `most` pairs from a place. Behind the section's end no pair stands.
abbrev pub pairs_from : ℕ → List ℕ → ℕ → Result (List AttrSpec × ℕ) Fault
pairs_from zero section place = Err (fault DeclTruncated place)
pairs_from (suc most) section place =
    pairs_on (pair_at (from section place)) (λ next. pairs_from most section next)

-- The pairs from a place up to the first pair 0, 0, and the place behind that pair; or the first
-- fault. A section has fewer pairs than bytes.
unfoldable pub pairs_at : List ℕ → ℕ → Result (List AttrSpec × ℕ) Fault
pairs_at section place = pairs_from (length section + 1) section place

-- The same in the words of the format: pairs stand one behind the other from `place` to `last`, and
-- none of them is the pair 0, 0.
abbrev pub PairsStand : List ℕ → ℕ → List AttrSpec → ℕ → Type 0
PairsStand section place [] last = place ≡ last
PairsStand section place (pair ∷ pairs) last =
    (next : ℕ) × (pair_at (from section place) ≡ Ok (Some pair, next))
    × PairsStand section next pairs last

-- What ends them: the pair 0, 0, or a fault.
abbrev pub PairsEnd : List ℕ → ℕ → List AttrSpec → Result (List AttrSpec × ℕ) Fault → Type 0
PairsEnd section last pairs (Ok all) =
    (all.0 ≡ pairs) × (pair_at (from section last) ≡ Ok (None, all.1))
PairsEnd section last pairs (Err f) = pair_at (from section last) ≡ Err f

-- The pairs of a declaration end at the first pair 0, 0, or at the first fault before it.
pub record EndAtFirstZeroPair (section : List ℕ) (place : ℕ)
    (answer : Result (List AttrSpec × ℕ) Fault) : Type 0 where
  pub pairs : List AttrSpec
  pub last : ℕ
  pub stand : PairsStand section place pairs last
  pub end : PairsEnd section last pairs answer

-- Pairs that were read without a fault, and the list of them.
abbrev pub IsRead : Result (List AttrSpec × ℕ) Fault → Type 0
IsRead (Ok all) = Unit {0}
IsRead (Err f) = ⊥

-- Pairs that begin in their section and were read.
pub record PairsWereRead (section : List ℕ) (place : ℕ) : Type 0 where
  pub inside : place ≤ length section
  pub read : IsRead (pairs_at section place)

abbrev pub pairs_of : Result (List AttrSpec × ℕ) Fault → List AttrSpec
pairs_of (Ok all) = all.0
pairs_of (Err f) = []

-- The pairs that are left: those of a list, where one was made of them, or those from a place on.
abbrev pub left_pairs : Option (Bor (List AttrSpec)) → List ℕ → ℕ → List AttrSpec
left_pairs (Some list) section place = list.now
left_pairs None section place = pairs_of (pairs_at section place)

-- The first of pairs that were read, and the place of the others; or there is none.
abbrev pub GivesPair : Option (AttrSpec × ℕ) → List ℕ → List AttrSpec → Type 0
GivesPair (Some (pair, next)) section pairs =
    (pairs ≡ pair ∷ pairs_of (pairs_at section next)) × PairsWereRead section next
GivesPair None section pairs = pairs ≡ []

-- The first of a list was taken from it; or nothing was, from none.
abbrev pub TakesPair : Option AttrSpec → List AttrSpec → List AttrSpec → Type 0
TakesPair None old new = (old ≡ []) × (new ≡ [])
TakesPair (Some pair) old new = old ≡ pair ∷ new

-- The place behind pairs, or the fault in them.
abbrev pub Skips : Result ℕ Fault → Result (List AttrSpec × ℕ) Fault → Type 0
Skips (Ok next) answer = answer ≡ Ok (pairs_of answer, next)
Skips (Err f) answer = answer ≡ Err f
