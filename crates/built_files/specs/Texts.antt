-- A text in bytes, up to the zero byte that ends it.
use Rattle.std.specs.Prelude.{◌≡◌, ℕ, ◌<◌, ◌==◌, not, false, List, [], ◌∷◌, ◌++◌, length, drop, position, Some, refl}
use Rattle.std.specs.List.{list_any, prefix_len}
use Rattle.std.proofs.Common.{arith, ◌∙◌, append_assoc, length-append, one-add}
use Rattle.std.proofs.Math.Seq.{take-append_seam}
use Rattle.std.proofs.lemmas.Bool.{or_parts, lt-ltb, lt-leb}
use Rattle.string_tables.specs.StringTables.{text_in_table, before_zero}
use Rattle.built_files.specs.Places.{LiesAt, lies_inside}

-- no byte of the text is zero
abbrev pub HasNoZero : List ℕ → Type 0
HasNoZero text = list_any (λ b. b == 0) text ≡ false

before_first : (text rest : List ℕ) → HasNoZero text → prefix_len (λ b. not (b == 0)) (text ++ 0 ∷ rest) ≡ length text
before_first [] rest none = refl
before_first (b ∷ text) rest none =
    let parts = or_parts (b == 0) (list_any (λ b. b == 0) text) none in
    rw (parts.0, before_first text rest parts.1) (one-add (length text))

-- the first zero byte is the one that ends it
pub zero_found : (text rest : List ℕ) → HasNoZero text → position (λ b. b == 0) (text ++ 0 ∷ rest) ≡ Some (length text)
zero_found text rest none =
    let inside : length text < length (text ++ 0 ∷ rest) = omega (arith, length-append text (0 ∷ rest)) in
    rw (before_first text rest none, lt-ltb (length text) (length (text ++ 0 ∷ rest)) inside) refl

-- a text in a string table reads back
pub text_found : {table : List ℕ} {place : ℕ} → (text : List ℕ) → HasNoZero text → LiesAt table place (text ++ 0 ∷ []) → text_in_table table place ≡ Some text
unfolding text_in_table before_zero
text_found {table = table} {place = place} text none l =
    let within = lies_inside (omega (arith, length-append text (0 ∷ []))) l in
    let inside : place < length table = omega (arith, within, length-append text (0 ∷ [])) in
    let is : drop place table ≡ text ++ 0 ∷ l.rest = l.is ∙ append_assoc text (0 ∷ []) l.rest in
    rw (lt-leb (length table) place inside, is, zero_found text l.rest none, take-append_seam text (0 ∷ l.rest)) refl
