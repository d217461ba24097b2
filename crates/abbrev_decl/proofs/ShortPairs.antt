-- A pair of two bytes: name and form take one byte each, and no number stands behind them.
use Rattle.std.proofs.Common.{◌≡◌, ◌≢◌, ℕ, suc, pos, ◌^◌, le-leb, ◌+◌, ◌-◌, ◌*◌, ◌%◌, ◌<◌, ◌≤◌, ◌==◌, ◌&&◌, Bool, true, false, cond, List, [], ◌∷◌, take, drop, length, slice_index_or, Result, Ok, Option, Some, None, refl, ap, sym, ◌∙◌, arith}
use Rattle.std.proofs.lemmas.List.{take_all, length-drop, drop-drop}
use Rattle.std.proofs.lemmas.Bool.{le-ltb, lt-ltb, ne_eqb}
use Rattle.dw_fields.specs.declared.fault_code.Fault.{Fault}
use Rattle.dw_fields.specs.Span.{Span, rest_of}
use Rattle.dw_fields.specs.Leb.{last_group, unsigned_of, leb_sum}
use Rattle.dw_fields.specs.Reading.{leb_of, leb_upto, uleb_at}
use Rattle.dw_numbers.specs.declared.form.TheConstants.{IMPLICIT_CONST}
use Rattle.abbrev_decl.specs.declared.pairs.AttrSpec.{AttrSpec}
use Rattle.abbrev_decl.specs.Pairs.{from, implicit_at, pair_at, short_pair}

group_ends : (b : ℕ) (rest : List ℕ) → b < 128 → last_group (b ∷ rest) ≡ Some 0
unfolding last_group
group_ends b rest small = rw (lt-ltb b 128 small, le-leb 1 (suc (length rest)) (omega arith)) refl

group_value : (b : ℕ) → b < 128 → unsigned_of (b ∷ []) ≡ Some b
group_value b small =
    let value : leb_sum (b ∷ []) ≡ b = omega arith in
    let fits : b < 2 ^ 64 = omega arith in
    rw (value, lt-ltb b (2 ^ 64) fits) refl

-- a number of one byte
uleb_byte : (s : Span) (b : ℕ) (rest : List ℕ) → rest_of s ≡ b ∷ rest → b < 128 → uleb_at s ≡ Ok (b, s.place + 1)
unfolding uleb_at
uleb_byte s b rest stands small =
    ap (λ bytes. leb_upto unsigned_of s (last_group bytes)) stands
    ∙ ap (leb_upto unsigned_of s) (group_ends b rest small)
    ∙ ap (λ bytes. leb_of s 1 (unsigned_of (take 1 bytes))) stands
    ∙ ap (leb_of s 1) (group_value b small)

two_groups_end : (a b : ℕ) (rest : List ℕ) → 128 ≤ a → b < 128 → last_group (a ∷ b ∷ rest) ≡ Some 1
unfolding last_group
two_groups_end a b rest large small =
    rw (le-ltb a 128 large, lt-ltb b 128 small, le-leb 2 (suc (suc (length rest))) (omega arith)) refl

two_groups_value : (a b : ℕ) → b < 128 → unsigned_of (a ∷ b ∷ []) ≡ Some (a % 128 + 128 * b)
two_groups_value a b small =
    let value : leb_sum (a ∷ b ∷ []) ≡ a % 128 + 128 * b = omega arith in
    let fits : a % 128 + 128 * b < 2 ^ 64 = omega arith in
    rw (value, lt-ltb (a % 128 + 128 * b) (2 ^ 64) fits) refl

-- a number of two bytes
uleb_two_bytes : (s : Span) (a b : ℕ) (rest : List ℕ) → rest_of s ≡ a ∷ b ∷ rest → 128 ≤ a → b < 128
    → uleb_at s ≡ Ok (a % 128 + 128 * b, s.place + 2)
unfolding uleb_at
uleb_two_bytes s a b rest stands large small =
    ap (λ bytes. leb_upto unsigned_of s (last_group bytes)) stands
    ∙ ap (leb_upto unsigned_of s) (two_groups_end a b rest large small)
    ∙ ap (λ bytes. leb_of s 2 (unsigned_of (take 2 bytes))) stands
    ∙ ap (leb_of s 2) (two_groups_value a b small)

bytes_from : (section : List ℕ) (place : ℕ) → rest_of (from section place) ≡ drop place section
bytes_from section place =
    let size = length-drop place section in
    take_all (length section - place) (drop place section) (omega (arith, size))

abbrev read_to : ℕ → Option AttrSpec → Result (Option AttrSpec × ℕ) Fault
read_to place pair = Ok (pair, place)

abbrev read_number : ℕ → ℕ → Result (ℕ × ℕ) Fault
read_number number place = Ok (number, place)

either_way : (ends : Bool) (pair : AttrSpec) (p q : ℕ) → p ≡ q
    → cond ends (read_to p None) (read_to p (Some pair)) ≡ read_to q (cond ends None (Some pair))
either_way true pair p q same = ap (λ n. read_to n None) same
either_way false pair p q same = ap (λ n. read_to n (Some pair)) same

short_implicit : (form : ℕ) (s : Span) → form ≢ IMPLICIT_CONST → implicit_at form s ≡ Ok (pos 0, s.place)
unfolding implicit_at
short_implicit form s other = rw (ne_eqb form IMPLICIT_CONST other) refl

-- what two bytes below 128 are as a pair
two_numbers : (section : List ℕ) (place name form : ℕ)
    → uleb_at (from section place) ≡ Ok (name, place + 1) → uleb_at (from section (place + 1)) ≡ Ok (form, place + 1 + 1)
    → form ≢ IMPLICIT_CONST → pair_at (from section place) ≡ Ok (short_pair name form, place + 2)
unfolding pair_at
two_numbers section place name form first second other =
    rw (first, second, short_implicit form (from section (place + 1 + 1)) other)
    (either_way ((name == 0) && (form == 0)) (record { name = name; form = form; implicit = pos 0 }) (place + 1 + 1) (place + 2) (omega arith))

on_bytes : (section : List ℕ) (place : ℕ) (bytes : List ℕ) → drop place section ≡ bytes → 2 ≤ length bytes
    → slice_index_or bytes 0 0 < 128 → slice_index_or bytes 1 0 < 128 → slice_index_or bytes 1 0 ≢ IMPLICIT_CONST
    → pair_at (from section place) ≡ Ok (short_pair (slice_index_or bytes 0 0) (slice_index_or bytes 1 0), place + 2)
on_bytes section place [] e two a b other = absurd (omega arith)
on_bytes section place (x ∷ []) e two a b other = absurd (omega arith)
on_bytes section place (x ∷ y ∷ rest) e two a b other =
    let behind : drop (place + 1) section ≡ y ∷ rest = sym (drop-drop 1 place section) ∙ ap (drop 1) e in
    two_numbers section place x y (uleb_byte (from section place) x (y ∷ rest) (bytes_from section place ∙ e) a)
    (uleb_byte (from section (place + 1)) y rest (bytes_from section (place + 1) ∙ behind) b) other

pub two_bytes : (section : List ℕ) (place : ℕ) → let bytes = take (length section - place) (drop place section) in
    2 ≤ length bytes → slice_index_or bytes 0 0 < 128 → slice_index_or bytes 1 0 < 128 → slice_index_or bytes 1 0 ≢ IMPLICIT_CONST
    → pair_at (from section place) ≡ Ok (short_pair (slice_index_or bytes 0 0) (slice_index_or bytes 1 0), place + 2)
two_bytes section place two a b other =
    let bytes = take (length section - place) (drop place section) in
    on_bytes section place bytes (sym (bytes_from section place)) two a b other

-- numbers of one byte and of two, over the bytes from a place on
first_on_bytes : (section : List ℕ) (place : ℕ) (bytes : List ℕ) → drop place section ≡ bytes → 2 ≤ length bytes
    → slice_index_or bytes 0 0 < 128 → uleb_at (from section place) ≡ Ok (slice_index_or bytes 0 0, place + 1)
first_on_bytes section place [] e two a = absurd (omega arith)
first_on_bytes section place (x ∷ rest) e two a = uleb_byte (from section place) x rest (bytes_from section place ∙ e) a

both_on_bytes : (section : List ℕ) (place : ℕ) (bytes : List ℕ) → drop place section ≡ bytes → 2 ≤ length bytes
    → 128 ≤ slice_index_or bytes 0 0 → slice_index_or bytes 1 0 < 128
    → uleb_at (from section place) ≡ Ok (slice_index_or bytes 0 0 % 128 + 128 * slice_index_or bytes 1 0, place + 2)
both_on_bytes section place [] e two a b = absurd (omega arith)
both_on_bytes section place (x ∷ []) e two a b = absurd (omega arith)
both_on_bytes section place (x ∷ y ∷ rest) e two a b = uleb_two_bytes (from section place) x y rest (bytes_from section place ∙ e) a b

pub one_byte_number : (section : List ℕ) (place number : ℕ) → let bytes = take (length section - place) (drop place section) in
    2 ≤ length bytes → slice_index_or bytes 0 0 < 128 → number ≡ slice_index_or bytes 0 0 → uleb_at (from section place) ≡ Ok (number, place + 1)
one_byte_number section place number two a is =
    let bytes = take (length section - place) (drop place section) in
    first_on_bytes section place bytes (sym (bytes_from section place)) two a ∙ ap (λ n. read_number n (place + 1)) (sym is)

pub two_byte_number : (section : List ℕ) (place low high : ℕ) → let bytes = take (length section - place) (drop place section) in
    2 ≤ length bytes → 128 ≤ slice_index_or bytes 0 0 → slice_index_or bytes 1 0 < 128
    → low ≡ slice_index_or bytes 0 0 % 128 → high ≡ slice_index_or bytes 1 0 → uleb_at (from section place) ≡ Ok (low + 128 * high, place + 2)
two_byte_number section place low high two a b is_low is_high =
    let bytes = take (length section - place) (drop place section) in
    both_on_bytes section place bytes (sym (bytes_from section place)) two a b ∙ (λ i. read_number (sym is_low i + 128 * sym is_high i) (place + 2))
