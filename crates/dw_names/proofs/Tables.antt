-- The tables of the code have the names of the standard's tables: each is walked over once.
use Rattle.std.specs.Prelude.{◌≡◌, refl, ℕ, zero, suc, ◌-◌, ◌<◌, ◌≤◌, nat_lt, Bool, true, false, ◌&&◌, Option, Some, None, List, [], get_or}
use Rattle.std.specs.Str.{bytes_eq}
use Rattle.std.proofs.Common.{T, eqb, eqb→eq, eq-zero-or-pos, inl, inr, sym, ap, arith}
use Rattle.std.proofs.lemmas.Bool.Decides.{nat_tests}
use Rattle.std.proofs.lemmas.Slice.Eq.{bytes_eq-Decides}
use lib.Ieee.Fits.{and_l, and_r}
use Rattle.dw_names.specs.Attributes.{attribute_name, attributes_00, attributes_10, attributes_20, attributes_30, attributes_40, attributes_50, attributes_60, attributes_70, attributes_80}
use Rattle.dw_names.specs.Tags.{tag_name, tags_00, tags_10, tags_20, tags_30, tags_40}
use Rattle.dw_names.specs.Rows.{AreRows, row_name, name_in}
use Rattle.dw_names.specs.declared.attributes.TheConstants.{ATTRIBUTES}
use Rattle.dw_names.specs.declared.tags.TheConstants.{TAGS}

is_true : (b : Bool) → T b → b ≡ true
is_true true t = refl
is_true false t = absurd t

-- two names are the same, or there is none
abbrev same : Option (List ℕ) → Option (List ℕ) → Bool
same None None = true
same (Some a) (Some b) = bytes_eq a b
same None (Some b) = false
same (Some a) None = false

same_is : (a b : Option (List ℕ)) → T (same a b) → a ≡ b
same_is None None t = refl
same_is (Some a) (Some b) t = ap (λ x. Some x) ((bytes_eq-Decides a b).0 (is_true (bytes_eq a b) t))
same_is None (Some b) t = absurd t
same_is (Some a) None t = absurd t

-- the first rows are right
abbrev says : (ℕ → Option (List ℕ)) → List (List ℕ) → ℕ → Bool
says name rows zero = true
says name rows (suc n) = (eqb (get_or (get_or rows n []) 0 0 - 31) 0 && same (row_name (get_or rows n [])) (name n)) && says name rows n

said : (name : ℕ → Option (List ℕ)) (rows : List (List ℕ)) (most n : ℕ) → T (says name rows most) → n < most
    → (get_or (get_or rows n []) 0 0 ≤ 31) × (row_name (get_or rows n []) ≡ name n)
said name rows zero n t h = absurd (omega arith)
said name rows (suc m) n t h =
    elim (eq-zero-or-pos (m - n)) [
      | inl z ↦
          let e : n ≡ m = omega arith in
          let a = and_l _ (says name rows m) t in
          let short : get_or (get_or rows m []) 0 0 - 31 ≡ 0 = eqb→eq (get_or (get_or rows m []) 0 0 - 31) 0 (and_l _ _ a) in
          let low : get_or (get_or rows m []) 0 0 ≤ 31 = omega (arith, short) in
          rw e (low, same_is _ _ (and_r _ _ a))
      | inr g ↦ said name rows m n (and_r _ (says name rows m) t) (omega arith)
    ]

attributes_said : T (says attribute_name ATTRIBUTES 144)
unfolding row_name attribute_name attributes_00 attributes_10 attributes_20 attributes_30 attributes_40 attributes_50 attributes_60 attributes_70 attributes_80
attributes_said = tt

attribute_past : (n : ℕ) → 144 ≤ n → attribute_name n ≡ None
unfolding attribute_name
attribute_past n past = grind (arith, nat_tests)

pub attributes_are_rows : AreRows ATTRIBUTES
attributes_are_rows = λ n within. (said attribute_name ATTRIBUTES 144 n attributes_said within).0

pub attribute_in : (n : ℕ) → name_in ATTRIBUTES n ≡ attribute_name n
unfolding name_in
attribute_in n =
    elim (eq-zero-or-pos (144 - n)) [
      | inl past ↦ let none : nat_lt n 144 ≡ false = grind (arith, nat_tests) in rw none (sym (attribute_past n (omega arith)))
      | inr within ↦ let some : nat_lt n 144 ≡ true = grind (arith, nat_tests) in rw some (said attribute_name ATTRIBUTES 144 n attributes_said (omega arith)).1
    ]

tags_said : T (says tag_name TAGS 80)
unfolding row_name tag_name tags_00 tags_10 tags_20 tags_30 tags_40
tags_said = tt

tag_past : (n : ℕ) → 80 ≤ n → tag_name n ≡ None
unfolding tag_name
tag_past n past = grind (arith, nat_tests)

pub tags_are_rows : AreRows TAGS
tags_are_rows = λ n within. (said tag_name TAGS 80 n tags_said within).0

pub tag_in : (n : ℕ) → name_in TAGS n ≡ tag_name n
unfolding name_in
tag_in n =
    elim (eq-zero-or-pos (80 - n)) [
      | inl past ↦ let none : nat_lt n 80 ≡ false = grind (arith, nat_tests) in rw none (sym (tag_past n (omega arith)))
      | inr within ↦ let some : nat_lt n 80 ≡ true = grind (arith, nat_tests) in rw some (said tag_name TAGS 80 n tags_said (omega arith)).1
    ]
