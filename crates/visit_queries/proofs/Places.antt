-- The place of a name among visitors, and the visitor there.
use Rattle.std.specs.Prelude.{◌≡◌, refl, ℕ, suc, ◌+◌, ◌<◌, ◌≤◌, Bool, true, false, if◌then◌else◌, List, [], ◌∷◌, length, drop, slice_index_or, map, Option, Some, None, IfSome, option_map}
use Rattle.std.specs.Str.{bytes_eq}
use Rattle.std.proofs.Common.{sym, ap, subst, ◌∙◌, arith}
use Rattle.std.proofs.lemmas.List.{at_drop_more, at_drop_all}
use Rattle.visit_queries.specs.Named.{Named, first_named, place_named}

-- a place that is counted from `start`
abbrev pub counted_from : ℕ → Option ℕ → Option ℕ
counted_from start place = option_map (λ n. start + n) place

pub counted_from_zero : (place : Option ℕ) → counted_from 0 place ≡ place
counted_from_zero (Some n) = ap (λ m. Some m) (let e : 0 + n ≡ n = omega arith in e)
counted_from_zero None = refl

counted_more : (start : ℕ) (place : Option ℕ) → counted_from (start + 1) place ≡ counted_from start (option_map suc place)
counted_more start (Some n) = ap (λ m. Some m) (let e : start + 1 + n ≡ start + suc n = omega arith in e)
counted_more start None = refl

module _ {X : Type 0} (name : List ℕ) (view : X → List ℕ) (xs : List X) (i : ℕ) where
  pub place_next : (d : X) → i < length xs → bytes_eq (view (slice_index_or xs i d)) name ≡ false
      → counted_from (i + 1) (place_named name (map view (drop (i + 1) xs))) ≡ counted_from i (place_named name (map view (drop i xs)))
  place_next d within other =
      counted_more i (place_named name (map view (drop (i + 1) xs)))
      ∙ sym (at_drop_more (λ ys. counted_from i (place_named name (map view ys))) xs i d within ∙ rw other refl)

  pub place_here : (d : X) → i < length xs → bytes_eq (view (slice_index_or xs i d)) name ≡ true
      → counted_from i (place_named name (map view (drop i xs))) ≡ Some i
  place_here d within same =
      at_drop_more (λ ys. counted_from i (place_named name (map view ys))) xs i d within
      ∙ rw same (ap (λ m. Some m) (let e : i + 0 ≡ i = omega arith in e))

  pub place_nowhere : length xs ≤ i → counted_from i (place_named name (map view (drop i xs))) ≡ None
  place_nowhere past = at_drop_all (λ ys. counted_from i (place_named name (map view ys))) xs i past

within_more : (here : Bool) (size : ℕ) (place : Option ℕ) → IfSome place (λ n. n < size) → IfSome (if here then Some 0 else option_map suc place) (λ n. n < suc size)
within_more true size place within = omega arith
within_more false size (Some n) within = omega (arith, within)
within_more false size None within = tt

place_within : {X : Type 0} (name : List ℕ) (view : X → List ℕ) (xs : List X) → IfSome (place_named name (map view xs)) (λ n. n < length xs)
place_within name view [] = tt
place_within name view (x ∷ xs) = within_more (bytes_eq (view x) name) (length xs) (place_named name (map view xs)) (place_within name view xs)

-- a place is one of the list's
pub place_inside : {X : Type 0} (name : List ℕ) (view : X → List ℕ) (xs : List X) (n : ℕ) → Some n ≡ place_named name (map view xs) → n < length xs
place_inside name view xs n e = subst (λ p. IfSome p (λ m. m < length xs)) (sym e) (place_within name view xs)

module _ {X : Type 0} (view : X → Named) where
  -- the visitor at a place is the first of the name, and without a place there is none
  abbrev Tells : Option Named → List X → Option ℕ → Type 0
  Tells found xs (Some n) = (d : X) → Some (view (slice_index_or xs n d)) ≡ found
  Tells found xs None = None ≡ found

  tells_more : (here : Bool) (x : X) (xs : List X) (found : Option Named) (place : Option ℕ) → Tells found xs place
      → Tells (if here then Some (view x) else found) (x ∷ xs) (if here then Some 0 else option_map suc place)
  tells_more true x xs found place told = λ d. refl
  tells_more false x xs found (Some n) told = told
  tells_more false x xs found None told = told

  tells : (name : List ℕ) (xs : List X) → Tells (first_named name (map view xs)) xs (place_named name (map (λ v. (view v).name) xs))
  tells name [] = refl
  tells name (x ∷ xs) = tells_more (bytes_eq (view x).name name) x xs (first_named name (map view xs)) (place_named name (map (λ v. (view v).name) xs)) (tells name xs)

  pub named_found : (name : List ℕ) (xs : List X) (n : ℕ) (x : X) → x ≡ slice_index_or xs n x → Some n ≡ place_named name (map (λ v. (view v).name) xs)
      → Some (view x) ≡ first_named name (map view xs)
  named_found name xs n x is e =
      ap (λ y. Some (view y)) is
      ∙ subst (Tells (first_named name (map view xs)) xs) (sym e) (tells name xs) x

  pub named_none : (name : List ℕ) (xs : List X) → None ≡ place_named name (map (λ v. (view v).name) xs) → None ≡ first_named name (map view xs)
  named_none name xs e = subst (Tells (first_named name (map view xs)) xs) (sym e) (tells name xs)
