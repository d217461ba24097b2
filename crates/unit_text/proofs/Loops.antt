-- Laws by which loops that append the texts of a list's items are proved. The invariant of such a loop says, for every
-- later state and result: what appends the texts of the items that are left makes the whole append the texts of all.
use Rattle.std.specs.Prelude.{◌≡◌, refl, ℕ, ◌+◌, ◌<◌, ◌≤◌, List, [], ◌∷◌, ◌++◌, length, drop, slice_index_or, map, Result, Ok, Err}
use Rattle.std.specs.List.{flat_map}
use Rattle.std.proofs.Common.{sym, ap, subst, ◌∙◌, append_assoc, append-nil}
use Rattle.std.proofs.lemmas.List.{at_drop_more, at_drop_all}
use Rattle.unit_headers.specs.declared.refusal.UnitRefusal.{UnitRefusal}
use Rattle.unit_headers.specs.declared.refusal.UnitRefusal.TheVariants.{Refused, OutOfMemory}
use Rattle.unit_text.specs.Pieces.{Text, joined, texts_of, Gained, Puts}

-- a piece that was appended, and then the rest
pub puts_then : (r : Result (Unit {0}) UnitRefusal) (old mid new : List ℕ) (a b : Text) → Gained old mid a → Puts r mid new b → Puts r old new (joined a b)
unfolding joined
puts_then r old mid new (Err f) b g p = absurd g
puts_then (Ok u) old mid new (Ok a) (Ok b) g p = p ∙ ap (λ t. t ++ b) g ∙ append_assoc old a b
puts_then (Ok u) old mid new (Ok a) (Err f) g p = absurd p
puts_then (Err (Refused f)) old mid new (Ok a) b g p = (ap (joined (Ok a)) p.0, a ++ p.1, p.2 ∙ ap (λ t. t ++ p.1) g ∙ append_assoc old a p.1)
puts_then (Err OutOfMemory) old mid new (Ok a) b g p = (tt, a ++ p.1, p.2 ∙ ap (λ t. t ++ p.1) g ∙ append_assoc old a p.1)

-- a piece that was refused is the refusal of the whole
pub puts_stop : (e : UnitRefusal) (old new : List ℕ) (a b : Text) → Puts (Err e) old new a → Puts (Err e) old new (joined a b)
unfolding joined
puts_stop (Refused f) old new a b p = (ap (λ t. joined t b) p.0, p.1, p.2)
puts_stop OutOfMemory old new a b p = (tt, p.1, p.2)

-- the text of the item at hand was appended, and then those of the items behind it
pub texts_next : {X : Type 0} (text : X → Text) (xs : List X) (i : ℕ) (d : X) (r : Result (Unit {0}) UnitRefusal) (old mid new : List ℕ) → i < length xs
    → Gained old mid (text (slice_index_or xs i d)) → Puts r mid new (texts_of text (drop (i + 1) xs)) → Puts r old new (texts_of text (drop i xs))
unfolding texts_of
texts_next text xs i d r old mid new within g p =
    subst (λ t. Puts r old new t) (sym (at_drop_more (texts_of text) xs i d within)) (puts_then r old mid new (text (slice_index_or xs i d)) (texts_of text (drop (i + 1) xs)) g p)

-- the text of the item at hand was refused
pub texts_stop : {X : Type 0} (text : X → Text) (xs : List X) (i : ℕ) (d : X) (e : UnitRefusal) (old new : List ℕ) → i < length xs
    → Puts (Err e) old new (text (slice_index_or xs i d)) → Puts (Err e) old new (texts_of text (drop i xs))
unfolding texts_of
texts_stop text xs i d e old new within p =
    subst (λ t. Puts (Err e) old new t) (sym (at_drop_more (texts_of text) xs i d within)) (puts_stop e old new (text (slice_index_or xs i d)) (texts_of text (drop (i + 1) xs)) p)

-- no item is left
pub texts_end : {X : Type 0} (text : X → Text) (xs : List X) (i : ℕ) (old : List ℕ) → length xs ≤ i → Puts (Ok tt) old old (texts_of text (drop i xs))
unfolding texts_of
texts_end text xs i old past = subst (λ t. Puts (Ok tt) old old t) (sym (at_drop_all (texts_of text) xs i past)) (sym (append-nil old))

-- the texts of items that are seen by a view
pub texts_map : {X Y : Type 0} (text : Y → Text) (view : X → Y) (xs : List X) → texts_of (λ x. text (view x)) xs ≡ texts_of text (map view xs)
unfolding texts_of
texts_map text view [] = refl
texts_map text view (x ∷ xs) = ap (joined (text (view x))) (texts_map text view xs)

-- texts none of which is refused
pub texts_flat : {X : Type 0} (text : X → List ℕ) (xs : List X) → texts_of (λ x. Ok (text x)) xs ≡ Ok (flat_map text xs)
unfolding texts_of joined
texts_flat text [] = refl
texts_flat text (x ∷ xs) = ap (joined (Ok (text x))) (texts_flat text xs)
