-- Loops that append a line for each item of a list.
use Rattle.std.proofs.Common.{◌≡◌, ℕ, suc, arith, ◌+◌, ◌<◌, ◌≤◌, List, ◌++◌, map, drop, length, get_or, drop-cons, append_assoc, append-nil, add-one, Result, Ok, Err, refl, sym, ◌∙◌, ap, subst}
use Rattle.std.proofs.lemmas.List.{drop-map, drop_all}
use Rattle.std.specs.declared.alloc.AllocError.{AllocError}
use Rattle.dw_text.specs.Added.{Adds}
use Rattle.line_machine.specs.declared.registers.Row.{Row}
use Rattle.line_text.specs.Numbered.{numbered}
use Rattle.line_text.specs.Rows.{row_text, rows_text}

adds_then : (r : Result (Unit {0}) AllocError) (old mid new a b : List ℕ) → mid ≡ old ++ a → Adds r mid new b → Adds r old new (a ++ b)
adds_then (Ok u) old mid new a b g p = p ∙ ap (λ t. t ++ b) g ∙ append_assoc old a b
adds_then (Err e) old mid new a b g p = (a ++ p.0, p.1 ∙ ap (λ t. t ++ p.0) g ∙ append_assoc old a p.0)

first_line : {X Y : Type 0} (line : ℕ → Y → List ℕ) (view : X → Y) (xs : List X) (number i : ℕ) (d : X) → i < length xs
    → numbered line number (map view (drop i xs)) ≡ line number (view (get_or xs i d)) ++ numbered line (number + 1) (map view (drop (i + 1) xs))
unfolding numbered
first_line line view xs number i d inside = let e : i + 1 ≡ suc i = omega arith in rw e (rw (drop-cons xs i d) refl)

-- the line of the item at hand was appended, and then those of the items behind it
pub numbered_next : {X Y : Type 0} (line : ℕ → Y → List ℕ) (view : X → Y) (xs : List X) (number i : ℕ) (d : X) (r : Result (Unit {0}) AllocError) (old mid new : List ℕ) → i < length xs
    → mid ≡ old ++ line number (view (get_or xs i d)) → Adds r mid new (numbered line (number + 1) (map view (drop (i + 1) xs))) → Adds r old new (numbered line number (map view (drop i xs)))
numbered_next line view xs number i d r old mid new inside g p =
    subst (λ t. Adds r old new t) (sym (first_line line view xs number i d inside))
    (adds_then r old mid new (line number (view (get_or xs i d))) (numbered line (number + 1) (map view (drop (i + 1) xs))) g p)

-- no item is left
pub numbered_end : {X Y : Type 0} (line : ℕ → Y → List ℕ) (view : X → Y) (xs : List X) (number i : ℕ) (old : List ℕ) → length xs ≤ i
    → Adds {E = AllocError} (Ok tt) old old (numbered line number (map view (drop i xs)))
unfolding numbered
numbered_end line view xs number i old past = rw (drop_all i xs past) (sym (append-nil old))

-- the names from a number on, seen
pub named_from : {X Y : Type 0} (view : X → Y) (first : ℕ) (xs shown : List X) → shown ≡ drop first xs → map view shown ≡ drop first (map view xs)
named_from view first xs shown e = ap (map view) e ∙ sym (drop-map view first xs)

-- the same for rows, which have no numbers
pub rows_next : (rows : List Row) (i : ℕ) (d : Row) (r : Result (Unit {0}) AllocError) (old mid new : List ℕ) → i < length rows
    → mid ≡ old ++ row_text (get_or rows i d) → Adds r mid new (rows_text (drop (i + 1) rows)) → Adds r old new (rows_text (drop i rows))
unfolding rows_text
rows_next rows i d r old mid new inside g p =
    let first : rows_text (drop i rows) ≡ row_text (get_or rows i d) ++ rows_text (drop (i + 1) rows) = rw (drop-cons rows i d) (rw add-one refl) in
    subst (λ t. Adds r old new t) (sym first) (adds_then r old mid new _ _ g p)

pub rows_end : (rows : List Row) (i : ℕ) (old : List ℕ) → length rows ≤ i → Adds {E = AllocError} (Ok tt) old old (rows_text (drop i rows))
unfolding rows_text
rows_end rows i old past = rw (drop_all i rows past) (sym (append-nil old))
