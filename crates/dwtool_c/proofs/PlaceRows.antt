-- How the rows and the names of places, one after another, are those of all of them.
use Rattle.std.proofs.Common.{◌≡◌, ◌∙◌, ℕ, ◌+◌, ◌<◌, ◌≤◌, List, [], ◌∷◌, ◌++◌, length, map, drop, get_or, drop-cons, add-one, Option, refl, sym, ap, append_assoc, length-append}
use Rattle.std.proofs.lemmas.List.{append-nil, drop_all}
use Rattle.address_lookup.specs.Places.{PlaceView}
use Rattle.dwtool_c.specs.declared.places.DwtoolPlace.{DwtoolPlace}
use Rattle.dwtool_c.specs.Places.{AreTold, names_of, place_names, place_row, place_rows}

-- what was told, and what is told of the addresses from this number on, is what is told of all
pub record IsAhead (place : ℕ → Option PlaceView) (addresses : List ℕ) (i : ℕ) (rows : List DwtoolPlace) (names : List ℕ) : Type 0 where
  pub rows_are : rows ++ place_rows (length names) (map place (drop i addresses)) ≡ place_rows 0 (map place addresses)
  pub names_are : names ++ place_names (map place (drop i addresses)) ≡ place_names (map place addresses)

-- nothing was told yet
pub none_yet : (place : ℕ → Option PlaceView) (addresses : List ℕ) (rows : List DwtoolPlace) (names : List ℕ) → rows ≡ [] → names ≡ [] → IsAhead place addresses 0 rows names
none_yet place addresses rows names no_rows no_names = rw (no_rows, no_names) (record { rows_are = refl; names_are = refl })

rows_behind : (place : ℕ → Option PlaceView) (addresses : List ℕ) (i start d : ℕ) → i < length addresses
    → place_rows start (map place (drop i addresses)) ≡ place_row start (place (get_or addresses i d)) ∷ place_rows (start + length (names_of (place (get_or addresses i d)))) (map place (drop (i + 1) addresses))
unfolding place_rows
rows_behind place addresses i start d inside = rw (drop-cons addresses i d inside) (rw add-one refl)

names_behind : (place : ℕ → Option PlaceView) (addresses : List ℕ) (i d : ℕ) → i < length addresses
    → place_names (map place (drop i addresses)) ≡ names_of (place (get_or addresses i d)) ++ place_names (map place (drop (i + 1) addresses))
unfolding place_names
names_behind place addresses i d inside = rw (drop-cons addresses i d inside) (rw add-one refl)

-- the place of the next address was put behind the others
pub place_next : (place : ℕ → Option PlaceView) (addresses : List ℕ) (i d : ℕ) (p : Option PlaceView) (rows new_rows : List DwtoolPlace) (names new_names : List ℕ)
    → i < length addresses → p ≡ place (get_or addresses i d)
    → new_rows ≡ rows ++ place_row (length names) p ∷ [] → new_names ≡ names ++ names_of p
    → IsAhead place addresses i rows names → IsAhead place addresses (i + 1) new_rows new_names
place_next place addresses i d p rows new_rows names new_names inside is more_rows more_names told = record {
  rows_are =
      rw (more_rows, more_names, length-append names (names_of p), is)
      (append_assoc rows (place_row (length names) (place (get_or addresses i d)) ∷ []) _
      ∙ ap (λ rest. rows ++ rest) (sym (rows_behind place addresses i (length names) d inside)) ∙ told.rows_are);
  names_are =
      rw (more_names, is)
      (append_assoc names (names_of (place (get_or addresses i d))) _
      ∙ ap (λ rest. names ++ rest) (sym (names_behind place addresses i d inside)) ∙ told.names_are);
}

-- no address is left
pub all_told : (place : ℕ → Option PlaceView) (addresses : List ℕ) (i : ℕ) (rows : List DwtoolPlace) (names : List ℕ)
    → length addresses ≤ i → IsAhead place addresses i rows names → AreTold (map place addresses) rows names
unfolding place_rows place_names
all_told place addresses i rows names past told =
    let none : drop i addresses ≡ [] = drop_all i addresses past in
    let rows_are : rows ++ [] ≡ place_rows 0 (map place addresses) = rw none at told.rows_are in
    let names_are : names ++ [] ≡ place_names (map place addresses) = rw none at told.names_are in
    record {
      rows_are = sym (append-nil rows) ∙ rows_are;
      names_are = sym (append-nil names) ∙ names_are;
    }
