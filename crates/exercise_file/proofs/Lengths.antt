-- How long the parts of the generated file are, and where they lie.
use Rattle.std.specs.Prelude.{◌≡◌, ℕ, zero, suc, ◌+◌, ◌*◌, ◌/◌, ◌<◌, ◌≤◌, List, ◌++◌, length, refl}
use Rattle.std.specs.List.{flat_map, range_with_len}
use Rattle.std.proofs.Common.{arith, subst, ◌∙◌, length-append}
use Rattle.std.proofs.Math.Seq.{drop-append-add}
use Rattle.built_files.specs.Places.{LiesAt, lies_at, lies_front, lies_whole}
use Rattle.exercise_file.specs.Generated.{two, four, eight, table, unit_declaration, type_declaration, function_declaration, variable_declaration, table_count, unit_head, root, base_type, function, functions, variable, unit_bytes, texts, unit_name, ended_name, unit_ranges, ranges_head, pieces, declarations, info, names, range_lists}

pub length-table : length table ≡ 55
unfolding table unit_declaration type_declaration function_declaration variable_declaration
length-table = refl

pub length-unit : (unit : ℕ) → length (unit_bytes unit) ≡ 143
unfolding unit_bytes unit_head root base_type functions function variable two four eight
length-unit unit = refl

pub length-texts : length texts ≡ 22
unfolding texts
length-texts = refl

pub length-ended_name : (unit : ℕ) → length (ended_name unit) ≡ 8
unfolding ended_name unit_name
length-ended_name unit = refl

pub length-unit_ranges : (unit : ℕ) → length (unit_ranges unit) ≡ 12
unfolding unit_ranges eight
length-unit_ranges unit = refl

pub length-ranges_head : (units : ℕ) → length (ranges_head units) ≡ 12
unfolding ranges_head four
length-ranges_head units = refl

module _ (f : ℕ → List ℕ) (size : ℕ) (each : (i : ℕ) → length (f i) ≡ size) where
  long_from : (a n : ℕ) → length (flat_map f (range_with_len a n)) ≡ size * n
  long_from a zero = omega arith
  long_from a (suc n) = length-append (f a) (flat_map f (range_with_len (a + 1) n)) ∙ omega (arith, each a, long_from (a + 1) n)

  pub length-pieces : (n : ℕ) → length (pieces f n) ≡ size * n
  length-pieces n = long_from 0 n

  lie_from : (a n i : ℕ) → i < n → LiesAt (flat_map f (range_with_len a n)) (size * i) (f (a + i))
  lie_from a zero i inside = absurd (omega arith)
  lie_from a (suc n) zero inside =
      let here : a ≡ a + 0 = omega arith in
      let start : 0 ≡ size * 0 = omega arith in
      subst (λ k. LiesAt (flat_map f (range_with_len a (suc n))) (size * 0) (f k)) here
      (lies_at start (lies_front (f a) (flat_map f (range_with_len (a + 1) n)) (lies_whole (f a ++ flat_map f (range_with_len (a + 1) n)))))
  lie_from a (suc n) (suc i) inside =
      let later = lie_from (a + 1) n i (omega arith) in
      let here : a + 1 + i ≡ a + suc i = omega arith in
      let place : length (f a) + size * i ≡ size * suc i = omega (arith, each a) in
      subst (λ k. LiesAt (flat_map f (range_with_len a (suc n))) (size * suc i) (f k)) here
      (lies_at place (record { rest = later.rest; is = drop-append-add (f a) (flat_map f (range_with_len (a + 1) n)) (size * i) ∙ later.is }))

  -- each piece lies where it should
  pub piece_lies : (n i : ℕ) → i < n → LiesAt (pieces f n) (size * i) (f i)
  piece_lies n i inside =
      let here : 0 + i ≡ i = omega arith in
      subst (λ k. LiesAt (pieces f n) (size * i) (f k)) here (lie_from 0 n i inside)

pub length-declarations : (n : ℕ) → length (declarations n) ≡ 55 * table_count n
unfolding declarations
length-declarations n = length-pieces (λ t. table) 55 (λ t. length-table) (table_count n)

pub length-info : (n : ℕ) → length (info n) ≡ 143 * n
unfolding info
length-info n = length-pieces unit_bytes 143 length-unit n

pub length-names : (n : ℕ) → length (names n) ≡ 8 * n
unfolding names
length-names n = length-pieces ended_name 8 length-ended_name n

pub length-range_lists : (n : ℕ) → length (range_lists n) ≡ 12 + 12 * n
unfolding range_lists
length-range_lists n = length-append (ranges_head n) (pieces unit_ranges n) ∙ omega (arith, length-ranges_head n, length-pieces unit_ranges 12 length-unit_ranges n)

pub table_lies : (n t : ℕ) → t < table_count n → LiesAt (declarations n) (55 * t) table
unfolding declarations
table_lies n t inside = piece_lies (λ t. table) 55 (λ t. length-table) (table_count n) t inside

pub unit_lies : (n i : ℕ) → i < n → LiesAt (info n) (143 * i) (unit_bytes i)
unfolding info
unit_lies n i inside = piece_lies unit_bytes 143 length-unit n i inside

pub name_lies : (n i : ℕ) → i < n → LiesAt (names n) (8 * i) (ended_name i)
unfolding names
name_lies n i inside = piece_lies ended_name 8 length-ended_name n i inside

-- the table of a unit is one of them
pub table_of_unit : (n i : ℕ) → i < n → i / 10 < table_count n
table_of_unit n i inside = omega arith

pub few_tables : (n : ℕ) → n ≤ 9999 → table_count n ≤ 1000
few_tables n few = omega arith
