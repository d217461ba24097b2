-- A table of declarations that was written reads back.
use Rattle.std.specs.Prelude.{◌≡◌, ℕ, zero, suc, pos, ◌+◌, ◌<◌, ◌==◌, nat_lt, Bool, true, false, if◌then◌else◌, List, [], ◌∷◌, ◌++◌, length, map, Some, None, Result, Ok, Err, refl}
use Rattle.std.proofs.Common.{arith, ap, length-append}
use Rattle.std.proofs.lemmas.Bool.{ne_eqb}
use Rattle.dw_fields.specs.Reading.{number_at}
use Rattle.dw_numbers.specs.declared.form.TheConstants.{IMPLICIT_CONST}
use Rattle.abbrev_decl.specs.declared.lookup.FindFault.{FindFault}
use Rattle.abbrev_decl.specs.declared.lookup.FindFault.TheVariants as faults
use Rattle.abbrev_decl.specs.declared.pairs.AttrSpec.{AttrSpec}
use Rattle.abbrev_decl.specs.Declarations.{declaration_at, head_at}
use Rattle.abbrev_decl.specs.Lookup.{first_declaration, first_from}
use Rattle.abbrev_decl.specs.Pairs.{from, implicit_at, pair_at, pairs_at, pairs_from}
use Rattle.abbrev_decl.specs.Shapes.{DeclView}
use Rattle.built_files.specs.Places.{LiesAt, lies_at, lies_front, lies_back, lies_inside}
use Rattle.exercise_file.proofs.Written.{uleb_read, number_read}

-- a pair that is written: a name and a form of one byte each
pub record Pair : Type 0 where
  pub name : ℕ
  pub form : ℕ

-- a declaration that is written: its code and its tag are one byte each
pub record Declaration : Type 0 where
  pub code : ℕ
  pub tag : ℕ
  pub children : Bool
  pub pairs : List Pair

abbrev pub pairs_bytes : List Pair → List ℕ
pairs_bytes [] = 0 ∷ 0 ∷ []
pairs_bytes (p ∷ pairs) = p.name ∷ p.form ∷ pairs_bytes pairs

abbrev pub pairs_size : List Pair → ℕ
pairs_size [] = 2
pairs_size (p ∷ pairs) = 2 + pairs_size pairs

abbrev pub children_byte : Bool → ℕ
children_byte children = if children then 1 else 0

abbrev pub declaration_bytes : Declaration → List ℕ
declaration_bytes d = d.code ∷ d.tag ∷ children_byte d.children ∷ pairs_bytes d.pairs

abbrev pub declaration_size : Declaration → ℕ
declaration_size d = 3 + pairs_size d.pairs

-- a table: its declarations and the code 0
abbrev pub table_bytes : List Declaration → List ℕ
table_bytes [] = 0 ∷ []
table_bytes (d ∷ ds) = declaration_bytes d ++ table_bytes ds

abbrev pub spec_of : Pair → AttrSpec
spec_of p = record { name = p.name; form = p.form; implicit = pos 0 }

abbrev pub declared_at : ℕ → Declaration → DeclView
declared_at place d = record { code = d.code; tag = d.tag; children = d.children; place = place; pairs = map spec_of d.pairs }

-- what the walk finds among declarations that begin at a place
abbrev pub found_in : List Declaration → ℕ → ℕ → Result DeclView FindFault
found_in [] place code = Err faults.CodeMissing
found_in (d ∷ ds) place code = if d.code == code then Ok (declared_at place d) else found_in ds (place + declaration_size d) code

-- numbers of one byte, which aren't 0 and aren't implicit_const
abbrev pub ArePlainPairs : List Pair → Type 0
ArePlainPairs [] = Unit {0}
ArePlainPairs (p ∷ pairs) = (0 < p.name) × (p.name < 128) × (p.form < 128) × (p.form == IMPLICIT_CONST ≡ false) × ArePlainPairs pairs

abbrev pub ArePlain : List Declaration → Type 0
ArePlain [] = Unit {0}
ArePlain (d ∷ ds) = (0 < d.code) × (d.code < 128) × (d.tag < 128) × ArePlainPairs d.pairs × ArePlain ds

length-pairs : (pairs : List Pair) → length (pairs_bytes pairs) ≡ pairs_size pairs
length-pairs [] = refl
length-pairs (p ∷ pairs) = let rest = length-pairs pairs in omega arith

length-declaration : (d : Declaration) → length (declaration_bytes d) ≡ declaration_size d
length-declaration d = let rest = length-pairs d.pairs in omega arith

module _ (section : List ℕ) where
  pair_read : (place : ℕ) (p : Pair) → 0 < p.name → p.name < 128 → p.form < 128 → p.form == IMPLICIT_CONST ≡ false → LiesAt section place (p.name ∷ p.form ∷ [])
      → pair_at (from section place) ≡ Ok (Some (spec_of p), place + 2)
  unfolding pair_at implicit_at
  pair_read place p some name form plain l =
      let inside = lies_inside (omega arith) l in
      let first = uleb_read (length section) p.name name (omega (arith, inside)) (lies_front (p.name ∷ []) (p.form ∷ []) l) in
      let second = uleb_read (length section) p.form form (omega (arith, inside)) (lies_back (p.name ∷ []) (p.form ∷ []) l) in
      let sum : place + 1 + 1 ≡ place + 2 = omega arith in
      rw (first, second, ne_eqb p.name 0 (λ z. absurd (omega arith)), plain, sum) refl

  end_pair_read : (place : ℕ) → LiesAt section place (0 ∷ 0 ∷ []) → pair_at (from section place) ≡ Ok (None, place + 2)
  unfolding pair_at
  end_pair_read place l =
      let inside = lies_inside (omega arith) l in
      let first = uleb_read (length section) 0 (omega arith) (omega (arith, inside)) (lies_front (0 ∷ []) (0 ∷ []) l) in
      let second = uleb_read (length section) 0 (omega arith) (omega (arith, inside)) (lies_back (0 ∷ []) (0 ∷ []) l) in
      let sum : place + 1 + 1 ≡ place + 2 = omega arith in
      rw (first, second, sum) refl

  pairs_walked : (most place : ℕ) (pairs : List Pair) → length pairs < most → ArePlainPairs pairs → LiesAt section place (pairs_bytes pairs)
      → pairs_from most section place ≡ Ok (map spec_of pairs, place + pairs_size pairs)
  pairs_walked zero place pairs fuel plain l = absurd (omega arith)
  pairs_walked (suc most) place [] fuel plain l = rw (end_pair_read place l) refl
  pairs_walked (suc most) place (p ∷ pairs) fuel plain l =
      let first = pair_read place p plain.0 plain.1 plain.2 plain.3 (lies_front (p.name ∷ p.form ∷ []) (pairs_bytes pairs) l) in
      let others = pairs_walked most (place + 2) pairs (omega arith) plain.4 (lies_back (p.name ∷ p.form ∷ []) (pairs_bytes pairs) l) in
      let sum : place + 2 + pairs_size pairs ≡ place + (2 + pairs_size pairs) = omega arith in
      rw (first, others, sum) refl

  few_pairs : (pairs : List Pair) → length pairs < pairs_size pairs
  few_pairs [] = omega arith
  few_pairs (p ∷ pairs) = let rest = few_pairs pairs in omega arith

  pairs_read : (place : ℕ) (pairs : List Pair) → ArePlainPairs pairs → LiesAt section place (pairs_bytes pairs)
      → pairs_at section place ≡ Ok (map spec_of pairs, place + pairs_size pairs)
  unfolding pairs_at
  pairs_read place pairs plain l =
      let inside = lies_inside (omega (arith, length-pairs pairs, few_pairs pairs)) l in
      pairs_walked (length section + 1) place pairs (omega (arith, inside, length-pairs pairs, few_pairs pairs)) plain l

  children_read : (place : ℕ) (children : Bool) → LiesAt section place (children_byte children ∷ [])
      → (number_at 1 (from section place) ≡ Ok (children_byte children, place + 1)) × (nat_lt 1 (children_byte children) ≡ false) × (children_byte children == 1 ≡ children)
  children_read place true l = (number_read (length section) 1 1 (omega arith) (lies_inside (omega arith) l) l, refl, refl)
  children_read place false l = (number_read (length section) 1 0 (omega arith) (lies_inside (omega arith) l) l, refl, refl)

  head_read : (place : ℕ) (d : Declaration) → 0 < d.code → d.code < 128 → d.tag < 128 → LiesAt section place (d.code ∷ d.tag ∷ children_byte d.children ∷ [])
      → head_at section place ≡ Ok (Some (record { code = d.code; tag = d.tag; children = d.children; pairs = place + 3 }))
  unfolding head_at
  head_read place d some code tag l =
      let inside = lies_inside (omega arith) l in
      let c = children_byte d.children in
      let first = uleb_read (length section) d.code code (omega (arith, inside)) (lies_front (d.code ∷ []) (d.tag ∷ c ∷ []) l) in
      let behind = lies_back (d.code ∷ []) (d.tag ∷ c ∷ []) l in
      let second = uleb_read (length section) d.tag tag (omega (arith, inside)) (lies_front (d.tag ∷ []) (c ∷ []) behind) in
      let third = children_read (place + 1 + 1) d.children (lies_back (d.tag ∷ []) (c ∷ []) behind) in
      let sum : place + 1 + 1 + 1 ≡ place + 3 = omega arith in
      rw (first, ne_eqb d.code 0 (λ z. absurd (omega arith)), second, third.0, third.1, third.2, sum) refl

  declaration_read : (place : ℕ) (d : Declaration) → 0 < d.code → d.code < 128 → d.tag < 128 → ArePlainPairs d.pairs → LiesAt section place (declaration_bytes d)
      → declaration_at section place ≡ Ok (Some (declared_at place d, place + declaration_size d))
  unfolding declaration_at
  declaration_read place d some code tag plain l =
      let front = d.code ∷ d.tag ∷ children_byte d.children ∷ [] in
      let head = head_read place d some code tag (lies_front front (pairs_bytes d.pairs) l) in
      let pairs = pairs_read (place + 3) d.pairs plain (lies_back front (pairs_bytes d.pairs) l) in
      let sum : place + 3 + pairs_size d.pairs ≡ place + (3 + pairs_size d.pairs) = omega arith in
      rw (head, pairs, sum) refl

  table_end_read : (place : ℕ) → LiesAt section place (0 ∷ []) → declaration_at section place ≡ Ok None
  unfolding declaration_at head_at
  table_end_read place l =
      let inside = lies_inside (omega arith) l in
      rw (uleb_read (length section) 0 (omega arith) (omega (arith, inside)) l) refl

  first_walked : (most place code : ℕ) (ds : List Declaration) → length ds < most → ArePlain ds → LiesAt section place (table_bytes ds)
      → first_from most section place code ≡ found_in ds place code
  first_walked zero place code ds fuel plain l = absurd (omega arith)
  first_walked (suc most) place code [] fuel plain l = rw (table_end_read place l) refl
  first_walked (suc most) place code (d ∷ ds) fuel plain l =
      let first = declaration_read place d plain.0 plain.1 plain.2 plain.3 (lies_front (declaration_bytes d) (table_bytes ds) l) in
      let behind = lies_at (ap (λ n. place + n) (length-declaration d)) (lies_back (declaration_bytes d) (table_bytes ds) l) in
      rw (first, first_walked most (place + declaration_size d) code ds (omega arith) plain.4 behind) refl

  length-table_bytes : (ds : List Declaration) → length ds < length (table_bytes ds)
  length-table_bytes [] = omega arith
  length-table_bytes (d ∷ ds) = omega (arith, length-append (declaration_bytes d) (table_bytes ds), length-table_bytes ds, length-declaration d)

  -- the first declaration of a code, in a table that lies in the section
  pub first_read : (place code : ℕ) (ds : List Declaration) → ArePlain ds → LiesAt section place (table_bytes ds) → first_declaration section place code ≡ found_in ds place code
  unfolding first_declaration
  first_read place code ds plain l =
      first_walked (length section + 1) place code ds (omega (arith, length-table_bytes ds, lies_inside (omega (arith, length-table_bytes ds)) l)) plain l
