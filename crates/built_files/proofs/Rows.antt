-- The rows of the sections of a built file.
use Rattle.std.specs.Prelude.{◌≡◌, ℕ, ◌+◌, ◌≤◌, nat_eq, ◌==◌, not, Bool, true, false, List, [], ◌∷◌, ◌++◌, length, map, codes, Some, None, refl}
use Rattle.std.specs.List.{starts_with}
use Rattle.std.proofs.Common.{arith, ap, ap₂, sym, length-append}
use Rattle.std.proofs.lemmas.Bool.{le-ltb, and_parts, and_right, or_from}
use Rattle.elf_sections.specs.declared.headers.SectionHeader.{SectionHeader}
use Rattle.elf_sections.specs.Refusals.{first_in}
use Rattle.elf_sections.specs.Rows.{SectionRow}
use Rattle.elf_sections.specs.Names.{is_out_of_bounds, contents_of, name_of, has_no_name, row_of, is_compressed}
use Rattle.elf_builder.specs.Given.{Given}
use Rattle.elf_builder.specs.File.{given_contents, ended_names}
use Rattle.built_files.specs.Places.{LiesAt, lies_at, lies_front, lies_back, lies_taken}
use Rattle.built_files.specs.Texts.{HasNoZero, text_found}
use Rattle.built_files.specs.Tables.{HavePlainNames, is_plain_name, row_of_given}
use Rattle.built_files.proofs.Headers.{shown, seen}

not_true : (b : Bool) → not b ≡ true → b ≡ false
not_true true e = sym e
not_true false e = refl

-- what a plain name is
pub plain_no_zero : (name : List ℕ) → is_plain_name name ≡ true → HasNoZero name
plain_no_zero name plain = not_true _ (and_parts _ _ plain).0

plain_start : (name : List ℕ) → is_plain_name name ≡ true → starts_with nat_eq name (codes ".zdebug_") ≡ false
plain_start name plain = not_true _ (and_parts _ _ plain).1

pub within_bounds : (file : List ℕ) (name kind place size : ℕ) → place + size ≤ length file → is_out_of_bounds file (shown name kind place size) ≡ false
unfolding is_out_of_bounds
within_bounds file name kind place size fits = and_right _ _ (le-ltb (length file) (place + size) fits)

pub bounds_read : (file : List ℕ) (from name place : ℕ) (sections : List Given) (last : SectionHeader)
    → place + length (given_contents sections) ≤ length file → is_out_of_bounds file last ≡ false
    → first_in (is_out_of_bounds file) from (seen name place sections last) ≡ None
unfolding given_contents
bounds_read file from name place [] last fits is = rw is refl
bounds_read file from name place (s ∷ sections) last fits is =
    let contents = length-append s.bytes (given_contents sections) in
    rw (within_bounds file name 1 place (length s.bytes) (omega (arith, contents)))
    (bounds_read file (from + 1) (name + length s.name + 1) (place + length s.bytes) sections last (omega (arith, contents)) is)

pub named : {names : List ℕ} {name : ℕ} → (text : List ℕ) (kind place size : ℕ) → HasNoZero text → LiesAt names name (text ++ 0 ∷ []) → name_of (Some names) (shown name kind place size) ≡ Some text
unfolding name_of
named text kind place size none l = text_found text none l

pub names_read : (names : List ℕ) (from name place : ℕ) (sections : List Given) (last : SectionHeader)
    → HavePlainNames sections → LiesAt names name (ended_names sections) → has_no_name (Some names) last ≡ false
    → first_in (has_no_name (Some names)) from (seen name place sections last) ≡ None
unfolding ended_names
names_read names from name place [] last plain l is = rw is refl
names_read names from name place (s ∷ sections) last plain l is =
    let on : name + length (s.name ++ 0 ∷ []) ≡ name + length s.name + 1 = omega (arith, length-append s.name (0 ∷ [])) in
    rw (named {names = names} {name = name} s.name 1 place (length s.bytes) (plain_no_zero s.name plain.0) (lies_front _ _ l))
    (names_read names (from + 1) (name + length s.name + 1) (place + length s.bytes) sections last plain.1 (lies_at on (lies_back _ _ l)) is)

pub taken : (file : List ℕ) (name place : ℕ) (kind : ℕ) (part : List ℕ) → (kind == 0) ≡ false → (kind == 8) ≡ false → LiesAt file place part → contents_of file (shown name kind place (length part)) ≡ part
unfolding contents_of
taken file name place kind part some bits l = rw (some, bits, lies_taken l) refl

pub row_read : (file names : List ℕ) (name kind place : ℕ) (text part : List ℕ) → (kind == 0) ≡ false → (kind == 8) ≡ false
    → name_of (Some names) (shown name kind place (length part)) ≡ Some text → LiesAt file place part
    → row_of file (Some names) (shown name kind place (length part)) ≡ record { name = text; kind = kind; flags = 0; size = length part; bytes = part }
row_read file names name kind place text part some bits is l = rw (is, taken file name place kind part some bits l) refl

pub rows_read : (file names : List ℕ) (name place : ℕ) (sections : List Given) (last : SectionHeader) (own : SectionRow)
    → HavePlainNames sections → LiesAt names name (ended_names sections) → LiesAt file place (given_contents sections)
    → row_of file (Some names) last ≡ own
    → map (row_of file (Some names)) (seen name place sections last) ≡ map row_of_given sections ++ own ∷ []
unfolding ended_names given_contents
rows_read file names name place [] last own plain l c is = ap (λ r. r ∷ []) is
rows_read file names name place (s ∷ sections) last own plain l c is =
    let on : name + length (s.name ++ 0 ∷ []) ≡ name + length s.name + 1 = omega (arith, length-append s.name (0 ∷ [])) in
    let text = named {names = names} {name = name} s.name 1 place (length s.bytes) (plain_no_zero s.name plain.0) (lies_front _ _ l) in
    ap₂ (λ r rs. r ∷ rs)
    (row_read file names name 1 place s.name s.bytes refl refl text (lies_front _ _ c))
    (rows_read file names (name + length s.name + 1) (place + length s.bytes) sections last own plain.1 (lies_at on (lies_back _ _ l)) (lies_back _ _ c) is)

given_plain : (s : Given) → is_plain_name s.name ≡ true → is_compressed (row_of_given s) ≡ false
unfolding is_compressed
given_plain s plain = or_from _ _ (plain_start s.name plain) (and_right _ _ refl)

pub plain_read : (from : ℕ) (sections : List Given) (own : SectionRow) → HavePlainNames sections → is_compressed own ≡ false
    → first_in is_compressed from (map row_of_given sections ++ own ∷ []) ≡ None
plain_read from [] own plain is = rw is refl
plain_read from (s ∷ sections) own plain is = rw (given_plain s plain.0) (plain_read (from + 1) sections own plain.1 is)
