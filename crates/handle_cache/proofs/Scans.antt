-- What scanning a file gives as the values of keys.
use Rattle.std.proofs.Common.{◌≡◌, ℕ, ◌+◌, ◌-◌, ◌*◌, ◌/◌, ◌%◌, ◌^◌, ◌<◌, ◌≤◌, true, false, List, length, Some, Result, Ok, Err, IfOk, refl, sym, ap, subst, ◌∙◌, arith}
use Rattle.std.specs.Prelude.{nat_lt}
use Rattle.std.proofs.lemmas.Bool.{lt-ltb, le-ltb}
use Rattle.std.proofs.lemmas.Nat.{div-mul-add, mod-mul-add}
use Rattle.abbrev_decl.specs.declared.lookup.FindFault.{FindFault}
use Rattle.abbrev_decl.specs.Shapes.{DeclView}
use Rattle.abbrev_decl.specs.Declarations.{Stands, StandsAs, StandsInside, declaration_at}
use Rattle.abbrev_decl.specs.Lookup.{first_declaration, key}
use Rattle.elf_sections.specs.Names.{elf_of}
use Rattle.elf_sections.specs.Rows.{ElfView}
use Rattle.elf_sections.specs.Shapes.{SectionsView, sections_of}
use Rattle.entry_tree.specs.Units.{unit_facts}
use Rattle.map_core.specs.Machine.{IsWord}
use Rattle.handle_cache.specs.Handles.{HandleView, IsOpened, sections_in}
use Rattle.handle_cache.specs.Scanned.{FitsFile, place_value, scanned, scanned_in, word_key, word_value}

pub scanned_of : (file : List ℕ) (elf : ElfView) (k : ℕ) → elf_of file ≡ Ok elf → scanned file k ≡ scanned_in (sections_of elf) k
unfolding scanned
scanned_of file elf k e = rw e refl

pub declaration_scanned : (s : SectionsView) (table code : ℕ) → table < 2 ^ 31 → code < 2 ^ 32 → scanned_in s (key table code) ≡ place_value (first_declaration s.«abbrev» table code)
unfolding scanned_in
declaration_scanned s table code t c =
    let below : nat_lt (key table code) (2 ^ 63) ≡ true = lt-ltb (key table code) (2 ^ 63) (omega arith) in
    let quotient : key table code / 2 ^ 32 ≡ table = div-mul-add table (2 ^ 32) code c in
    let rest : key table code % 2 ^ 32 ≡ code = mod-mul-add table (2 ^ 32) code c in
    rw (below, quotient, rest) refl

pub word_scanned : (s : SectionsView) (unit word : ℕ) → word < 8 → scanned_in s (word_key unit word) ≡ word_value (unit_facts s unit) word
unfolding scanned_in
word_scanned s unit word inside =
    let above : nat_lt (word_key unit word) (2 ^ 63) ≡ false = le-ltb (word_key unit word) (2 ^ 63) (omega arith) in
    let back : word_key unit word - 2 ^ 63 ≡ unit * 8 + word = omega arith in
    let quotient : (unit * 8 + word) / 8 ≡ unit = div-mul-add unit 8 word inside in
    let rest : (unit * 8 + word) % 8 ≡ word = mod-mul-add unit 8 word inside in
    rw (above, back, quotient, rest) refl

-- the declaration that a value tells
pub record IsToldBy (section : List ℕ) (answer : Result DeclView FindFault) (value : ℕ) : Type 0 where
  pub declaration : DeclView
  pub is : answer ≡ Ok declaration
  pub place : declaration.place ≡ value - 1
  pub stands : StandsInside section declaration

told_by : (section : List ℕ) (answer : Result DeclView FindFault) (value : ℕ) → place_value answer ≡ Some value → IfOk answer (StandsInside section) → IsToldBy section answer value
told_by section (Err e) value is stands = absurd (cc)
told_by section (Ok declaration) value is stands =
    let same : declaration.place + 1 ≡ value = cc in
    record { declaration = declaration; is = refl; place = omega arith; stands = stands }

module _ (h : HandleView) (opened : IsOpened h) (table code : ℕ) (inside : table ≤ length (sections_in h).«abbrev») (small : code < 2 ^ 32) where
  table_small : table < 2 ^ 31
  table_small = let n : ℕ = length (sections_in h).«abbrev» in let below : n < 2 ^ 31 = opened.declarations in omega arith

  pub key_scanned : scanned h.file (key table code) ≡ place_value (first_declaration (sections_in h).«abbrev» table code)
  key_scanned = scanned_of h.file h.elf (key table code) opened.elf ∙ declaration_scanned (sections_in h) table code table_small small

  pub found_told : (value : ℕ) → FitsFile h.file (key table code) value → IfOk (first_declaration (sections_in h).«abbrev» table code) (StandsInside (sections_in h).«abbrev»)
      → IsToldBy (sections_in h).«abbrev» (first_declaration (sections_in h).«abbrev» table code) value
  found_told value fits stands = told_by (sections_in h).«abbrev» (first_declaration (sections_in h).«abbrev» table code) value (sym key_scanned ∙ fits) stands

  -- the value of a declaration that a walk found
  pub first_scanned : (declaration : DeclView) → first_declaration (sections_in h).«abbrev» table code ≡ Ok declaration → FitsFile h.file (key table code) (declaration.place + 1)
  first_scanned declaration first = key_scanned ∙ ap place_value first

pub first_stands : (section : List ℕ) (answer : Result DeclView FindFault) (declaration : DeclView) → answer ≡ Ok declaration → IfOk answer (StandsInside section) → StandsInside section declaration
first_stands section answer declaration is stands = subst (λ (r : Result DeclView FindFault). IfOk r (StandsInside section)) is stands

-- what a reader of the declaration at that place asks, and what it answers
module _ (section s : List ℕ) (same : s ≡ section) (answer : Result DeclView FindFault) (value place : ℕ) (at : place ≡ value - 1) (told : IsToldBy section answer value) where
  at_place : place ≡ told.declaration.place
  at_place = at ∙ sym told.place

  pub told_inside : place ≤ length s
  told_inside =
      let n : ℕ = length s in
      let p : ℕ = told.declaration.place in
      let size : n ≡ length section = ap (λ (x : List ℕ). length x) same in
      let below : p < n = subst (λ (m : ℕ). p < m) (sym size) told.stands.inside in
      let there : place ≡ p = at_place in
      omega arith

  declared : declaration_at s place ≡ Ok (Some (told.declaration, told.stands.next))
  declared = (λ i. declaration_at (same i) (at_place i)) ∙ told.stands.stands

  pub told_stands : Stands (declaration_at s place)
  told_stands = subst Stands (sym declared) tt

  pub told_is : (found : DeclView) → StandsAs found (declaration_at s place) → answer ≡ Ok found
  told_is found there =
      let same_one : found ≡ told.declaration = subst (StandsAs found) declared there in
      told.is ∙ ap Ok (sym same_one)

pub place_word : (section : List ℕ) (declaration : DeclView) → length section < 2 ^ 31 → StandsInside section declaration → IsWord (declaration.place + 1)
place_word section declaration short stands =
    let n : ℕ = length section in
    let p : ℕ = declaration.place in
    let small : n < 2 ^ 31 = short in
    let below : p < n = stands.inside in
    (omega arith, omega arith)
