-- What is remembered stays true, and what is found may be remembered.
use Rattle.std.proofs.Common.{◌≡◌, ◌<◌, ◌^◌, ℕ, Bool, List, All, Result, Ok, Err, Option, Some, None, IfSome, inl, inr, sym, ap, subst}
use Rattle.std.proofs.lemmas.List.Elements.{All-set, All-weaker}
use Rattle.abbrev_decl.specs.declared.lookup.FindFault.{FindFault}
use Rattle.abbrev_decl.specs.declared.lookup.FindFault.TheVariants as faults
use Rattle.abbrev_decl.specs.Shapes.{DeclView}
use Rattle.abbrev_decl.specs.Lookup.{LeavesSource, Notes, WalkEnds, first_declaration, key}
use Rattle.abbrev_decl.proofs.WalkLaws.{walk_law}
use Rattle.entry_tree.specs.Entries.{found_at}
use Rattle.entry_tree.specs.Remembered.{AreBlank, IsInSlot, IsRemembered, Remembers, SetsAtMost}
use Rattle.entry_tree.proofs.KeyLaws.{Notes-later}

-- the first declaration of a code has the code
code_of : (section : List ℕ) (table code : ℕ) (declaration : DeclView) → first_declaration section table code ≡ Ok declaration → declaration.code ≡ code
code_of section table code declaration found =
    let law = walk_law section table code in
    let end : WalkEnds section law.last code (Ok declaration) = subst (WalkEnds section law.last code) found law.end in
    end.0

one_later : (section later : List ℕ) (table : ℕ) (seen more : List ℕ) (spent now : Bool) (slot : Option DeclView) → LeavesSource section later seen more spent now
    → IfSome slot (IsRemembered section table seen spent) → IfSome slot (IsRemembered later table more now)
one_later section later table seen more spent now None left h = tt
one_later section later table seen more spent now (Some declaration) left h = record {
  first = subst (λ s. first_declaration s table declaration.code ≡ Ok declaration) (sym left.kept) h.first;
  noted = λ small. Notes-later seen more spent now (key table declaration.code) left.seen left.spent (h.noted small);
}

-- what is remembered is so behind a later question
pub remembers_later : (section later : List ℕ) (table : ℕ) (seen more : List ℕ) (spent now : Bool) (slots : List (Option DeclView)) → LeavesSource section later seen more spent now
    → Remembers section table seen spent slots → Remembers later table more now slots
remembers_later section later table seen more spent now slots left h =
    All-weaker (λ slot. IfSome slot (IsRemembered section table seen spent)) (λ slot. IfSome slot (IsRemembered later table more now))
    (λ slot. one_later section later table seen more spent now slot left) slots h

found_first : (place : ℕ) (answer : Result DeclView FindFault) (declaration : DeclView) → Ok declaration ≡ found_at place answer → answer ≡ Ok declaration
found_first place (Ok other) declaration e = let same : declaration ≡ other = cc in ap Ok (sym same)
found_first place (Err faults.CodeMissing) declaration e = absurd cc
found_first place (Err (faults.Broken f)) declaration e = absurd cc

set_all : (P : Option DeclView → Type 0) (old new : List (Option DeclView)) (declaration : DeclView) → SetsAtMost old new declaration → P (Some declaration) → All P old → All P new
set_all P old new declaration (inl same) p h = subst (All P) (sym same) h
set_all P old new declaration (inr put) p h = subst (All P) (sym put.1) (All-set P old put.0 (Some declaration) p h)

-- a declaration that was found is remembered
pub remembers_more : (section later : List ℕ) (table code place : ℕ) (seen more : List ℕ) (spent now : Bool) (old new : List (Option DeclView)) (declaration : DeclView)
    → LeavesSource section later seen more spent now → Remembers section table seen spent old
    → Ok declaration ≡ found_at place (first_declaration section table code) → (code < 2 ^ 32 → Notes more now (key table code))
    → SetsAtMost old new declaration → Remembers later table more now new
remembers_more section later table code place seen more spent now old new declaration left h answer noted sets =
    let found = found_first place (first_declaration section table code) declaration answer in
    let same = code_of section table code declaration found in
    let first : first_declaration section table declaration.code ≡ Ok declaration = subst (λ k. first_declaration section table k ≡ Ok declaration) (sym same) found in
    set_all (λ slot. IfSome slot (IsRemembered later table more now)) old new declaration sets
    record {
      first = subst (λ s. first_declaration s table declaration.code ≡ Ok declaration) (sym left.kept) first;
      noted = subst (λ k. k < 2 ^ 32 → Notes more now (key table k)) (sym same) noted;
    }
    (remembers_later section later table seen more spent now old left h)

in_slot : (section : List ℕ) (table : ℕ) (seen : List ℕ) (spent : Bool) (slots : List (Option DeclView)) (code : ℕ) (declaration : DeclView)
    → Remembers section table seen spent slots → IsInSlot slots code declaration → IsRemembered section table seen spent declaration
in_slot section table seen spent slots code declaration h stands =
    subst (λ slot. IfSome slot (IsRemembered section table seen spent)) stands.at (h stands.slot None stands.inside)

-- what is remembered of a code is its first declaration
pub recalled_first : (section : List ℕ) (table place : ℕ) (seen : List ℕ) (spent : Bool) (slots : List (Option DeclView)) (code : ℕ) (declaration : DeclView)
    → Remembers section table seen spent slots → IsInSlot slots code declaration → Ok declaration ≡ found_at place (first_declaration section table code)
recalled_first section table place seen spent slots code declaration h stands =
    let known = in_slot section table seen spent slots code declaration h stands in
    let first : first_declaration section table code ≡ Ok declaration = subst (λ k. first_declaration section table k ≡ Ok declaration) stands.same known.first in
    sym (ap (found_at place) first)

-- and its key was noted
pub recalled_noted : (section : List ℕ) (table : ℕ) (seen : List ℕ) (spent : Bool) (slots : List (Option DeclView)) (code : ℕ) (declaration : DeclView)
    → Remembers section table seen spent slots → IsInSlot slots code declaration → code < 2 ^ 32 → Notes seen spent (key table code)
recalled_noted section table seen spent slots code declaration h stands small =
    let known = in_slot section table seen spent slots code declaration h stands in
    subst (λ k. k < 2 ^ 32 → Notes seen spent (key table k)) stands.same known.noted small

blank_one : (section : List ℕ) (table : ℕ) (seen : List ℕ) (spent : Bool) (slot : Option DeclView) → slot ≡ None → IfSome slot (IsRemembered section table seen spent)
blank_one section table seen spent None blank = tt
blank_one section table seen spent (Some declaration) blank = absurd cc

-- blank slots remember nothing
pub remembers_none : (section : List ℕ) (table : ℕ) (seen : List ℕ) (spent : Bool) (slots : List (Option DeclView)) → AreBlank slots → Remembers section table seen spent slots
remembers_none section table seen spent slots h =
    All-weaker (λ slot. slot ≡ None) (λ slot. IfSome slot (IsRemembered section table seen spent)) (blank_one section table seen spent) slots h
