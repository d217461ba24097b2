-- How a walk over a table of declarations goes on.
use Rattle.std.proofs.Common.{◌≡◌, ◌+◌, ◌<◌, ◌≤◌, ◌^◌, ◌∙◌, ◌⊎◌, ℕ, List, [], ◌∷◌, ◌++◌, get_or, length, Some, Ok, inl, inr, refl, sym, subst, arith}
use Rattle.std.proofs.Math.Seq.{get_or-append_seam}
use Rattle.std.proofs.lemmas.List.{get_or_append_left, length-append}
use Rattle.abbrev_decl.specs.Declarations.{declaration_at}
use Rattle.abbrev_decl.specs.Shapes.{DeclView}
use Rattle.abbrev_decl.proofs.WalkLaws.{walk_found, walk_next}
use Rattle.walked_tables.specs.WalkedTables.{IsFirstAt, IsWalked}

-- nothing was walked
pub walked_none : (section : List ℕ) (table : ℕ) → length section < 2 ^ 32 → table ≤ length section → IsWalked section table [] table
walked_none section table short inside = record {
  short = short;
  inside = inside;
  within = λ i past. absurd (omega (arith, past));
  stand = λ i past. absurd (omega (arith, past));
  others = λ code past. refl;
}

length_more : (places : List ℕ) (place : ℕ) → length (places ++ place ∷ []) ≡ length places + 1
length_more places place = length-append places (place ∷ [])

-- what holds of all places and of one more, holds of them together
each_more : (P : ℕ → ℕ → Type 0) (places : List ℕ) (place : ℕ) → ((i : ℕ) → i < length places → P i (get_or places i 0)) → P (length places) place
    → (i : ℕ) → i < length (places ++ place ∷ []) → P i (get_or (places ++ place ∷ []) i 0)
each_more P places place each last i within =
    let more = length_more places place in
    let case : (i < length places) ⊎ (i ≡ length places) = grind (arith, more, within) in
    elim case [
      | inl here ↦ subst (P i) (sym (get_or_append_left places (place ∷ []) 0 i here)) (each i here)
      | inr seam ↦ subst (λ (n : ℕ). P n (get_or (places ++ place ∷ []) n 0)) (sym seam) (subst (P (length places)) (sym (get_or-append_seam places place [] 0)) last)
    ]

-- one more declaration, whose code is the next number
pub walked_more : (section : List ℕ) (table : ℕ) (places : List ℕ) (place next : ℕ) (declaration : DeclView)
    → IsWalked section table places place → declaration_at section place ≡ Ok (Some (declaration, next)) → declaration.code ≡ length places + 1 → next ≤ length section
    → IsWalked section table (places ++ place ∷ []) next
walked_more section table places place next declaration walked stands numbered inside = record {
  short = walked.short;
  inside = inside;
  within = each_more (λ i p. p ≤ length section) places place walked.within walked.inside;
  stand = each_more (λ i p. IsFirstAt section table (i + 1) p) places place walked.stand (record {
    declaration = declaration;
    next = next;
    stands = stands;
    first = walked.others (length places + 1) (omega arith) ∙ walk_found section place next (length places + 1) declaration stands numbered;
  });
  others = λ code past.
      let more = length_more places place in
      walked.others code (omega (arith, more, past))
      ∙ walk_next section place next code declaration stands (λ (same : declaration.code ≡ code). omega (arith, more, past, numbered, same));
}
