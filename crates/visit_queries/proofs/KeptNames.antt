-- The names of entries are those of their attributes that may name them.
use Rattle.std.specs.Prelude.{◌≡◌, refl, ℕ, ◌==◌, Bool, true, false, if◌then◌else◌, List, [], ◌∷◌, map, Option, Result, Ok, Err}
use Rattle.std.specs.List.{filter, find}
use Rattle.std.proofs.Common.{ap, sym, ◌∙◌}
use Rattle.dw_fields.specs.declared.fault_code.Fault.{Fault}
use Rattle.dw_fields.specs.Reading.{◌>>=◌}
use Rattle.dw_numbers.specs.declared.attribute.TheConstants.{NAME}
use Rattle.elf_sections.specs.Shapes.{SectionsView}
use Rattle.unit_headers.specs.declared.header.UnitHeader.{UnitHeader}
use Rattle.unit_headers.specs.declared.refusal.UnitRefusal.{UnitRefusal}
use Rattle.unit_headers.specs.declared.refusal.UnitRefusal.TheVariants.{Refused, OutOfMemory}
use Rattle.unit_headers.specs.Refusals.{Refuses}
use Rattle.form_values.specs.declared.raw.Bases.{Bases}
use Rattle.entry_tree.specs.Views.{AttrView, EntryView}
use Rattle.entry_tree.specs.Kept.{kept_attrs, kept_entry, kept_entries}
use Rattle.visit_queries.specs.Shown.{ShownEntry, is_name, name_in, name_of, named_entries, named_entry}

-- the first item that passes a test is the first of those that pass
first_kept : {X : Type 0} (test : X → Bool) (x : X) (passes : Bool) (kept xs : List X) → test x ≡ passes → find test kept ≡ find test xs
    → find test (if passes then x ∷ kept else kept) ≡ find test (x ∷ xs)
first_kept test x true kept xs e same = rw e refl
first_kept test x false kept xs e same = rw e same

find_kept : {X : Type 0} (test : X → Bool) (xs : List X) → find test (filter test xs) ≡ find test xs
find_kept test [] = refl
find_kept test (x ∷ xs) = first_kept test x (test x) (filter test xs) xs refl (find_kept test xs)

name_kept : (s : SectionsView) (header : UnitHeader) (bases : Bases) (attrs : List AttrView)
    → name_of s header bases (kept_attrs is_name attrs) ≡ name_of s header bases attrs
unfolding name_of is_name
name_kept s header bases attrs = ap (name_in s header bases) (find_kept (λ (a : AttrView). a.name == NAME) attrs)

entry_kept : (s : SectionsView) (unit : ℕ) (header : UnitHeader) (bases : Bases) (e : EntryView)
    → named_entry s unit header bases (kept_entry is_name e) ≡ named_entry s unit header bases e
unfolding named_entry
entry_kept s unit header bases e =
    ap (λ (name : Result (Option (List ℕ)) Fault). name >>= (λ n. Ok (record { unit = unit; place = e.place; depth = e.depth; tag = e.tag; name = n })))
    (name_kept s header bases e.attrs)

named_of_kept : (s : SectionsView) (unit : ℕ) (header : UnitHeader) (bases : Bases) (entries : List EntryView)
    → named_entries s unit header bases (map (kept_entry is_name) entries) ≡ named_entries s unit header bases entries
unfolding named_entries
named_of_kept s unit header bases [] = refl
named_of_kept s unit header bases (e ∷ entries) =
    ap (λ (first : Result ShownEntry Fault). first >>= (λ f. named_entries s unit header bases (map (kept_entry is_name) entries) >>= (λ others. Ok (f ∷ others)))) (entry_kept s unit header bases e)
    ∙ ap (λ (others : Result (List ShownEntry) Fault). named_entry s unit header bases e >>= (λ f. others >>= (λ o. Ok (f ∷ o)))) (named_of_kept s unit header bases entries)

-- entries of which these were kept
pub named_of_read : (s : SectionsView) (unit : ℕ) (header : UnitHeader) (bases : Bases) (entries : Result (List EntryView) Fault) (kept : List EntryView)
    → kept_entries is_name entries ≡ Ok kept → (entries >>= named_entries s unit header bases) ≡ named_entries s unit header bases kept
named_of_read s unit header bases (Ok all) kept e =
    let same : map (kept_entry is_name) all ≡ kept = cc in
    sym (named_of_kept s unit header bases all) ∙ ap (named_entries s unit header bases) same
named_of_read s unit header bases (Err f) kept e = absurd cc

-- the same refusal
pub named_refused : (s : SectionsView) (unit : ℕ) (header : UnitHeader) (bases : Bases) (entries : Result (List EntryView) Fault) (refusal : UnitRefusal)
    → Refuses refusal (kept_entries is_name entries) → Refuses refusal (entries >>= named_entries s unit header bases)
named_refused s unit header bases (Ok all) (Refused f) e = absurd cc
named_refused s unit header bases (Err g) (Refused f) e = let same : g ≡ f = cc in ap (λ h. Err h) same
named_refused s unit header bases (Ok all) OutOfMemory e = tt
named_refused s unit header bases (Err g) OutOfMemory e = tt
