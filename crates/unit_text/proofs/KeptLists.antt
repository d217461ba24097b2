-- The lists of entries are those of their attributes that may have one.
use Rattle.std.specs.Prelude.{◌≡◌, refl, ℕ, ◌==◌, ◌&&◌, ◌||◌, Bool, true, false, if◌then◌else◌, List, [], ◌∷◌, map, Result, Ok, Err}
use Rattle.std.specs.List.{filter}
use Rattle.std.proofs.Common.{ap, sym, ◌∙◌}
use Rattle.dw_fields.specs.declared.fault_code.Fault.{Fault}
use Rattle.dw_fields.specs.Reading.{◌>>=◌}
use Rattle.dw_numbers.specs.declared.attribute.TheConstants.{RANGES}
use Rattle.entry_tree.specs.Views.{AttrView, EntryView}
use Rattle.entry_tree.specs.Kept.{kept_entry, kept_entries}
use Rattle.unit_headers.specs.declared.refusal.UnitRefusal.{UnitRefusal}
use Rattle.unit_headers.specs.declared.refusal.UnitRefusal.TheVariants.{Refused, OutOfMemory}
use Rattle.unit_headers.specs.Refusals.{Refuses}
use Rattle.unit_text.specs.Pieces.{Stopped, Text, joined, texts_of}
use Rattle.unit_text.specs.UnitView.{UnitView}
use Rattle.unit_text.specs.Lists.{is_range_list, is_location_list, is_list_attribute, is_location_attribute, ranges_text, locations_text, attr_lists, entry_lists, lists_text}

no_text : (text : Text) → joined (Ok []) text ≡ text
unfolding joined
no_text (Ok bytes) = refl
no_text (Err f) = refl

no_list : (ranges locations range_list location_list : Bool) (a b : Text) → (ranges || locations) ≡ false
    → (if ranges && range_list then a else (if locations && location_list then b else Ok [])) ≡ Ok []
no_list true locations range_list location_list a b e = absurd cc
no_list false true range_list location_list a b e = absurd cc
no_list false false range_list location_list a b e = refl

-- an attribute that is not kept has no list
pub no_attr_lists : (u : UnitView) (place : ℕ) (a : AttrView) → is_list_attribute a.name ≡ false → attr_lists u place a ≡ Ok []
unfolding attr_lists is_list_attribute
no_attr_lists u place a e =
    no_list (a.name == RANGES) (is_location_attribute a.name) (is_range_list a.raw) (is_location_list a.raw) (ranges_text u place a) (locations_text u place a) e

-- the texts of items are those of the items that have one
kept_first : {X : Type 0} (text : X → Text) (x : X) (keeps : Bool) (kept xs : List X) → (keeps ≡ false → text x ≡ Ok []) → texts_of text kept ≡ texts_of text xs
    → texts_of text (if keeps then x ∷ kept else kept) ≡ joined (text x) (texts_of text xs)
unfolding texts_of
kept_first text x true kept xs none same = ap (joined (text x)) same
kept_first text x false kept xs none same = same ∙ sym (no_text (texts_of text xs)) ∙ ap (λ t. joined t (texts_of text xs)) (sym (none refl))

texts_kept : {X : Type 0} (text : X → Text) (keeps : X → Bool) → ((x : X) → keeps x ≡ false → text x ≡ Ok []) → (xs : List X)
    → texts_of text (filter keeps xs) ≡ texts_of text xs
unfolding texts_of
texts_kept text keeps none [] = refl
texts_kept text keeps none (x ∷ xs) = kept_first text x (keeps x) (filter keeps xs) xs (none x) (texts_kept text keeps none xs)

kept_lists : (u : UnitView) (e : EntryView) → entry_lists u (kept_entry is_list_attribute e) ≡ entry_lists u e
unfolding entry_lists
kept_lists u e = texts_kept (attr_lists u e.place) (λ (a : AttrView). is_list_attribute a.name) (λ a isnt. no_attr_lists u e.place a isnt) e.attrs

pub lists_of_kept : (u : UnitView) (entries : List EntryView) → lists_text u (map (kept_entry is_list_attribute) entries) ≡ lists_text u entries
unfolding lists_text texts_of
lists_of_kept u [] = refl
lists_of_kept u (e ∷ entries) =
    ap (λ t. joined t (texts_of (entry_lists u) (map (kept_entry is_list_attribute) entries))) (kept_lists u e)
    ∙ ap (joined (entry_lists u e)) (lists_of_kept u entries)

-- the lists of entries of which these were kept
pub lists_of_read : (u : UnitView) (entries : Result (List EntryView) Fault) (kept : List EntryView) → kept_entries is_list_attribute entries ≡ Ok kept
    → (entries >>= lists_text u) ≡ lists_text u kept
lists_of_read u (Ok all) kept e =
    let same : map (kept_entry is_list_attribute) all ≡ kept = cc in
    sym (lists_of_kept u all) ∙ ap (lists_text u) same
lists_of_read u (Err f) kept e = absurd cc

-- the same refusal
pub kept_refused : (u : UnitView) (entries : Result (List EntryView) Fault) (refusal : UnitRefusal) → Refuses refusal (kept_entries is_list_attribute entries)
    → Stopped refusal (entries >>= lists_text u)
kept_refused u (Ok all) (Refused f) e = absurd cc
kept_refused u (Err g) (Refused f) e = let same : g ≡ f = cc in ap (λ h. Err h) same
kept_refused u entries OutOfMemory e = tt
