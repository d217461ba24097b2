-- Entries of a unit that get their names one after another, as they are read.
use Rattle.std.specs.Prelude.{◌≡◌, refl, ◌==◌, ◌++◌, List, [], ◌∷◌, map, Option, Some, None, option_map, unwrap_or, Result, Ok, Err, OnOk}
use Rattle.std.specs.List.{find}
use Rattle.std.specs.Option.{option_or}
use Rattle.std.proofs.Common.{sym, ap, ◌∙◌}
use Rattle.std.proofs.lemmas.List.Folds.{find-append}
use Rattle.dw_fields.specs.declared.fault_code.Fault.{Fault}
use Rattle.dw_fields.specs.Reading.{◌>>=◌}
use Rattle.dw_numbers.specs.declared.attribute.TheConstants.{NAME}
use Rattle.elf_sections.specs.Shapes.{sections_view}
use Rattle.entry_tree.specs.Taken.{with_attr}
use Rattle.entry_tree.specs.Views.{AttrView, EntryView, attr_view}
use Rattle.visit_queries.specs.declared.named_entries.NamedEntries.{NamedEntries}
use Rattle.visit_queries.specs.Shown.{ShownEntry, name_of, named_entries, named_entry, shown_entry}
use Rattle.visit_queries.specs.NamedEntries.{BeganNamed, TookNamed, named_head, named_in, shown_behind, shown_so_far, unless_refused}

-- an attribute more, which may be the first that names the entry
pub attr_more : (x y z : NamedEntries) (e : EntryView) (a : AttrView) → z.unit ≡ y.unit → shown_so_far z ≡ shown_so_far y → z.head ≡ y.head
    → option_map attr_view z.name ≡ option_or (option_map attr_view y.name) (find (λ (b : AttrView). b.name == NAME) (a ∷ []))
    → BeganNamed x y e → BeganNamed x z (with_attr e a)
attr_more x y z e a unit shown head name began = record {
  unit = unit ∙ began.unit;
  shown = shown ∙ began.shown;
  place = rw head began.place;
  depth = rw head began.depth;
  tag = rw head began.tag;
  name =
      name
      ∙ ap (λ (first : Option AttrView). option_or first (find (λ (b : AttrView). b.name == NAME) (a ∷ []))) began.name
      ∙ sym (find-append (λ (b : AttrView). b.name == NAME) e.attrs (a ∷ []));
}

shown_one : (refused : Option Fault) (shown : List ShownEntry) (e : ShownEntry)
    → unless_refused refused (shown ++ e ∷ []) ≡ shown_behind (unless_refused refused shown) (Ok (e ∷ []))
shown_one None shown e = refl
shown_one (Some f) shown e = refl

shown_refused : (refused : Option Fault) (shown : List ShownEntry) (f : Fault)
    → unless_refused (Some (unwrap_or refused f)) shown ≡ shown_behind (unless_refused refused shown) (Err f)
shown_refused None shown f = refl
shown_refused (Some g) shown f = refl

module _ (x y : NamedEntries) (e : EntryView) (began : BeganNamed x y e) where
  -- the entry that was begun, with its name
  head_named : named_head y.unit y.head (option_map attr_view y.name) ≡ named_entry (sections_view x.unit.sections) x.unit.number x.unit.header x.unit.bases e
  unfolding named_head named_entry name_of
  head_named = rw (began.unit, began.place, began.depth, began.tag, began.name) refl

  named_one : (r : Result ShownEntry Fault) → r ≡ named_head y.unit y.head (option_map attr_view y.name)
      → named_in x.unit (e ∷ []) ≡ r >>= (λ first. Ok (first ∷ []))
  unfolding named_entries
  named_one r is = ap (λ (first : Result ShownEntry Fault). first >>= (λ f. Ok (f ∷ []))) (sym (is ∙ head_named))

  -- it ended, and is shown
  pub ends_shown : (z : NamedEntries) (shown : ShownEntry) → z.unit ≡ y.unit → z.refused ≡ y.refused
      → map shown_entry z.views.items ≡ map shown_entry y.views.items ++ shown ∷ []
      → Ok shown ≡ named_head y.unit y.head (option_map attr_view y.name) → TookNamed x z (e ∷ [])
  ends_shown z shown unit refused added is = record {
    unit = unit ∙ began.unit;
    shown = rw (refused, added, ← began.shown, named_one (Ok shown) is) (shown_one y.refused (map shown_entry y.views.items) shown);
  }

  -- it ended, and its name is refused
  pub ends_refused : (z : NamedEntries) (f : Fault) → z.unit ≡ y.unit → z.refused ≡ Some (unwrap_or y.refused f)
      → Err f ≡ named_head y.unit y.head (option_map attr_view y.name) → TookNamed x z (e ∷ [])
  ends_refused z f unit refused is = record {
    unit = unit ∙ began.unit;
    shown = rw (refused, ← began.shown, named_one (Err f) is) (shown_refused y.refused (map shown_entry y.views.items) f);
  }

pub on_ok : {A E P Q : Type 0} (r : Result A E) → (P → Q) → OnOk r P → OnOk r Q
on_ok (Ok x) follows p = follows p
on_ok (Err e) follows p = tt
