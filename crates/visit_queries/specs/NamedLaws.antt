-- Entries that got their names were taken together, where they were taken one after the other.
use Rattle.std.specs.Prelude.{◌≡◌, refl, ◌++◌, List, [], ◌∷◌, Result, Ok, Err}
use Rattle.std.proofs.Common.{sym, ap, ◌∙◌, append_assoc, append-nil}
use Rattle.dw_fields.specs.declared.fault_code.Fault.{Fault}
use Rattle.dw_fields.specs.Reading.{◌>>=◌}
use Rattle.elf_sections.specs.Shapes.{sections_view}
use Rattle.entry_tree.specs.Views.{EntryView}
use Rattle.visit_queries.specs.declared.names.NamedUnit.{NamedUnit}
use Rattle.visit_queries.specs.declared.named_entries.NamedEntries.{NamedEntries}
use Rattle.visit_queries.specs.Shown.{ShownEntry, named_entries, named_entry}
use Rattle.visit_queries.specs.NamedEntries.{TookNamed, named_in, shown_behind, shown_so_far}

-- nothing stands behind
behind_none : (shown : Result (List ShownEntry) Fault) → shown_behind shown (Ok []) ≡ shown
behind_none (Ok shown) = ap (λ es. Ok es) (append-nil shown)
behind_none (Err f) = refl

behind_behind : (a b c : Result (List ShownEntry) Fault) → shown_behind (shown_behind a b) c ≡ shown_behind a (shown_behind b c)
behind_behind (Ok a) (Ok b) (Ok c) = ap (λ es. Ok es) (append_assoc a b c)
behind_behind (Ok a) (Ok b) (Err f) = refl
behind_behind (Ok a) (Err f) c = refl
behind_behind (Err f) b c = refl

-- an entry in front of others
one_more : (e : ShownEntry) (es fs : Result (List ShownEntry) Fault)
    → (shown_behind es fs >>= (λ others. Ok (e ∷ others))) ≡ shown_behind (es >>= (λ others. Ok (e ∷ others))) fs
one_more e (Ok es) (Ok fs) = refl
one_more e (Ok es) (Err f) = refl
one_more e (Err f) fs = refl

named_more : (u : NamedUnit) (first : Result ShownEntry Fault) (es fs : Result (List ShownEntry) Fault)
    → (first >>= (λ e. shown_behind es fs >>= (λ others. Ok (e ∷ others)))) ≡ shown_behind (first >>= (λ e. es >>= (λ others. Ok (e ∷ others)))) fs
named_more u (Ok e) es fs = one_more e es fs
named_more u (Err f) es fs = refl

-- the names of entries and of those behind them
named_joined : (u : NamedUnit) (es fs : List EntryView) → named_in u (es ++ fs) ≡ shown_behind (named_in u es) (named_in u fs)
unfolding named_entries
named_joined u [] fs = sym (front_none (named_in u fs))
  where
    front_none : (shown : Result (List ShownEntry) Fault) → shown_behind (Ok []) shown ≡ shown
    front_none (Ok shown) = refl
    front_none (Err f) = refl
named_joined u (e ∷ es) fs =
    ap (λ (others : Result (List ShownEntry) Fault). named_entry (sections_view u.sections) u.number u.header u.bases e >>= (λ first. others >>= (λ o. Ok (first ∷ o)))) (named_joined u es fs)
    ∙ named_more u (named_entry (sections_view u.sections) u.number u.header u.bases e) (named_in u es) (named_in u fs)

pub nothing_taken : (x : NamedEntries) → TookNamed x x []
unfolding named_entries
nothing_taken x = record { unit = refl; shown = sym (behind_none (shown_so_far x)) }

pub taken_together : (x y z : NamedEntries) (es fs : List EntryView) → TookNamed x y es → TookNamed y z fs → TookNamed x z (es ++ fs)
taken_together x y z es fs p q = record {
  unit = q.unit ∙ p.unit;
  shown =
      q.shown
      ∙ ap (λ (u : NamedUnit). shown_behind (shown_so_far y) (named_in u fs)) p.unit
      ∙ ap (λ (shown : Result (List ShownEntry) Fault). shown_behind shown (named_in x.unit fs)) p.shown
      ∙ behind_behind (shown_so_far x) (named_in x.unit es) (named_in x.unit fs)
      ∙ ap (shown_behind (shown_so_far x)) (sym (named_joined x.unit es fs));
}
