-- One piece after another tiles the area.
use Rattle.std.proofs.Common.{◌≡◌, ℕ, zero, suc, ◌+◌, ◌-◌, ◌<◌, ◌≤◌, ◌==◌, nat_le, Bool, true, false, cond, ◌++◌, List, [], ◌∷◌, Result, Ok, Err, refl, ap, arith, leb-true, leb-false}
use Rattle.dw_fields.specs.declared.fault_code.Fault.{Fault}
use Rattle.dw_fields.specs.Span.{Span, at}
use Rattle.dw_fields.specs.Reading.{◌>>=◌, uleb_at}
use Rattle.dw_fields.specs.ReaderLaws.{IsPast, uleb_at-past}
use Rattle.dw_fields.specs.Walk.{walk}
use Rattle.abbrev_decl.specs.declared.pairs.AttrSpec.{AttrSpec}
use Rattle.abbrev_decl.specs.Shapes.{DeclView}
use Rattle.abbrev_decl.specs.Lookup.{first_declaration}
use Rattle.form_values.specs.declared.raw.Widths.{Widths}
use Rattle.form_values.specs.FormTable.{value_at}
use Rattle.form_values.proofs.Forward.{Onwards, Onwards-then, Onwards-either, Onwards-later, value_onwards}
use Rattle.entry_tree.specs.Views.{EntryView}
use Rattle.entry_tree.specs.Entries.{attr_at, attrs_at, found_at, coded_at, behind_entry, entry_at, entries_in}
use Rattle.entry_tree.specs.Tiles.{AreEntriesFrom, TileArea}

attr_onwards : (widths : Widths) (pair : AttrSpec) (s : Span) → Onwards s.place (attr_at widths pair s)
unfolding attr_at
attr_onwards widths pair s =
    Onwards-then s.place (value_at pair.form widths pair.implicit s) _ (value_onwards pair.form widths pair.implicit s) (λ value h. h)

attrs_onwards : (widths : Widths) (pairs : List AttrSpec) (s : Span) → Onwards s.place (attrs_at widths pairs s)
unfolding attrs_at
attrs_onwards widths [] s = omega arith
attrs_onwards widths (pair ∷ pairs) s =
    Onwards-then s.place (attr_at widths pair s) _ (attr_onwards widths pair s)
    (λ first h. Onwards-then s.place (attrs_at widths pairs (at s first.1)) _
    (Onwards-later s.place first.1 (attrs_at widths pairs (at s first.1)) h (attrs_onwards widths pairs (at s first.1))) (λ others k. k))

found_onwards : (found : Result DeclView Fault) (place : ℕ) (next : DeclView → Result ((Bool × EntryView) × ℕ) Fault)
    → ((declaration : DeclView) → Onwards place (next declaration)) → Onwards place (found >>= next)
found_onwards (Ok declaration) place next k = k declaration
found_onwards (Err f) place next k = tt

coded_onwards : (section : List ℕ) (table : ℕ) (widths : Widths) (depth place code : ℕ) (s : Span) → Onwards s.place (coded_at section table widths depth place code s)
unfolding coded_at
coded_onwards section table widths depth place code s =
    found_onwards (found_at place (first_declaration section table code)) s.place _
    (λ declaration. Onwards-then s.place (attrs_at widths declaration.pairs s) _ (attrs_onwards widths declaration.pairs s) (λ attrs h. h))

behind_onwards : (depth place : ℕ) (answer : Result ((Bool × EntryView) × ℕ) Fault) → Onwards place answer → Onwards place (behind_entry depth answer)
behind_onwards depth place (Ok read) h = h
behind_onwards depth place (Err f) h = tt

past_one : (s : Span) (answer : Result (ℕ × ℕ) Fault) → IsPast 1 s answer → Onwards (s.place + 1) answer
past_one s (Ok read) past = past.0
past_one s (Err f) past = tt

-- an entry, or a code 0, takes at least one byte
pub entry_ahead : (section : List ℕ) (table : ℕ) (widths : Widths) (depth : ℕ) (s : Span) → Onwards (s.place + 1) (entry_at section table widths depth s)
unfolding entry_at
entry_ahead section table widths depth s =
    Onwards-then (s.place + 1) (uleb_at s) _ (past_one s (uleb_at s) (uleb_at-past s))
    (λ code h. Onwards-either (code.0 == 0) (s.place + 1) _ _ h
    (Onwards-then (s.place + 1) (behind_entry depth (coded_at section table widths depth s.place code.0 (at s code.1))) _
    (Onwards-later (s.place + 1) code.1 _ h
    (behind_onwards depth code.1 _ (coded_onwards section table widths depth s.place code.0 (at s code.1))))
    (λ entry k. k)))

tile_end : (section : List ℕ) (table : ℕ) (widths : Widths) (s : Span) (depth place : ℕ) → s.end ≤ place
    → AreEntriesFrom section table widths s depth place (Ok [])
tile_end section table widths s depth place past = record {
  pieces = [];
  last_depth = depth;
  last = place;
  entries = [];
  stand = (refl, refl, refl);
  end = (past, refl);
}

tile_more : (section : List ℕ) (table : ℕ) (widths : Widths) (s : Span) (depth place after next : ℕ) (more : List EntryView) (others : Result (List EntryView) Fault)
    → entry_at section table widths depth (at s place) ≡ Ok ((after, more), next) → place < next → AreEntriesFrom section table widths s after next others
    → AreEntriesFrom section table widths s depth place (others >>= (λ rest. Ok (more ++ rest)))
tile_more section table widths s depth place after next more (Ok all) e on law = record {
  pieces = record { next = next; depth = after; entries = more } ∷ law.pieces;
  last_depth = law.last_depth;
  last = law.last;
  entries = more ++ law.entries;
  stand = (on, e, law.entries, refl, law.stand);
  end = (law.end.0, ap (λ rest. more ++ rest) law.end.1);
}
tile_more section table widths s depth place after next more (Err f) e on law = record {
  pieces = record { next = next; depth = after; entries = more } ∷ law.pieces;
  last_depth = law.last_depth;
  last = law.last;
  entries = more ++ law.entries;
  stand = (on, e, law.entries, refl, law.stand);
  end = law.end;
}

tile_on : (found : Result ((ℕ × List EntryView) × ℕ) Fault) (section : List ℕ) (table : ℕ) (widths : Widths) (s : Span) (depth place : ℕ)
    (rest : ℕ → ℕ → Result (List EntryView) Fault) → entry_at section table widths depth (at s place) ≡ found → Onwards (place + 1) found → place < s.end
    → ((after next : ℕ) → place < next → AreEntriesFrom section table widths s after next (rest after next))
    → AreEntriesFrom section table widths s depth place (found >>= (λ read. rest read.0.0 read.1 >>= (λ others. Ok (read.0.1 ++ others))))
tile_on (Ok ((after, more), next)) section table widths s depth place rest e on inside k =
    let ahead : place < next = omega (arith, on) in
    tile_more section table widths s depth place after next more (rest after next) e ahead (k after next ahead)
tile_on (Err f) section table widths s depth place rest e on inside k = record {
  pieces = [];
  last_depth = depth;
  last = place;
  entries = [];
  stand = (refl, refl, refl);
  end = (inside, e);
}

tile_test : (past : Bool) (section : List ℕ) (table : ℕ) (widths : Widths) (s : Span) (depth place : ℕ) (inner : Result (List EntryView) Fault)
    → nat_le s.end place ≡ past → (place < s.end → AreEntriesFrom section table widths s depth place inner)
    → AreEntriesFrom section table widths s depth place (cond past (Ok []) inner)
tile_test true section table widths s depth place inner test k = tile_end section table widths s depth place (leb-true s.end place test)
tile_test false section table widths s depth place inner test k = k (leb-false s.end place test)

tile_from : (n : ℕ) (section : List ℕ) (table : ℕ) (widths : Widths) (s : Span) (depth place : ℕ) → s.end ≤ place + n
    → AreEntriesFrom section table widths s depth place (walk (entry_at section table widths) n depth (at s place))
unfolding walk
tile_from zero section table widths s depth place fuel = tile_end section table widths s depth place (omega arith)
tile_from (suc n) section table widths s depth place fuel =
    tile_test (nat_le s.end place) section table widths s depth place _ refl
    (λ inside. tile_on (entry_at section table widths depth (at s place)) section table widths s depth place
    (λ after next. walk (entry_at section table widths) n after (at s next)) refl (entry_ahead section table widths depth (at s place)) inside
    (λ after next on. tile_from n section table widths s after next (omega arith)))

pub tile_law : (section : List ℕ) (table : ℕ) (widths : Widths) (s : Span) → TileArea section table widths s (entries_in section table widths s)
unfolding entries_in
tile_law section table widths s = tile_from (s.end - s.place) section table widths s 0 s.place (omega arith)
