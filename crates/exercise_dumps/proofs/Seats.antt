-- What the seats of a second dump know, and what it makes of their counters.
use Rattle.std.specs.Prelude.{◌≡◌, ℕ, ◌<◌, true, List, [], ◌∷◌, length, map, Contains}
use Rattle.std.proofs.Common.{arith, ap, sym, subst, ◌∙◌, ⊎_elim, true≢false}
use Rattle.std.proofs.lemmas.Bool.{lt-leb}
use Rattle.elf_sections.specs.Shapes.{SectionsView}
use Rattle.map_core.specs.declared.entry.Entry.{Entry}
use Rattle.map_core.specs.declared.layout.Layout.{Layout}
use Rattle.handle_cache.specs.Scanned.{room_for}
use Rattle.map_core.specs.Calls.{own}
use Rattle.map_core.specs.History.{IsLegalHistory}
use Rattle.map_cells.specs.Seen.{PassView}
use Rattle.handle_cache.specs.Handles.{front_keys, is_spent}
use Rattle.dump_workers.specs.FileKeys.{HasSmallCodes, KnowsFile, RefusesNone}
use Rattle.dump_workers.specs.Passes.{EachAtZero, EachHasFront}
use Rattle.dump_workers.specs.Seats.{DumpSeatView, EachCounts}
use Rattle.dump_workers.specs.TableKeys.{HoldsFile, table_keys}
use Rattle.dump_workers.proofs.KeyLists.{size_held}

-- a pass that has all of the file's keys, in a table with more room, knows the file
pub knows_all : (s : SectionsView) (p : PassView) (fits : ℕ → ℕ → Type 0) → IsLegalHistory fits p.knows.front → own p.knows ≡ p.knows.front → HoldsFile s p
    → HasSmallCodes s → length (table_keys s) < p.knows.layout.capacity → KnowsFile s (front_keys p)
knows_all s p fits legal whole holds codes room =
    let held = size_held s p fits legal whole holds in
    let n : ℕ = length p.knows.front in
    let mine : length (own p.knows) ≡ n = ap (λ (es : List Entry). length es) whole in
    let few : length p.knows.front < p.knows.layout.capacity = omega (arith, held, mine, room) in
    record {
      keys = λ k uses. ⊎_elim (λ (here : Contains (front_keys p) k). here)
          (λ (spent : is_spent p ≡ true). absurd (true≢false (sym spent ∙ lt-leb p.knows.layout.capacity (length p.knows.front) few)))
          (holds.each k uses);
      codes = codes;
    }

pub room_in : (s : SectionsView) (layout table : Layout) → layout ≡ table → table.capacity ≡ room_for s → length (table_keys s) < room_for s → length (table_keys s) < layout.capacity
room_in s layout table same is room = let e : layout.capacity ≡ room_for s = ap (λ (l : Layout). l.capacity) same ∙ is in omega (arith, e, room)

-- seats whose fronts are such a one
abbrev EachKnows : SectionsView → List DumpSeatView → Type 0
EachKnows s [] = Unit {0}
EachKnows s (seat ∷ seats) = KnowsFile s (front_keys seat.pass) × EachKnows s seats

each_knows : (s : SectionsView) (front : List Entry) (seats : List DumpSeatView) → KnowsFile s (map (λ (e : Entry). e.key) front) → EachHasFront front seats → EachKnows s seats
each_knows s front [] knows fronts = tt
each_knows s front (seat ∷ seats) knows fronts =
    (subst (λ (es : List Entry). KnowsFile s (map (λ (e : Entry). e.key) es)) (sym fronts.0) knows, each_knows s front seats knows fronts.1)

still_zero : (s : SectionsView) (xs ys : List DumpSeatView) → EachCounts s xs ys → RefusesNone s → EachKnows s xs → EachAtZero xs → EachAtZero ys
still_zero s [] [] counts none knows zero = tt
still_zero s [] (y ∷ ys) counts none knows zero = absurd counts
still_zero s (x ∷ xs) [] counts none knows zero = absurd counts
still_zero s (x ∷ xs) (y ∷ ys) counts none knows zero = (counts.0.counts none knows.0 ∙ zero.0, still_zero s xs ys counts.1 none knows.1 zero.1)

-- where the pass knew the file, no seat that was split off it makes a step
pub no_steps : (s : SectionsView) (p : PassView) (xs ys : List DumpSeatView) → EachCounts s xs ys → RefusesNone s → EachHasFront p.knows.front xs → EachAtZero xs
    → KnowsFile s (front_keys p) → EachAtZero ys
no_steps s p xs ys counts none fronts zero knows = still_zero s xs ys counts none (each_knows s p.knows.front xs knows fronts) zero
