-- Seats of a dump, place by place and all together.
use Rattle.std.specs.Prelude.{◌≡◌, ◌⊎◌, refl, ℕ, zero, suc, ◌+◌, ◌≤◌, ◌<◌, List, [], ◌∷◌, length, slice_index_or}
use Rattle.std.proofs.Common.{arith, sym, ap, ◌∙◌, subst, inl, inr}
use Rattle.std.proofs.lemmas.Bool.{cases_lt}
use Rattle.std.proofs.lemmas.List.{get_or_default, get_or-set_same, get_or-set_other}
use lib.ListN.{set}
use mathlib.Core.Logic.{dite}
use native.Mathlib.Decide.{ℕ_discrete}
use Rattle.elf_sections.specs.Shapes.{SectionsView}
use Rattle.map_cells.specs.Seen.{Follows}
use Rattle.map_cells.specs.FollowLaws.{follows_same, follows_then, of_follows}
use Rattle.handle_cache.specs.Handles.{HandleView, Belongs}
use Rattle.handle_cache.proofs.Calls.{still_noted}
use Rattle.unit_headers.specs.Headers.{unit_count}
use Rattle.dump_workers.specs.FileKeys.{CountsUnits, GainsUnits, NotesUnit}
use Rattle.dump_workers.specs.Seats.{DumpSeatView, EachBelongs, EachCounts, EachFollows, EachGains, SameSeat}
use Rattle.dump_workers.specs.Windows.{NoteBelow, SomeSeatNotesUnit}
use Rattle.dump_workers.proofs.UnitKeys.{counts_same, counts_then, gains_same, gains_then}

-- # By their places

pub belongs_at : (h : HandleView) (seats : List DumpSeatView) (i : ℕ) (d : DumpSeatView) → EachBelongs h seats → i < length seats → Belongs h (slice_index_or seats i d).pass
belongs_at h [] i d all inside = absurd (omega arith)
belongs_at h (seat ∷ seats) zero d all inside = all.0
belongs_at h (seat ∷ seats) (suc i) d all inside = belongs_at h seats i d all.1 (omega arith)

pub follows_places : (xs ys : List DumpSeatView) → length ys ≡ length xs
    → ((i : ℕ) (d : DumpSeatView) → i < length xs → Follows (slice_index_or xs i d).pass (slice_index_or ys i d).pass) → EachFollows xs ys
follows_places [] [] same each = tt
follows_places [] (y ∷ ys) same each = absurd (omega (arith, same))
follows_places (x ∷ xs) [] same each = absurd (omega (arith, same))
follows_places (x ∷ xs) (y ∷ ys) same each = (each 0 x (omega arith), follows_places xs ys (omega (arith, same)) (λ i d inside. each (suc i) d (omega (arith, inside))))

pub gains_places : (s : SectionsView) (xs ys : List DumpSeatView) → length ys ≡ length xs
    → ((i : ℕ) (d : DumpSeatView) → i < length xs → GainsUnits s (slice_index_or xs i d).pass (slice_index_or ys i d).pass) → EachGains s xs ys
gains_places s [] [] same each = tt
gains_places s [] (y ∷ ys) same each = absurd (omega (arith, same))
gains_places s (x ∷ xs) [] same each = absurd (omega (arith, same))
gains_places s (x ∷ xs) (y ∷ ys) same each = (each 0 x (omega arith), gains_places s xs ys (omega (arith, same)) (λ i d inside. each (suc i) d (omega (arith, inside))))

pub counts_places : (s : SectionsView) (xs ys : List DumpSeatView) → length ys ≡ length xs
    → ((i : ℕ) (d : DumpSeatView) → i < length xs → CountsUnits s (slice_index_or xs i d).pass (slice_index_or xs i d).steps (slice_index_or ys i d).steps)
    → EachCounts s xs ys
counts_places s [] [] same each = tt
counts_places s [] (y ∷ ys) same each = absurd (omega (arith, same))
counts_places s (x ∷ xs) [] same each = absurd (omega (arith, same))
counts_places s (x ∷ xs) (y ∷ ys) same each = (each 0 x (omega arith), counts_places s xs ys (omega (arith, same)) (λ i d inside. each (suc i) d (omega (arith, inside))))

pub some_place : (s : SectionsView) (unit : ℕ) (seats : List DumpSeatView) (i : ℕ) (d : DumpSeatView) → i < length seats
    → NotesUnit s unit (slice_index_or seats i d).pass → SomeSeatNotesUnit s unit seats
some_place s unit [] i d inside notes = absurd (omega arith)
some_place s unit (seat ∷ seats) zero d inside notes = inl notes
some_place s unit (seat ∷ seats) (suc i) d inside notes = inr (some_place s unit seats i d (omega (arith, inside)) notes)

-- # All together

pub each_same : (xs : List DumpSeatView) → EachFollows xs xs
each_same [] = tt
each_same (x ∷ xs) = (follows_same x.pass, each_same xs)

pub each_then : (xs ys zs : List DumpSeatView) → EachFollows xs ys → EachFollows ys zs → EachFollows xs zs
each_then [] [] [] p q = tt
each_then [] [] (z ∷ zs) p q = absurd q
each_then [] (y ∷ ys) zs p q = absurd p
each_then (x ∷ xs) [] zs p q = absurd p
each_then (x ∷ xs) (y ∷ ys) [] p q = absurd q
each_then (x ∷ xs) (y ∷ ys) (z ∷ zs) p q = (follows_then x.pass y.pass z.pass p.0 q.0, each_then xs ys zs p.1 q.1)

pub each_length : (xs ys : List DumpSeatView) → EachFollows xs ys → length ys ≡ length xs
each_length [] [] p = refl
each_length [] (y ∷ ys) p = absurd p
each_length (x ∷ xs) [] p = absurd p
each_length (x ∷ xs) (y ∷ ys) p = let rest = each_length xs ys p.1 in omega (arith, rest)

pub each_belongs : (h : HandleView) (xs ys : List DumpSeatView) → EachBelongs h xs → EachFollows xs ys → EachBelongs h ys
each_belongs h [] [] all p = tt
each_belongs h [] (y ∷ ys) all p = absurd p
each_belongs h (x ∷ xs) [] all p = absurd p
each_belongs h (x ∷ xs) (y ∷ ys) all p = (
  record { of_table = of_follows h.table x.pass y.pass all.0.of_table p.0; rest = p.0.rest all.0.rest },
  each_belongs h xs ys all.1 p.1,
)

pub each_gains_same : (s : SectionsView) (xs : List DumpSeatView) → EachGains s xs xs
each_gains_same s [] = tt
each_gains_same s (x ∷ xs) = (gains_same s x.pass, each_gains_same s xs)

pub each_gains_then : (s : SectionsView) (xs ys zs : List DumpSeatView) → EachGains s xs ys → EachGains s ys zs → EachGains s xs zs
each_gains_then s [] [] [] p q = tt
each_gains_then s [] [] (z ∷ zs) p q = absurd q
each_gains_then s [] (y ∷ ys) zs p q = absurd p
each_gains_then s (x ∷ xs) [] zs p q = absurd p
each_gains_then s (x ∷ xs) (y ∷ ys) [] p q = absurd q
each_gains_then s (x ∷ xs) (y ∷ ys) (z ∷ zs) p q = (gains_then s x.pass y.pass z.pass p.0 q.0, each_gains_then s xs ys zs p.1 q.1)

pub each_counts_same : (s : SectionsView) (xs : List DumpSeatView) → EachCounts s xs xs
each_counts_same s [] = tt
each_counts_same s (x ∷ xs) = (counts_same s x.pass x.steps, each_counts_same s xs)

pub each_counts_then : (s : SectionsView) (xs ys zs : List DumpSeatView) → EachFollows xs ys → EachCounts s xs ys → EachCounts s ys zs → EachCounts s xs zs
each_counts_then s [] [] [] f p q = tt
each_counts_then s [] [] (z ∷ zs) f p q = absurd q
each_counts_then s [] (y ∷ ys) zs f p q = absurd p
each_counts_then s (x ∷ xs) [] zs f p q = absurd p
each_counts_then s (x ∷ xs) (y ∷ ys) [] f p q = absurd q
each_counts_then s (x ∷ xs) (y ∷ ys) (z ∷ zs) f p q =
    (counts_then s x.pass y.pass x.steps y.steps z.steps f.0 p.0 q.0, each_counts_then s xs ys zs f.1 p.1 q.1)

-- what was noted stays noted
pub some_later : (s : SectionsView) (unit : ℕ) (xs ys : List DumpSeatView) → EachFollows xs ys → SomeSeatNotesUnit s unit xs → SomeSeatNotesUnit s unit ys
some_later s unit [] ys f notes = absurd notes
some_later s unit (x ∷ xs) [] f notes = absurd f
some_later s unit (x ∷ xs) (y ∷ ys) f (inl here) = inl (λ k uses. still_noted x.pass y.pass k f.0 (here k uses))
some_later s unit (x ∷ xs) (y ∷ ys) f (inr there) = inr (some_later s unit xs ys f.1 there)

-- the windows below, and one more
pub below_more : (s : SectionsView) (start end : ℕ) (xs ys : List DumpSeatView) → EachFollows xs ys → NoteBelow s start xs
    → ((u : ℕ) → start ≤ u → u < end → u < unit_count s.info s.order → SomeSeatNotesUnit s u ys) → NoteBelow s end ys
below_more s start end xs ys f below here u low counted = choose (cases_lt u start)
  where
    choose : (u < start) ⊎ (start ≤ u) → SomeSeatNotesUnit s u ys
    choose (inl before) = some_later s u xs ys f (below u before counted)
    choose (inr after) = here u after low counted

-- # One seat is changed

-- the pass and the counter of a seat that was given other work
pub set_same : (old xs : List DumpSeatView) (j : ℕ) (x y : DumpSeatView) → length xs ≡ length old → j < length xs → x ≡ slice_index_or xs j x → y.pass ≡ x.pass → y.steps ≡ x.steps
    → ((i : ℕ) (d : DumpSeatView) → i < length old → SameSeat (slice_index_or old i d) (slice_index_or xs i d))
    → (i : ℕ) (d : DumpSeatView) → i < length old → SameSeat (slice_index_or old i d) (slice_index_or (set xs j y) i d)
set_same old xs j x y sizes inside at pass steps before i d low =
    dite (ℕ_discrete i j)
    (λ is.
    let here : slice_index_or xs i d ≡ x = ap (λ (n : ℕ). slice_index_or xs n d) is ∙ get_or_default xs j d x inside ∙ sym at in
    let now : slice_index_or (set xs j y) i d ≡ y = ap (λ (n : ℕ). slice_index_or (set xs j y) n d) is ∙ get_or-set_same xs j y d inside in
    rw now (record {
      pass = pass ∙ sym (ap (λ (v : DumpSeatView). v.pass) here) ∙ (before i d low).pass;
      steps = steps ∙ sym (ap (λ (v : DumpSeatView). v.steps) here) ∙ (before i d low).steps;
    }))
    (λ isnt. rw (get_or-set_other xs j i y d isnt) (before i d low))

pub same_seats : (xs : List DumpSeatView) (i : ℕ) (d : DumpSeatView) → i < length xs → SameSeat (slice_index_or xs i d) (slice_index_or xs i d)
same_seats xs i d low = record { pass = refl; steps = refl }

-- seats behind it are as they were
pub set_left : (old xs : List DumpSeatView) (j : ℕ) (y : DumpSeatView)
    → ((i : ℕ) (d : DumpSeatView) → j ≤ i → i < length old → (slice_index_or xs i d).work ≡ (slice_index_or old i d).work)
    → (i : ℕ) (d : DumpSeatView) → j + 1 ≤ i → i < length old → (slice_index_or (set xs j y) i d).work ≡ (slice_index_or old i d).work
set_left old xs j y before i d far low =
    ap (λ (v : DumpSeatView). v.work) (get_or-set_other xs j i y d (λ is. omega arith)) ∙ before i d (omega arith) low

-- one place more
pub place_more : (P : ℕ → DumpSeatView → Type 0) (n j : ℕ) → ((i : ℕ) (d : DumpSeatView) → i < j → i < n → P i d) → ((d : DumpSeatView) → P j d)
    → (i : ℕ) (d : DumpSeatView) → i < j + 1 → i < n → P i d
place_more P n j before here i d low inside =
    dite (ℕ_discrete i j) (λ is. subst (λ (k : ℕ). P k d) (sym is) (here d)) (λ isnt. before i d (omega (arith, isnt)) inside)
