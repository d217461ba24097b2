-- Readings that are looked through for one unit, and the entries of units that were printed.
use Rattle.std.specs.Prelude.{◌≡◌, ℕ, suc, ◌+◌, ◌≤◌, ◌<◌, List, [], ◌∷◌, length, drop, get_or, Result, Err}
use Rattle.std.proofs.Common.{arith, sym, ap, ◌∙◌, ⊎_elim, add-one, drop-cons}
use Rattle.std.proofs.lemmas.Bool.{cases_lt}
use Rattle.std.proofs.lemmas.List.{drop_all}
use Rattle.dw_outside.specs.Faults.{HasCause, Rose-earlier}
use Rattle.elf_sections.specs.Shapes.{SectionsView}
use Rattle.unit_draws.specs.Seats.{occurrences}
use Rattle.unit_draws.proofs.Occurrences.{occurrences-append, occurrences-nil, occurrences_other}
use Rattle.dump_workers.specs.declared.reading.Reading.{Reading}
use Rattle.dump_workers.specs.declared.ends.DumpFault.{DumpFault}
use Rattle.dump_workers.specs.Readings.{units_read}
use Rattle.dump_workers.specs.UnitDumps.{entries_from, entry_count}
use Rattle.dump_workers.proofs.DumpLaws.{entries_done, entries_next}

-- the readings that are left begin with this one
left_from : (rs : List Reading) (i : ℕ) (r : Reading) → i < length rs → r ≡ get_or rs i r → drop i rs ≡ r ∷ drop (i + 1) rs
left_from rs i r inside is = rw (add-one i) (drop-cons rs i r inside ∙ ap (λ (t : Reading). t ∷ drop (suc i) rs) (sym is))

-- this one is of another unit
pub passed_over : (u : ℕ) (rs : List Reading) (i n : ℕ) (r : Reading) → i < length rs → r ≡ get_or rs i r → (r.unit ≡ u → ⊥)
    → occurrences u (units_read (drop i rs)) ≡ n → occurrences u (units_read (drop (i + 1) rs)) ≡ n
passed_over u rs i n r inside is isnt before =
    let here : occurrences u (units_read (r ∷ drop (i + 1) rs)) ≡ n = rw (left_from rs i r inside is) at before in
    let add = occurrences-append u (r.unit ∷ []) (units_read (drop (i + 1) rs)) in
    let other = occurrences_other u r.unit isnt in omega arith

-- none is left
pub none_found : (u : ℕ) (rs : List Reading) (i n : ℕ) → length rs ≤ i → occurrences u (units_read (drop i rs)) ≡ n → n ≡ 0
none_found u rs i n all left = sym left ∙ ap (λ (l : List Reading). occurrences u (units_read l)) (drop_all i rs all) ∙ occurrences-nil u

-- one is left
pub one_left : (u : ℕ) (rs : List Reading) (i : ℕ) → 0 < occurrences u (units_read rs) → occurrences u (units_read (drop i rs)) ≡ occurrences u (units_read rs) → i < length rs
one_left u rs i some left =
    ⊎_elim (λ (low : i < length rs). low)
    (λ (all : length rs ≤ i). absurd (let none : occurrences u (units_read rs) ≡ 0 = none_found u rs i (occurrences u (units_read rs)) all left in omega (arith, some, none)))
    (cases_lt i (length rs))

-- # Entries

-- the entries of one unit more
pub entries_more : (s : SectionsView) (unit m n entries from count total : ℕ) → m ≡ suc n → count ≡ entry_count s unit → from ≡ count
    → entries + entries_from s unit m ≡ total → entries + from + entries_from s (unit + 1) n ≡ total
entries_more s unit m n entries from count total fuel is same before =
    let a : ℕ = entries_from s unit m in
    let b : ℕ = entries_from s (unit + 1) n in
    let e : ℕ = entry_count s unit in
    let next : a ≡ e + b = entries_next s unit m n fuel in
    let here : count ≡ e = is in
    let sum : entries + a ≡ total = before in
    let goal : entries + from + b ≡ total = omega arith in goal

-- no unit is left
pub entries_all : (s : SectionsView) (unit m entries total : ℕ) → m ≡ 0 → entries + entries_from s unit m ≡ total → entries ≡ total
entries_all s unit m entries total none sum =
    let a : ℕ = entries_from s unit m in
    let done : a ≡ 0 = entries_done s unit m none in
    let all : entries + a ≡ total = sum in
    let goal : entries ≡ total = omega arith in goal

-- # Causes

same_fault : {A B : Type 0} (e f : DumpFault) → ◌≡◌ {A = Result A DumpFault} (Err e) (Err f) → ◌≡◌ {A = Result B DumpFault} (Err e) (Err f)
same_fault e f is = let same : e ≡ f = cc in ap (λ (x : DumpFault). Err x) same

-- a fault that a part met is met by the whole
pub cause_of : {A B : Type 0} (e failed : DumpFault) (before mid now : ℕ) → before ≤ mid → HasCause {T = A} {E = DumpFault} failed mid now (Err e)
    → HasCause {T = B} {E = DumpFault} failed before now (Err e)
cause_of e failed before mid now earlier cause = record {
  later = omega (arith, cause.later);
  rose = λ is. Rose-earlier before mid now earlier (cause.rose (same_fault e failed is));
}
