-- How many entries a unit has at most: a walk over its bytes gives no more than one of them a turn.
use Rattle.std.specs.Prelude.{ℕ, zero, suc, ◌-◌, ◌≤◌, ◌<◌, ◌^◌, ◌==◌, nat_le, Bool, true, false, cond, List, [], ◌∷◌, ◌++◌, length, Result, Ok, Err, IfOk}
use Rattle.std.proofs.Common.{arith, length-append}
use Rattle.dw_fields.specs.declared.fault_code.Fault.{Fault}
use Rattle.dw_fields.specs.Span.{Span, at}
use Rattle.dw_fields.specs.Reading.{Reader, ◌>>=◌, uleb_at}
use Rattle.dw_fields.specs.ReaderLaws.{next-IfOk}
use Rattle.dw_fields.specs.Walk.{walk}
use Rattle.elf_sections.specs.Shapes.{SectionsView, AreShort}
use Rattle.form_values.specs.declared.raw.Widths.{Widths}
use Rattle.form_values.specs.View.{widths_of}
use Rattle.unit_headers.specs.declared.header.UnitHeader.{UnitHeader}
use Rattle.entry_tree.specs.Views.{EntryView}
use Rattle.entry_tree.specs.Entries.{behind_entry, coded_at, entry_at, entries_in}
use Rattle.entry_tree.specs.Units.{IsUnitOf, area_of, entries_of}

-- a list of one item at most, in front of a list of n at most
one_more : {A : Type 0} (front others : List A) (n : ℕ) → length front ≤ 1 → length others ≤ n → length (front ++ others) ≤ suc n
one_more front others n one few = let all = length-append front others in omega (arith, all)

walk_turn : {A : Type 0} (past : Bool) (n : ℕ) (turned : Result (List A) Fault) → IfOk turned (λ xs. length xs ≤ suc n) → IfOk (cond past (Ok []) turned) (λ xs. length xs ≤ suc n)
walk_turn true n turned few = omega arith
walk_turn false n turned few = few

walk_few : {A S : Type 0} (next : S → Reader (S × List A)) → ((state : S) (s : Span) → IfOk (next state s) (λ r. length r.0.1 ≤ 1))
    → (n : ℕ) (state : S) (s : Span) → IfOk (walk next n state s) (λ xs. length xs ≤ n)
unfolding walk
walk_few next one zero state s = omega arith
walk_few next one (suc n) state s =
    walk_turn (nat_le s.end s.place) n _
    (next-IfOk (λ r. length r.0.1 ≤ 1) (λ xs. length xs ≤ suc n) (next state s) _ (one state s) (λ found first.
    next-IfOk (λ xs. length xs ≤ n) (λ xs. length xs ≤ suc n) (walk next n found.0.0 (at s found.1)) _ (walk_few next one n found.0.0 (at s found.1))
    (λ others few. one_more found.0.1 others n first few)))

abbrev Step : Type 0
Step = Result ((ℕ × List EntryView) × ℕ) Fault

abbrev as_step : (ℕ × EntryView) × ℕ → Step
as_step entry = Ok ((entry.0.0, entry.0.1 ∷ []), entry.1)

abbrev no_step : ℕ → ℕ → Step
no_step depth next = Ok ((depth - 1, []), next)

entry_choice : (none : Bool) (depth next : ℕ) (entry : Result ((ℕ × EntryView) × ℕ) Fault)
    → IfOk (cond none (no_step depth next) (entry >>= as_step)) (λ r. length r.0.1 ≤ 1)
entry_choice true depth next entry = omega arith
entry_choice false depth next (Ok entry) = omega arith
entry_choice false depth next (Err f) = tt

any : (r : Result (ℕ × ℕ) Fault) → IfOk r (λ x. Unit {0})
any (Ok x) = tt
any (Err f) = tt

one_entry : (section : List ℕ) (table : ℕ) (widths : Widths) (depth : ℕ) (s : Span) → IfOk (entry_at section table widths depth s) (λ r. length r.0.1 ≤ 1)
unfolding entry_at
one_entry section table widths depth s =
    next-IfOk (λ r. Unit {0}) (λ r. length r.0.1 ≤ 1) (uleb_at s) _ (any (uleb_at s)) (λ code u.
    entry_choice (code.0 == 0) depth code.1 (behind_entry depth (coded_at section table widths depth s.place code.0 (at s code.1))))

few_in : (section : List ℕ) (table : ℕ) (widths : Widths) (s : Span) → IfOk (entries_in section table widths s) (λ xs. length xs ≤ s.end - s.place)
unfolding entries_in
few_in section table widths s = walk_few (entry_at section table widths) (one_entry section table widths) (s.end - s.place) 0 s

short_list : (header : UnitHeader) (s : SectionsView) (read : Result (List EntryView) Fault) → AreShort s → IsUnitOf s header
    → IfOk read (λ es. length es ≤ header.end - header.entries) → IfOk read (λ es. length es < 2 ^ 32)
short_list header s (Ok es) short unit few =
    let m : ℕ = length es in let all : ℕ = length s.info in
    let ends : header.end ≤ all = unit.ends in
    let small : all < 2 ^ 32 = short.info in
    let goal : m < 2 ^ 32 = omega (arith, few) in goal
short_list header s (Err f) short unit few = tt

-- the entries of a unit are less than 2^32
pub few_entries : (s : SectionsView) (header : UnitHeader) → AreShort s → IsUnitOf s header → IfOk (entries_of s header) (λ es. length es < 2 ^ 32)
few_entries s header short unit = short_list header s (entries_of s header) short unit (few_in s.«abbrev» header.«abbrev» (widths_of header) (area_of s header))
