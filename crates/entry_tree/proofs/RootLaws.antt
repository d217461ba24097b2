-- The root is the first of the entries.
use Rattle.std.proofs.Common.{◌≡◌, ℕ, zero, suc, ◌-◌, ◌==◌, nat_le, Bool, true, false, cond, ◌++◌, List, [], ◌∷◌, Option, Some, None, Result, Ok, Err, IfOk, refl, subst, sym}
use Rattle.dw_fields.specs.declared.fault_code.Fault.{Fault}
use Rattle.dw_fields.specs.Span.{Span, at}
use Rattle.dw_fields.specs.Reading.{◌>>=◌, uleb_at}
use Rattle.dw_fields.specs.Walk.{walk}
use Rattle.form_values.specs.declared.raw.Widths.{Widths}
use Rattle.entry_tree.specs.declared.first.RootCode.{RootCode}
use Rattle.entry_tree.specs.Views.{EntryView}
use Rattle.entry_tree.specs.Entries.{coded_at, behind_entry, entry_at, entries_in, first_code_from, first_code_in, root_coded, root_in}
use Rattle.entry_tree.specs.Units.{BeginsWith, IsFirstEntry}

abbrev as_root : (Bool × EntryView) × ℕ → Result (Option (EntryView × ℕ)) Fault
as_root entry = Ok (Some (entry.0.1, entry.1))

abbrev as_piece : (ℕ × EntryView) × ℕ → Result ((ℕ × List EntryView) × ℕ) Fault
as_piece entry = Ok ((entry.0.0, entry.0.1 ∷ []), entry.1)

abbrev no_entry : ℕ → Result ((ℕ × List EntryView) × ℕ) Fault
no_entry next = Ok ((0 - 1, []), next)

abbrev code_at : ℕ → ℕ × ℕ → Result (Option RootCode) Fault
code_at place code = Ok (Some (record { place = place; code = code.0; next = code.1 }))

begins : (entry : EntryView) (others : Result (List EntryView) Fault) → IfOk (others >>= (λ rest. Ok ((entry ∷ []) ++ rest))) (BeginsWith entry)
begins entry (Ok rest) = record { others = rest; is = refl }
begins entry (Err f) = tt

-- an entry that was read is the first, whatever is behind it
root_entry : (coded : Result ((Bool × EntryView) × ℕ) Fault) (rest : ℕ → ℕ → Result (List EntryView) Fault)
    → IsFirstEntry (coded >>= as_root)
    ((behind_entry 0 coded >>= as_piece) >>= (λ found. rest found.0.0 found.1 >>= (λ others. Ok (found.0.1 ++ others))))
root_entry (Ok read) rest = begins read.0.1 (rest _ read.1)
root_entry (Err f) rest = refl

nothing_first : (others : Result (List EntryView) Fault) → (others >>= (λ rest. Ok ([] ++ rest))) ≡ others
nothing_first (Ok rest) = refl
nothing_first (Err f) = refl

behind_zero : (root : Result (Option (EntryView × ℕ)) Fault) (others : Result (List EntryView) Fault) → IsFirstEntry root others
    → IsFirstEntry root (others >>= (λ rest. Ok ([] ++ rest)))
behind_zero root others h = let P : Result (List EntryView) Fault → Type 0 = λ x. IsFirstEntry root x in subst P (sym (nothing_first others)) h

root_choice : (none : Bool) (n : ℕ) (section : List ℕ) (table : ℕ) (widths : Widths) (start : Span) (place code next : ℕ)
    → IsFirstEntry (first_code_from n (at start next) >>= root_coded section table widths start) (walk (entry_at section table widths) n 0 (at start next))
    → IsFirstEntry (cond none (first_code_from n (at start next)) (code_at place (code, next)) >>= root_coded section table widths start)
    (cond none (no_entry next) (behind_entry 0 (coded_at section table widths 0 place code (at start next)) >>= as_piece)
    >>= (λ found. walk (entry_at section table widths) n found.0.0 (at start found.1) >>= (λ others. Ok (found.0.1 ++ others))))
root_choice true n section table widths start place code next h =
    behind_zero (first_code_from n (at start next) >>= root_coded section table widths start) (walk (entry_at section table widths) n 0 (at start next)) h
root_choice false n section table widths start place code next h =
    root_entry (coded_at section table widths 0 place code (at start next)) (λ depth q. walk (entry_at section table widths) n depth (at start q))

root_code : (read : Result (ℕ × ℕ) Fault) (n : ℕ) (section : List ℕ) (table : ℕ) (widths : Widths) (start : Span) (place : ℕ)
    → ((q : ℕ) → IsFirstEntry (first_code_from n (at start q) >>= root_coded section table widths start) (walk (entry_at section table widths) n 0 (at start q)))
    → IsFirstEntry ((read >>= (λ code. cond (code.0 == 0) (first_code_from n (at start code.1)) (code_at place code)))
    >>= root_coded section table widths start)
    ((read >>= (λ code. cond (code.0 == 0) (no_entry code.1)
    (behind_entry 0 (coded_at section table widths 0 place code.0 (at start code.1)) >>= as_piece)))
    >>= (λ found. walk (entry_at section table widths) n found.0.0 (at start found.1) >>= (λ others. Ok (found.0.1 ++ others))))
root_code (Ok code) n section table widths start place k = root_choice (code.0 == 0) n section table widths start place code.0 code.1 (k code.1)
root_code (Err f) n section table widths start place k = refl

root_test : (past : Bool) (found : Result (Option RootCode) Fault) (root : Option RootCode → Result (Option (EntryView × ℕ)) Fault) (entries : Result (List EntryView) Fault)
    → root None ≡ Ok None → IsFirstEntry (found >>= root) entries → IsFirstEntry (cond past (Ok None) found >>= root) (cond past (Ok []) entries)
root_test true found root entries none h = rw none refl
root_test false found root entries none h = h

root_from : (n : ℕ) (section : List ℕ) (table : ℕ) (widths : Widths) (start : Span) (place : ℕ)
    → IsFirstEntry (first_code_from n (at start place) >>= root_coded section table widths start)
    (walk (entry_at section table widths) n 0 (at start place))
unfolding walk entry_at
root_from zero section table widths start place = refl
root_from (suc n) section table widths start place =
    root_test (nat_le start.end place) _ (root_coded section table widths start) _ refl
    (root_code (uleb_at (at start place)) n section table widths start place (λ q. root_from n section table widths start q))

pub root_law : (section : List ℕ) (table : ℕ) (widths : Widths) (s : Span) → IsFirstEntry (root_in section table widths s) (entries_in section table widths s)
unfolding root_in first_code_in entries_in
root_law section table widths s = root_from (s.end - s.place) section table widths s s.place
