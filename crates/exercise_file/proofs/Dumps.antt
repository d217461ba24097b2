-- The dump of the generated file: no unit is refused, and each has seven entries.
use Rattle.std.specs.Prelude.{◌≡◌, ℕ, zero, suc, ◌+◌, ◌*◌, ◌<◌, ◌≤◌, IsOk, refl}
use Rattle.std.proofs.Common.{arith, ap, ◌∙◌}
use Rattle.dump_workers.specs.FileKeys.{RefusesNone}
use Rattle.dump_workers.specs.UnitDumps.{entries_from, entry_count, file_entries, unit_dump, unit_entries}
use Rattle.exercise_file.specs.Views.{generated_sections}
use Rattle.exercise_file.proofs.Entries.{entries_read, facts_read}
use Rattle.exercise_file.proofs.Headers.{count_read, header_read}
use Rattle.exercise_file.proofs.Texts.{text_ok}

unit_ok : (n i : ℕ) → n ≤ 9999 → i < n → IsOk (unit_dump (generated_sections n) i)
unfolding unit_dump
unit_ok n i few inside = rw (header_read n i few inside, facts_read n i few inside, entries_read n i few inside) (text_ok n i inside (143 * i + 12) 0)

-- no unit is refused
pub none_refused : (n : ℕ) → n ≤ 9999 → RefusesNone (generated_sections n)
none_refused n few unit counted =
    let count = count_read n few in
    unit_ok n unit few (omega arith)

count_seven : (n i : ℕ) → n ≤ 9999 → i < n → entry_count (generated_sections n) i ≡ 7
unfolding entry_count unit_entries
count_seven n i few inside = rw (header_read n i few inside, entries_read n i few inside) refl

entries_counted : (n i k : ℕ) → n ≤ 9999 → i + k ≡ n → entries_from (generated_sections n) i k ≡ 7 * k
entries_counted n i zero few sum = refl
entries_counted n i (suc k) few sum = omega (arith, count_seven n i few (omega arith), entries_counted n (i + 1) k few (omega arith))

-- there are seven entries for each unit
pub entries_read_whole : (n : ℕ) → n ≤ 9999 → file_entries (generated_sections n) ≡ 7 * n
unfolding file_entries
entries_read_whole n few = ap (λ k. entries_from (generated_sections n) 0 k) (count_read n few) ∙ entries_counted n 0 n few (omega arith)
