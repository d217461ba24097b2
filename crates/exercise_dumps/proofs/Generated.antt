-- The generated file is one of which no unit is refused and whose keys fit its table.
use Rattle.std.specs.Prelude.{◌*◌, refl, ◌≡◌, ℕ, ◌<◌, ◌≤◌, min, ◌++◌, Bool, true, List, length, Result, Ok, Err, IfOk}
use Rattle.std.proofs.Common.{arith, ap, sym, subst, ◌∙◌}
use Rattle.elf_sections.specs.declared.refusals.ElfRefusal.{ElfRefusal}
use Rattle.elf_sections.specs.declared.refusals.OpenRefusal.{OpenRefusal}
use Rattle.elf_sections.specs.declared.refusals.OpenRefusal.TheVariants.{Refused}
use Rattle.elf_sections.specs.Names.{elf_of}
use Rattle.elf_sections.specs.Refusals.{Fails}
use Rattle.elf_sections.specs.Rows.{ElfView}
use Rattle.elf_sections.specs.Shapes.{SectionsView, sections_of}
use Rattle.handle_cache.specs.Scanned.{room_for}
use Rattle.dump_workers.specs.Dumps.{dump_of}
use Rattle.dump_workers.specs.Ends.{PublishedView}
use Rattle.dump_workers.specs.FileKeys.{HasSmallCodes, RefusesNone}
use Rattle.dump_workers.specs.TableKeys.{published_count, table_keys}
use Rattle.dump_workers.proofs.KeyLists.{in_table_key, key_in_table, table_distinct}
use Rattle.built_files.specs.Tables.{table_of_given}
use Rattle.exercise_file.specs.Generated.{generated, generated_file}
use Rattle.exercise_file.specs.Keys.{generated_key_count}
use Rattle.exercise_file.specs.Views.{generated_sections}
use Rattle.exercise_file.proofs.Dumps.{entries_read_whole, none_refused}
use Rattle.exercise_file.proofs.FoundSections.{sections_found, table_read}
use Rattle.exercise_file.proofs.Headers.{count_read}
use Rattle.exercise_file.proofs.Keys.{key_count_is, room_left, small_codes}
use Rattle.exercise_dumps.specs.Twice.{ShowsAll, TellsOf, published_view}
use Rattle.exercise_dumps.specs.Lines.{exercise_text, file_lines, lines_of, table_lines}

module _ (n : ℕ) (few : n ≤ 9999) where
  -- what is opened has the sections of the generated file
  pub opened : (file : List ℕ) (elf : ElfView) → file ≡ generated_file n → elf_of file ≡ Ok elf → sections_of elf ≡ generated_sections n
  opened file elf is read =
      let both = sym (table_read n few) ∙ ap elf_of (sym is) ∙ read in
      let same : table_of_given (generated n) ≡ elf = cc in
      ap sections_of (sym same) ∙ sections_found n

  pub not_refused : (file : List ℕ) (stop : OpenRefusal) (refusal : ElfRefusal) → file ≡ generated_file n → stop ≡ Refused refusal → Fails stop (elf_of file) → ⊥
  not_refused file stop refusal is refused fails =
      let read : elf_of file ≡ Err refusal = subst (λ (r : OpenRefusal). Fails r (elf_of file)) refused fails in
      let both = sym (table_read n few) ∙ ap elf_of (sym is) ∙ read in cc

  table_count_is : length (table_keys (generated_sections n)) ≡ generated_key_count n
  table_count_is = key_count_is n few (table_keys (generated_sections n)) (record {
    once = table_distinct (generated_sections n);
    only = in_table_key (generated_sections n);
    each = key_in_table (generated_sections n);
  })

  pub opened_none : (s : SectionsView) → s ≡ generated_sections n → RefusesNone s
  opened_none s is = subst RefusesNone (sym is) (none_refused n few)

  pub opened_codes : (s : SectionsView) → s ≡ generated_sections n → HasSmallCodes s
  opened_codes s is = subst HasSmallCodes (sym is) (small_codes n few)

  pub opened_room : (s : SectionsView) → s ≡ generated_sections n → length (table_keys s) < room_for s
  opened_room s is =
      let room = room_left n few in
      subst (λ (t : SectionsView). length (table_keys t) < room_for t) (sym is) (subst (λ k. k < room_for (generated_sections n)) (sym table_count_is) room)

  count_published : published_count (generated_sections n) ≡ generated_key_count n
  count_published =
      ap (λ k. min k (room_for (generated_sections n))) table_count_is ∙ smaller (generated_key_count n) (room_for (generated_sections n)) (room_left n few)
    where
      smaller : (a b : ℕ) → a < b → min a b ≡ a
      smaller a b less = omega arith

  pub lines_generated : exercise_text (generated_sections n)
      ≡ file_lines n (7 * n) (length (dump_of (generated_sections n)).text) ++ table_lines (generated_key_count n) 0 true
  lines_generated = rw (count_published, count_read n few, entries_read_whole n few) refl

  shows_generated : (workers : ℕ) (published : PublishedView) (bytes again : ℕ) (equal : Bool) → TellsOf (generated_sections n) workers published bytes again equal
      → ShowsAll n workers published bytes again equal
  shows_generated workers published bytes again equal t =
      record {
        units_are = t.units_are ∙ count_read n few;
        entries_are = t.entries_are ∙ entries_read_whole n few;
        workers_are = t.workers_are;
        number_is = t.number_is ∙ count_published;
        bytes_are = t.bytes_are;
        again_is = t.again_is;
        equal_is = t.equal_is;
      }

  pub shows : (s : SectionsView) (workers : ℕ) (published : PublishedView) (bytes again : ℕ) (equal : Bool) → s ≡ generated_sections n → TellsOf s workers published bytes again equal
      → ShowsAll n workers published bytes again equal
  shows s workers published bytes again equal is t =
      shows_generated workers published bytes again equal (subst (λ (v : SectionsView). TellsOf v workers published bytes again equal) is t)

pub tells_generated : (n : ℕ) (s : SectionsView) (workers : ℕ) (published : PublishedView) (bytes again : ℕ) (equal : Bool) → s ≡ generated_sections n
    → TellsOf s workers published bytes again equal → TellsOf (generated_sections n) workers published bytes again equal
tells_generated n s workers published bytes again equal is t = subst (λ (v : SectionsView). TellsOf v workers published bytes again equal) is t

pub if_ok : {A E : Type 0} → (r : Result A E) (P Q : A → Type 0) → ((a : A) → P a → Q a) → IfOk r P → IfOk r Q
if_ok (Ok a) P Q then p = then a p
if_ok (Err e) P Q then p = tt

-- the lines, by what the dumps told
pub lines_told : (s : SectionsView) (workers : ℕ) (published : PublishedView) (bytes again : ℕ) (equal : Bool) → TellsOf s workers published bytes again equal
    → lines_of published bytes again equal ≡ exercise_text s
lines_told s workers published bytes again equal t = rw (t.units_are, t.entries_are, t.number_is, t.bytes_are, t.again_is, t.equal_is) refl

pub view_told : (s : SectionsView) (workers : ℕ) (published : PublishedView) (bytes again : ℕ) (equal : Bool) → TellsOf s workers published bytes again equal
    → published ≡ published_view s workers
view_told s workers published bytes again equal t = λ i. record { number = t.number_is i; units = t.units_are i; entries = t.entries_are i; workers = t.workers_are i }
