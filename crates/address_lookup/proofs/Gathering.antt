-- What a step leaves of the tables that are gathered.
use Rattle.std.proofs.Common.{◌≡◌, ◌∙◌, ◌⊎◌, ◌<◌, ◌^◌, ℕ, Bool, true, false, cond, [], ◌∷◌, ◌++◌, length, map, Option, Some, None, option_map, option_and_then, IfSome, Result, Ok, Err, OnOk, refl, sym, ap, subst, inl, inr, arith}
use Rattle.std.specs.declared.cmp.Ordering.{Ordering}
use Rattle.std.specs.declared.cmp.Ordering.TheVariants.{Less, Equal, Greater}
use Rattle.std.specs.BTreeSet.{BTreeSet}
use Rattle.std.specs.Option.{option_or}
use Rattle.std.specs.Ordering.{is_eq, nat_cmp}
use Rattle.std.specs.Result.{result_ok}
use Rattle.std.proofs.lemmas.List.{length-append, length-map, map_push}
use Rattle.std.proofs.lemmas.Map.Lookups.{CmpEqualImpliesEq, exact_pairs, exact_unsigned}
use Rattle.elf_sections.specs.Shapes.{SectionsView}
use Rattle.line_programs.specs.LineTables.{table_of}
use Rattle.row_index.specs.Rows.{row_at}
use Rattle.address_lookup.specs.declared.programs.ProgramKey.{ProgramKey}
use Rattle.address_lookup.specs.declared.programs.UnitProgram.{UnitProgram}
use Rattle.address_lookup.specs.declared.tables.Tables.{Tables}
use Rattle.address_lookup.specs.declared.tables.UnitTable.{UnitTable}
use Rattle.address_lookup.specs.Kept.{KeptTable, kept_place, kept_place_of, kept_table, kept_table_view}
use Rattle.address_lookup.specs.Built.{AddsTable, IsGathered, NotesProgram, TellsNothing, key_cmp, kept_answer, was_run}
use Rattle.address_lookup.specs.Places.{PlaceView, place_in_unit}
use Rattle.address_lookup.specs.Programs.{key_of, table_at, unit_program, unit_table}
use Rattle.address_lookup.proofs.Found.{table_tells}
use Rattle.address_lookup.proofs.Tells.{AddedTo, kept_more, nothing_again, nothing_later, or_associates}

-- keys that compare alike are one
pub exact_keys : CmpEqualImpliesEq key_cmp
exact_keys a b h =
    ap (λ (p : ℕ × ℕ). record { offset = p.0; address_size = p.1 })
    (exact_pairs nat_cmp nat_cmp exact_unsigned exact_unsigned (a.offset, a.address_size) (b.offset, b.address_size) h)

is_equal : (o : Ordering) → is_eq o ≡ true → o ≡ Equal
is_equal Less e = absurd (grind (arith, e))
is_equal Equal e = refl
is_equal Greater e = absurd (grind (arith, e))

either : (test before : Bool) → cond test true before ≡ true → (before ≡ true) ⊎ (test ≡ true)
either true before e = inr refl
either false before e = inl e

same_key : (key k : ProgramKey) (before : Bool) → ((before ≡ true) ⊎ (is_eq (key_cmp key k) ≡ true)) → (before ≡ true) ⊎ (k ≡ key)
same_key key k before (inl e) = inl e
same_key key k before (inr e) = inr (sym (exact_keys key k (is_equal (key_cmp key k) e)))

-- a key of a set that gained one
pub noted_key : (old now : BTreeSet ProgramKey) (key k : ProgramKey) → was_run now k ≡ cond (is_eq (key_cmp key k)) true (was_run old k) → was_run now k ≡ true
    → (was_run old k ≡ true) ⊎ (k ≡ key)
noted_key old now key k is was = same_key key k (was_run old k) (either (is_eq (key_cmp key k)) (was_run old k) (sym is ∙ was))

run_after : (s : SectionsView) (unit : ℕ) (old now : Tables) (key k : ProgramKey) → AddedTo unit (table_at s key) (kept_answer old) (kept_answer now) → IsGathered s old
    → ((was_run old.programs k ≡ true) ⊎ (k ≡ key)) → TellsNothing s (kept_answer now) k
run_after s unit old now key k added h (inl before) = nothing_later s unit (table_at s key) (kept_answer old) (kept_answer now) k added (h.run k before)
run_after s unit old now key k added h (inr same) = subst (TellsNothing s (kept_answer now)) (sym same) (nothing_again s unit (kept_answer old) (kept_answer now) key added)

-- the tables behind a step
pub gathered_after : (s : SectionsView) (unit : ℕ) (program : UnitProgram) (old now : Tables) (is_new : Bool) → old.texts ≡ s → now.texts ≡ s
    → length now.units.items ≡ length now.rows.items → NotesProgram old.programs now.programs (key_of program) is_new → AddsTable unit program old now → IsGathered s old → IsGathered s now
gathered_after s unit program old now is_new before texts sizes notes added h = record {
  texts = texts;
  sizes = sizes;
  run = λ k was.
      let mine : AddedTo unit (table_at s (key_of program)) (kept_answer old) (kept_answer now) = subst (λ (t : SectionsView). AddedTo unit (table_at t (key_of program)) (kept_answer old) (kept_answer now)) before added in
      run_after s unit old now (key_of program) k mine h (notes.others k was);
}

-- two facts of a call that succeeded, and what follows of both
pub both_ok : {X E : Type 0} {P Q R : Type 0} (result : Result X E) → OnOk result P → OnOk result Q → (P → Q → R) → OnOk result R
both_ok (Ok x) p q f = f p q
both_ok (Err e) p q f = tt

-- A table that was put behind the others was added.
pub added_by : (unit : ℕ) (program : UnitProgram) (old now : Tables) (table : UnitTable) → length old.units.items ≡ length old.rows.items
    → now.units.items ≡ old.units.items ++ table.names ∷ [] → now.rows.items ≡ old.rows.items ++ table.rows ∷ []
    → table.names.number ≡ unit → length table.names.header.files < 2 ^ 32
    → ◌≡◌ {A = Option KeptTable} (Some (kept_table_view table)) (result_ok (kept_table (table_of old.texts program.header.address_size program.offset)))
    → AddsTable unit program old now
added_by unit program old now table sizes units rows number few is a x =
    let read = table_of old.texts program.header.address_size program.offset in
    ap (λ us. option_or (kept_place_of us (map (λ v. v.items) now.rows.items) a) x) units
    ∙ ap (λ rs. option_or (kept_place_of (old.units.items ++ table.names ∷ []) rs a) x) (ap (map (λ v. v.items)) rows ∙ map_push (λ v. v.items) old.rows.items table.rows)
    ∙ ap (λ o. option_or o x) (kept_more old.units.items (map (λ v. v.items) old.rows.items) table.names table.rows.items a (sizes ∙ sym (length-map old.rows.items (λ v. v.items))))
    ∙ or_associates (kept_answer old a) (option_map (kept_place table.names) (row_at table.rows.items a)) x
    ∙ ap (λ o. option_or (kept_answer old a) (option_or o x)) (table_tells table.names table.rows.items read a few is ∙ ap (λ n. place_in_unit n (result_ok read) a) number)

-- the same of a table that was found
pub added_some : (unit : ℕ) (program : UnitProgram) (old now : Tables) (table : UnitTable) (found : Option UnitTable) → found ≡ Some table → length old.units.items ≡ length old.rows.items
    → now.units.items ≡ old.units.items ++ table.names ∷ [] → now.rows.items ≡ old.rows.items ++ table.rows ∷ []
    → IfSome found (λ (t : UnitTable). t.names.number ≡ unit) → IfSome found (λ (t : UnitTable). length t.names.header.files < 2 ^ 32)
    → option_map kept_table_view found ≡ result_ok (kept_table (table_of old.texts program.header.address_size program.offset))
    → AddsTable unit program old now
added_some unit program old now table found some sizes units rows number few is =
    let N : Option UnitTable → Type 0 = λ o. IfSome o (λ (t : UnitTable). t.names.number ≡ unit) in
    let F : Option UnitTable → Type 0 = λ o. IfSome o (λ (t : UnitTable). length t.names.header.files < 2 ^ 32) in
    let numbered : table.names.number ≡ unit = subst N some number in
    let short : length table.names.header.files < 2 ^ 32 = subst F some few in
    added_by unit program old now table sizes units rows numbered short (ap (option_map kept_table_view) (sym some) ∙ is)

-- what is then true of the tables
pub gathered_by : (unit : ℕ) (program : UnitProgram) (old now : Tables) (table : UnitTable) (noted : BTreeSet ProgramKey) (key : ProgramKey) (is_new : Bool)
    → IsGathered old.texts old → NotesProgram old.programs noted key is_new → key ≡ key_of program → now.programs ≡ noted → now.texts ≡ old.texts
    → now.units.items ≡ old.units.items ++ table.names ∷ [] → now.rows.items ≡ old.rows.items ++ table.rows ∷ []
    → AddsTable unit program old now → IsGathered old.texts now
gathered_by unit program old now table noted key is_new h notes is programs texts units rows added =
    let noted_here : NotesProgram old.programs now.programs key is_new = subst (λ (p : BTreeSet ProgramKey). NotesProgram old.programs p key is_new) (sym programs) notes in
    let mine : NotesProgram old.programs now.programs (key_of program) is_new = subst (λ (k : ProgramKey). NotesProgram old.programs now.programs k is_new) is noted_here in
    gathered_after old.texts unit program old now is_new refl texts
    (omega (arith, ap length units, ap length rows, length-append old.units.items (table.names ∷ []), length-append old.rows.items (table.rows ∷ []), h.sizes))
    mine added h

-- a unit without a program adds nothing
pub none_added : (s : SectionsView) (unit : ℕ) (known : ℕ → Option PlaceView) → unit_program s unit ≡ None → AddedTo unit (unit_table s unit) known known
none_added s unit known none a x =
    ap (λ p. option_or (known a) (option_or (place_in_unit unit (option_and_then (λ program. table_at s (key_of program)) p) a) x)) (sym none)

-- one with a program adds its table
pub some_added : (s : SectionsView) (unit : ℕ) (program : UnitProgram) (old now : Tables) → unit_program s unit ≡ Some program → old.texts ≡ s → AddsTable unit program old now
    → AddedTo unit (unit_table s unit) (kept_answer old) (kept_answer now)
some_added s unit program old now some texts added a x =
    added a x
    ∙ ap (λ (t : SectionsView). option_or (kept_answer old a) (option_or (place_in_unit unit (table_at t (key_of program)) a) x)) texts
    ∙ ap (λ p. option_or (kept_answer old a) (option_or (place_in_unit unit (option_and_then (λ program. table_at s (key_of program)) p) a) x)) (sym some)
