-- The text of a unit isn't refused.
use Rattle.std.specs.Prelude.{◌≡◌, ℕ, ◌+◌, ◌*◌, ◌/◌, ◌%◌, ◌<◌, ◌==◌, false, List, [], ◌∷◌, length, ◌-◌, is_ok, Some, Result, Ok, Err, IsOk, refl}
use Rattle.std.proofs.Common.{arith, ap, ◌∙◌, append_assoc}
use Rattle.std.proofs.Math.Seq.{take-append_seam}
use Rattle.std.proofs.lemmas.Bool.{lt-ltb, ne_eqb}
use Rattle.dw_fields.specs.declared.fault_code.Code.{Code}
use Rattle.entry_tree.specs.Entries.{depth_behind}
use Rattle.form_values.specs.Resolved.{address_of, list_of, text_from, text_in, text_of}
use Rattle.unit_text.specs.Pieces.{Text, joined, texts_of}
use Rattle.unit_text.specs.Units.{attr_text, attrs_text, entries_text, entry_text, read_unit_text, value_line}
use Rattle.unit_text.specs.UnitView.{UnitView, unit_of}
use Rattle.unit_text.specs.Values.{address_value, list_value, resolved, text_value, value_text}
use Rattle.built_files.specs.Places.{lies_inside}
use Rattle.built_files.specs.Texts.{HasNoZero, zero_found}
use Rattle.exercise_file.specs.Generated.{ended_name, names, texts, unit_name}
use Rattle.exercise_file.specs.Views.{generated_sections}
use Rattle.exercise_file.proofs.Headers.{header}
use Rattle.exercise_file.proofs.Entries.{facts}
use Rattle.exercise_file.proofs.Items.{End, Entry, Item, items_seen}
use Rattle.exercise_file.proofs.Lengths.{length-ended_name, name_lies}
use Rattle.exercise_file.proofs.UnitItems.{function_entry, root_entry, type_entry, unit_items, variable_entry}
use Rattle.exercise_file.proofs.Written.{Address, LineText, Number, Place, Present, Reference, Small, Value, Written, attrs_seen, attrs_size, raw_of, size_of}
use Rattle.exercise_file.proofs.Written as written

joined_ok : (a b : Text) → IsOk a → IsOk b → IsOk (joined a b)
unfolding joined
joined_ok (Ok a) (Ok b) left right = refl
joined_ok (Ok a) (Err f) left right = right
joined_ok (Err f) b left right = left

-- the text that a value stands for can be read
abbrev Resolves : UnitView → Value → Type 0
Resolves u (written.Text x) = IsOk (text_in u.sections.text x)
Resolves u (LineText x) = IsOk (text_in u.sections.line_text x)
Resolves u _ = Unit {0}

abbrev AllResolve : UnitView → List Written → Type 0
AllResolve u [] = Unit {0}
AllResolve u (a ∷ attrs) = Resolves u a.value × AllResolve u attrs

abbrev ItemsResolve : UnitView → List Item → Type 0
ItemsResolve u [] = Unit {0}
ItemsResolve u (Entry e ∷ items) = AllResolve u e.attrs × ItemsResolve u items
ItemsResolve u (End ∷ items) = ItemsResolve u items

resolved_ok : {X : Type 0} → (text : X → List ℕ) (place : ℕ) (r : Result X Code) → IsOk r → IsOk (resolved text place r)
resolved_ok text place (Ok x) ok = refl
resolved_ok text place (Err c) ok = ok

module _ (u : UnitView) where
  value_ok : (place : ℕ) (v : Value) → Resolves u v → IsOk (value_text u place (raw_of v))
  unfolding value_text address_value text_value list_value address_of text_of list_of
  value_ok place (Address x) r = refl
  value_ok place (Small x) r = refl
  value_ok place (Number x) r = refl
  value_ok place (Reference x) r = refl
  value_ok place (written.Text x) r = resolved_ok _ place (text_in u.sections.text x) r
  value_ok place (LineText x) r = resolved_ok _ place (text_in u.sections.line_text x) r
  value_ok place (Place x) r = refl
  value_ok place Present r = refl

  attrs_ok : (place : ℕ) (attrs : List Written) → AllResolve u attrs → IsOk (attrs_text u (attrs_seen place attrs))
  unfolding attrs_text texts_of attr_text value_line
  attrs_ok place [] r = refl
  attrs_ok place (a ∷ attrs) r =
      joined_ok _ _ (joined_ok _ _ refl (joined_ok _ _ (value_ok place a.value r.0) refl)) (attrs_ok (place + size_of a.value) attrs r.1)

  items_ok : (place depth : ℕ) (items : List Item) → ItemsResolve u items → IsOk (entries_text u (items_seen place depth items))
  unfolding entries_text texts_of entry_text
  items_ok place depth [] r = refl
  items_ok place depth (Entry e ∷ items) r =
      joined_ok _ _ (joined_ok _ _ refl (attrs_ok (place + 1) e.attrs r.0)) (items_ok (place + (1 + attrs_size e.attrs)) (depth_behind e.children depth) items r.1)
  items_ok place depth (End ∷ items) r = items_ok (place + 1) (depth - 1) items r

  read_ok : (place depth : ℕ) (items : List Item) → ItemsResolve u items → IsOk (read_unit_text u (items_seen place depth items))
  unfolding read_unit_text
  read_ok place depth items r = joined_ok _ _ refl (items_ok place depth items r)

digit_some : (n : ℕ) → 48 + n % 10 == 0 ≡ false
digit_some n = ne_eqb (48 + n % 10) 0 (λ z. absurd (omega arith))

no_zero : (i : ℕ) → HasNoZero (unit_name i)
unfolding unit_name
no_zero i = rw (digit_some (i / 1000), digit_some (i / 100), digit_some (i / 10), digit_some i) refl

-- the name of a unit is found
pub name_read : (n i : ℕ) → i < n → text_in (Some (names n)) (8 * i) ≡ Ok (unit_name i)
unfolding text_in text_from ended_name
name_read n i inside =
    let l = name_lies n i inside in
    let within = lies_inside (omega (arith, length-ended_name i)) l in
    let here : 8 * i < length (names n) = omega (arith, within, length-ended_name i) in
    let is = l.is ∙ append_assoc (unit_name i) (0 ∷ []) l.rest in
    rw (lt-ltb (8 * i) (length (names n)) here, is, zero_found (unit_name i) l.rest (no_zero i), is, take-append_seam (unit_name i) (0 ∷ l.rest)) refl

module _ (n i : ℕ) (inside : i < n) where
  abbrev unit : UnitView
  unit = unit_of (generated_sections n) (header i) (facts i)

  resolve : ItemsResolve unit (unit_items i)
  unfolding text_in text_from texts
  resolve =
      let root : AllResolve unit (root_entry i).attrs = (ap is_ok (name_read n i inside), (refl, (tt, (tt, (tt, tt))))) in
      let base : AllResolve unit type_entry.attrs = (refl, (tt, (tt, tt))) in
      let variable : AllResolve unit variable_entry.attrs = (refl, (tt, (tt, tt))) in
      let f0 : AllResolve unit (function_entry i 0).attrs = (refl, (tt, (tt, (tt, (tt, (tt, tt)))))) in
      let f1 : AllResolve unit (function_entry i 1).attrs = (refl, (tt, (tt, (tt, (tt, (tt, tt)))))) in
      let f2 : AllResolve unit (function_entry i 2).attrs = (refl, (tt, (tt, (tt, (tt, (tt, tt)))))) in
      let f3 : AllResolve unit (function_entry i 3).attrs = (refl, (tt, (tt, (tt, (tt, (tt, tt)))))) in
      (root, (base, (f0, (f1, (f2, (f3, (variable, tt)))))))

  pub text_ok : (place depth : ℕ) → IsOk (read_unit_text unit (items_seen place depth (unit_items i)))
  text_ok place depth = read_ok unit place depth (unit_items i) resolve
