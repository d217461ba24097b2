-- Laws of texts that were made as entries were read.
use Rattle.std.specs.Prelude.{◌≡◌, refl, ℕ, ◌+◌, ◌<◌, ◌^◌, Bool, true, List, [], length, Result, Ok, Err, IfOk, OnOk}
use Rattle.std.proofs.Common.{arith, sym, ap, ◌∙◌, subst}
use Rattle.dw_fields.specs.declared.fault_code.Fault.{Fault}
use Rattle.dw_fields.specs.Reading.{◌>>=◌}
use Rattle.entry_tree.proofs.KeptLaws.{all_kept}
use Rattle.entry_tree.specs.Kept.{kept_entries}
use Rattle.entry_tree.specs.Units.{entries_of}
use Rattle.unit_headers.specs.declared.refusal.UnitRefusal.{UnitRefusal}
use Rattle.unit_headers.specs.declared.refusal.UnitRefusal.TheVariants.{Refused, OutOfMemory}
use Rattle.unit_headers.specs.Refusals.{Refuses}
use Rattle.entry_tree.specs.Keys.{GainsOnly, IsKeyAmong, KeysNoted}
use Rattle.entry_tree.specs.Taken.{Takes, TookEntries, with_attr}
use Rattle.entry_tree.specs.Views.{AttrView, EntryView}
use Rattle.unit_text.proofs.KeptLists.{kept_refused, lists_of_read}
use Rattle.unit_text.specs.Lists.{attr_lists, entry_lists, is_list_attribute, lists_text}
use Rattle.unit_text.specs.MadeLaws.{added_attr, joined_nothing, nothing_joined, texts_more}
use Rattle.unit_text.specs.Pieces.{Stopped, Text, joined, texts_of}
use Rattle.unit_text.specs.UnitLine.{unit_line}
use Rattle.unit_text.specs.UnitView.{UnitView}
use Rattle.unit_text.specs.Units.{entries_text, entry_text, read_unit_text}
use Rattle.unit_text.specs.UnitStreams.{AddedPiece, AddedTexts, BeganLists, Made, MadeLists, count_of_entries, streamed_lists, streamed_unit}

pub on_ok : {E P Q : Type 0} (r : Result (Unit {0}) E) → (P → Q) → OnOk r P → OnOk r Q
on_ok (Ok u) f p = f p
on_ok (Err e) f p = tt

-- what holds whatever the answer is
pub on_any : {A E P : Type 0} (r : Result A E) → P → OnOk r P
on_any (Ok x) p = p
on_any (Err e) p = tt

-- # Of entries that were taken

-- All entries of a unit were read and taken.
pub record TookAll (taken : List EntryView → Type 0) (table : ℕ) (seen : List ℕ) (spent : Bool) (placed grown : List ℕ)
    (read : Result (List EntryView) Fault) : Type 0 where
  pub entries : List EntryView
  pub is : read ≡ Ok entries
  pub all : TookEntries taken table seen spent placed grown entries

module _ (taken : List EntryView → Type 0) (table : ℕ) (seen : List ℕ) (spent : Bool) (placed grown : List ℕ) where
  pub takes_all : (read : Result (List EntryView) Fault) → Takes {U = Unit {0}} (Ok tt) read (TookEntries taken table seen spent placed grown)
      → TookAll taken table seen spent placed grown read
  takes_all (Ok es) t = record { entries = es; is = refl; all = t }
  takes_all (Err f) t = absurd t

  pub took_all : (read : Result (List EntryView) Fault)
      → Takes {U = Unit {0}} (Ok tt) (kept_entries (λ name. true) read) (TookEntries taken table seen spent placed grown)
      → TookAll taken table seen spent placed grown read
  took_all read t =
      takes_all read
      (subst (λ (r : Result (List EntryView) Fault). Takes {U = Unit {0}} (Ok tt) r (TookEntries taken table seen spent placed grown)) (all_kept read) t)

  pub taken_keys : (read : Result (List EntryView) Fault) → TookAll taken table seen spent placed grown read
      → IfOk read (λ es. GainsOnly (IsKeyAmong table es) placed grown)
  taken_keys read t = rw t.is t.all.keys

  pub taken_noted : (read : Result (List EntryView) Fault) → TookAll taken table seen spent placed grown read → IfOk read (KeysNoted seen spent table)
  taken_noted read t = rw t.is t.all.noted

-- # The text of a unit

module _ (x y : Made) (table : ℕ) (seen : List ℕ) (spent : Bool) (placed grown : List ℕ) where
  -- the text of the entries behind the unit's line is that of the unit
  pub taken_text : (u : UnitView) → x.unit ≡ u → x.text ≡ Ok (unit_line u.header)
      → TookAll (AddedTexts entry_text x y) table seen spent placed grown (entries_of u.sections u.header) → y.text ≡ streamed_unit u
  unfolding streamed_unit read_unit_text entries_text
  taken_text u unit start t =
      t.all.took.text ∙ ap (λ v. joined x.text (texts_of (entry_text v) t.entries)) unit ∙ ap (λ v. joined v (texts_of (entry_text u) t.entries)) start
      ∙ sym (ap (λ r. r >>= read_unit_text u) t.is)

  -- as many entries were counted as were read
  pub taken_count : (read : Result (List EntryView) Fault) → x.entries ≡ 0 → TookAll (AddedTexts entry_text x y) table seen spent placed grown read
      → IfOk read (λ es. length es < 2 ^ 32) → y.entries ≡ count_of_entries read
  taken_count read start t few =
      let n : ℕ = length t.entries in
      let short : n < 2 ^ 32 = rw t.is at few in
      let counted : y.entries ≡ x.entries + n = t.all.took.entries (omega (arith, start, short)) in
      let all : y.entries ≡ n = omega (arith, start, counted) in
      all ∙ sym (ap count_of_entries t.is)

-- a refusal of an entry is that of the text
refused_first : (e : UnitRefusal) (read : Result (List EntryView) Fault) (text : List EntryView → Text) → Refuses e read → Refuses e (read >>= text)
refused_first (Refused f) read text is = ap (λ r. r >>= text) is
refused_first OutOfMemory read text is = tt

pub unit_refused : (u : UnitView) (e : UnitRefusal) → Refuses e (kept_entries (λ name. true) (entries_of u.sections u.header)) → Refuses e (streamed_unit u)
unfolding streamed_unit
unit_refused u e is =
    refused_first e (entries_of u.sections u.header) (read_unit_text u)
    (subst (λ (r : Result (List EntryView) Fault). Refuses e r) (all_kept (entries_of u.sections u.header)) is)

pub counted : {E : Type 0} (r : Result ℕ E) (n m : ℕ) → IfOk r (λ count. count ≡ n) → n ≡ m → IfOk r (λ count. count ≡ m)
counted (Ok count) n m is same = is ∙ same
counted (Err e) n m is same = tt

-- # The lists of a unit

pub lists_begun : (x z : MadeLists) (e : EntryView) → e.attrs ≡ [] → z.made ≡ x.made → z.place ≡ e.place → BeganLists x z e
unfolding entry_lists texts_of
lists_begun x z e none same place = record {
  lists = subst (λ (m : Made). AddedPiece x.made m (entry_lists x.made.unit e)) (sym same)
      (record { unit = refl; text = sym (rw none (joined_nothing x.made.text)); entries = refl });
  place = place;
}

lists_more : (u : UnitView) (place : ℕ) (e : EntryView) (a : AttrView) → place ≡ e.place
    → entry_lists u (with_attr e a) ≡ joined (entry_lists u e) (attr_lists u place a)
unfolding entry_lists
lists_more u place e a same = texts_more (attr_lists u e.place) e.attrs a ∙ ap (λ n. joined (texts_of (attr_lists u e.place) e.attrs) (attr_lists u n a)) (sym same)

-- one attribute more
pub lists_added : {E : Type 0} (r : Result (Unit {0}) E) (y z : MadeLists) (a : AttrView) → OnOk r (AddedPiece y.made z.made (attr_lists y.made.unit y.place a))
    → OnOk r (z.place ≡ y.place) → OnOk r ((x : MadeLists) (e : EntryView) → BeganLists x y e → BeganLists x z (with_attr e a))
lists_added (Ok u) y z a piece place = λ x e p. record {
  lists = added_attr entry_lists x.made y.made z.made e (with_attr e a) (attr_lists y.made.unit y.place a) (lists_more y.made.unit y.place e a p.place) p.lists piece;
  place = place ∙ p.place;
}
lists_added (Err f) y z a piece place = tt

module _ (x y : Made) (table : ℕ) (seen : List ℕ) (spent : Bool) (placed grown : List ℕ) where
  -- the lists of all attributes that may have one are those of the unit
  pub taken_lists : (u : UnitView) → x.unit ≡ u → x.text ≡ Ok []
      → TookAll (AddedTexts entry_lists x y) table seen spent placed grown (kept_entries is_list_attribute (entries_of u.sections u.header)) → y.text ≡ streamed_lists u
  unfolding streamed_lists lists_text
  taken_lists u unit start t =
      t.all.took.text ∙ ap (λ v. joined x.text (texts_of (entry_lists v) t.entries)) unit ∙ ap (λ v. joined v (texts_of (entry_lists u) t.entries)) start
      ∙ nothing_joined (texts_of (entry_lists u) t.entries) ∙ sym (lists_of_read u (entries_of u.sections u.header) t.entries t.is)

pub lists_refused : (u : UnitView) (e : UnitRefusal) → Refuses e (kept_entries is_list_attribute (entries_of u.sections u.header)) → Stopped e (streamed_lists u)
unfolding streamed_lists
lists_refused u e is = kept_refused u (entries_of u.sections u.header) e is
