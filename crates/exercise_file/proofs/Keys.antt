-- The keys of the generated file are those of its list, each once, and fewer than its table has room for.
use Rattle.std.specs.Prelude.{◌≡◌, ℕ, zero, suc, ◌+◌, ◌*◌, ◌/◌, ◌<◌, ◌≤◌, ◌^◌, true, List, length, Ok, refl}
use Rattle.std.proofs.Common.{arith, ap, sym, subst, ◌∙◌, inl, inr, ⊎_elim, length-append}
use Rattle.dw_fields.specs.declared.byte_order.Order.TheVariants.{Little}
use Rattle.abbrev_decl.specs.Lookup.{key}
use Rattle.unit_headers.specs.declared.header.UnitHeader.{UnitHeader}
use Rattle.unit_headers.specs.Headers.{unit_count}
use Rattle.entry_tree.specs.Keys.{IsKeyAmong, IsKeyOf}
use Rattle.entry_tree.specs.Units.{entries_of, unit_header}
use Rattle.entry_tree.specs.Views.{EntryView}
use Rattle.map_core.specs.History.{is_in}
use Rattle.map_core.specs.Passes.{Distinct}
use Rattle.map_core.proofs.CountLemmas.{inject}
use Rattle.map_core.proofs.JoinLemmas.{in_parts}
use Rattle.map_core.proofs.PassLemmas.{in_first, in_second}
use Rattle.handle_cache.specs.Handles.{IsWordKey}
use Rattle.handle_cache.specs.Scanned.{room_for, word_key}
use Rattle.dump_workers.specs.FileKeys.{AreSmallCodes, HasSmallCodes, IsEntryKey, IsFileKey, IsUnitKey}
use Rattle.exercise_file.specs.Generated.{info, pieces, table_count, table_place}
use Rattle.exercise_file.specs.Keys.{AreAllKeys, declaration_keys, generated_key_count, generated_keys, words_of_unit}
use Rattle.exercise_file.specs.Views.{generated_sections}
use Rattle.exercise_file.proofs.Entries.{entries_read}
use Rattle.exercise_file.proofs.Headers.{count_read, header, header_read}
use Rattle.exercise_file.proofs.Items.{items_seen}
use Rattle.exercise_file.proofs.KeyLists.{IsOneOf, RisesTo, in_one_of, in_pieces, one_of_in, out_pieces, pieces_rise, rises_distinct, rises_lower, rises_then}
use Rattle.exercise_file.proofs.Lengths.{few_tables, length-declarations, length-pieces, table_of_unit}
use Rattle.exercise_file.proofs.UnitItems.{unit_items}

declarations_rise : (t : ℕ) → RisesTo (55 * t * 2 ^ 32) (declaration_keys t) (55 * (t + 1) * 2 ^ 32)
declarations_rise t = (omega arith, (omega arith, (omega arith, (omega arith, omega arith))))

words_rise : (unit : ℕ) → RisesTo (word_key unit 0) (words_of_unit unit) (word_key (unit + 1) 0)
words_rise unit = (omega arith, (omega arith, (omega arith, (omega arith, (omega arith, (omega arith, (omega arith, (omega arith, omega arith))))))))

keys_rise : (n : ℕ) → n ≤ 9999 → RisesTo 0 (generated_keys n) (word_key (0 + n) 0)
unfolding generated_keys
keys_rise n few =
    let tables = pieces_rise declaration_keys (λ t. 55 * t * 2 ^ 32) declarations_rise 0 (table_count n) in
    let words = pieces_rise words_of_unit (λ unit. word_key unit 0) words_rise 0 n in
    let below : 55 * (0 + table_count n) * 2 ^ 32 ≤ word_key 0 0 = omega (arith, few_tables n few) in
    rises_then (55 * 0 * 2 ^ 32) (55 * (0 + table_count n) * 2 ^ 32) (word_key (0 + n) 0) (pieces declaration_keys (table_count n)) (pieces words_of_unit n) tables
    (rises_lower (55 * (0 + table_count n) * 2 ^ 32) (word_key 0 0) (word_key (0 + n) 0) (pieces words_of_unit n) below words)

-- none stands twice
pub keys_distinct : (n : ℕ) → n ≤ 9999 → Distinct (generated_keys n)
keys_distinct n few = rises_distinct 0 (word_key (0 + n) 0) (generated_keys n) (keys_rise n few)

pub length-keys : (n : ℕ) → length (generated_keys n) ≡ generated_key_count n
unfolding generated_keys
length-keys n =
    length-append (pieces declaration_keys (table_count n)) (pieces words_of_unit n)
    ∙ omega (arith, length-pieces declaration_keys 4 (λ t. refl) (table_count n), length-pieces words_of_unit 8 (λ unit. refl) n)

one_word : (unit word : ℕ) → word < 8 → IsOneOf (word_key unit word) (words_of_unit unit)
one_word unit zero inside = inl refl
one_word unit (suc zero) inside = inr (inl refl)
one_word unit (suc (suc zero)) inside = inr (inr (inl refl))
one_word unit (suc (suc (suc zero))) inside = inr (inr (inr (inl refl)))
one_word unit (suc (suc (suc (suc zero)))) inside = inr (inr (inr (inr (inl refl))))
one_word unit (suc (suc (suc (suc (suc zero))))) inside = inr (inr (inr (inr (inr (inl refl)))))
one_word unit (suc (suc (suc (suc (suc (suc zero)))))) inside = inr (inr (inr (inr (inr (inr (inl refl))))))
one_word unit (suc (suc (suc (suc (suc (suc (suc zero))))))) inside = inr (inr (inr (inr (inr (inr (inr (inl refl)))))))
one_word unit (suc (suc (suc (suc (suc (suc (suc (suc word)))))))) inside = absurd (omega arith)

word_in : (unit k : ℕ) → IsWordKey unit k → is_in k (words_of_unit unit) ≡ true
word_in unit k w = one_of_in k (words_of_unit unit) (subst (λ j. IsOneOf j (words_of_unit unit)) (sym w.is) (one_word unit w.word w.inside))

word_at : (unit k : ℕ) → IsOneOf k (words_of_unit unit) → IsWordKey unit k
word_at unit k (inl is) = record { word = 0; inside = omega arith; is = is }
word_at unit k (inr (inl is)) = record { word = 1; inside = omega arith; is = is }
word_at unit k (inr (inr (inl is))) = record { word = 2; inside = omega arith; is = is }
word_at unit k (inr (inr (inr (inl is)))) = record { word = 3; inside = omega arith; is = is }
word_at unit k (inr (inr (inr (inr (inl is))))) = record { word = 4; inside = omega arith; is = is }
word_at unit k (inr (inr (inr (inr (inr (inl is)))))) = record { word = 5; inside = omega arith; is = is }
word_at unit k (inr (inr (inr (inr (inr (inr (inl is))))))) = record { word = 6; inside = omega arith; is = is }
word_at unit k (inr (inr (inr (inr (inr (inr (inr (inl is)))))))) = record { word = 7; inside = omega arith; is = is }
word_at unit k (inr (inr (inr (inr (inr (inr (inr (inr none)))))))) = absurd none

word_of : (unit k : ℕ) → is_in k (words_of_unit unit) ≡ true → IsWordKey unit k
word_of unit k h = word_at unit k (in_one_of k (words_of_unit unit) h)

-- the key of a code in the table of a unit
table_key : (unit t k code : ℕ) → t ≡ unit / 10 → code < 2 ^ 32 → k ≡ key (55 * t) code → IsKeyOf (table_place unit) code k
table_key unit t k code table small is = (small, is ∙ ap (λ j. key (55 * j) code) table)

one_among : (unit t k place : ℕ) → t ≡ unit / 10 → IsOneOf k (declaration_keys t) → IsKeyAmong (table_place unit) (items_seen place 0 (unit_items unit)) k
one_among unit t k place table (inl is) = inl (table_key unit t k 1 table (omega arith) is)
one_among unit t k place table (inr (inl is)) = inr (inl (table_key unit t k 2 table (omega arith) is))
one_among unit t k place table (inr (inr (inl is))) = inr (inr (inl (table_key unit t k 3 table (omega arith) is)))
one_among unit t k place table (inr (inr (inr (inl is)))) = inr (inr (inr (inr (inr (inr (inl (table_key unit t k 4 table (omega arith) is)))))))
one_among unit t k place table (inr (inr (inr (inr none)))) = absurd none

-- a declaration's key is that of an entry of a unit that uses the table
entry_among : (unit t k place : ℕ) → t ≡ unit / 10 → is_in k (declaration_keys t) ≡ true → IsKeyAmong (table_place unit) (items_seen place 0 (unit_items unit)) k
entry_among unit t k place table h = one_among unit t k place table (in_one_of k (declaration_keys t) h)

among_one : (unit k place : ℕ) → IsKeyAmong (table_place unit) (items_seen place 0 (unit_items unit)) k → IsOneOf k (declaration_keys (unit / 10))
among_one unit k place (inl is) = inl is.1
among_one unit k place (inr (inl is)) = inr (inl is.1)
among_one unit k place (inr (inr (inl is))) = inr (inr (inl is.1))
among_one unit k place (inr (inr (inr (inl is)))) = inr (inr (inl is.1))
among_one unit k place (inr (inr (inr (inr (inl is))))) = inr (inr (inl is.1))
among_one unit k place (inr (inr (inr (inr (inr (inl is)))))) = inr (inr (inl is.1))
among_one unit k place (inr (inr (inr (inr (inr (inr (inl is))))))) = inr (inr (inr (inl is.1)))
among_one unit k place (inr (inr (inr (inr (inr (inr (inr none))))))) = absurd none

among_in : (unit k place : ℕ) → IsKeyAmong (table_place unit) (items_seen place 0 (unit_items unit)) k → is_in k (declaration_keys (unit / 10)) ≡ true
among_in unit k place a = one_of_in k (declaration_keys (unit / 10)) (among_one unit k place a)

module _ (n : ℕ) (few : n ≤ 9999) where
  -- what was read is what is read
  same_header : (unit : ℕ) (h : UnitHeader) → unit < n → unit_header (generated_sections n) unit ≡ Ok h → header unit ≡ h
  same_header unit h inside is = let both = sym (header_read n unit few inside) ∙ is in cc

  same_entries : (unit : ℕ) (h : UnitHeader) (entries : List EntryView) → unit < n → header unit ≡ h → entries_of (generated_sections n) h ≡ Ok entries
      → items_seen (143 * unit + 12) 0 (unit_items unit) ≡ entries
  same_entries unit h entries inside header_is is =
      let both = sym (entries_read n unit few inside) ∙ ap (entries_of (generated_sections n)) header_is ∙ is in cc

  counted : (unit : ℕ) → unit < unit_count (info n) Little → unit < n
  counted unit inside = omega (arith, count_read n few)

  counts : (unit : ℕ) → unit < n → unit < unit_count (info n) Little
  counts unit inside = omega (arith, count_read n few)

  -- no code of an entry is 2^32 or more
  pub small_codes : HasSmallCodes (generated_sections n)
  small_codes unit h entries inside header_is entries_are =
      let below = counted unit inside in
      subst AreSmallCodes (same_entries unit h entries below (same_header unit h below header_is) entries_are)
      (omega arith, (omega arith, (omega arith, (omega arith, (omega arith, (omega arith, (omega arith, tt)))))))

  unit_key_in : (unit k : ℕ) → unit < n → IsUnitKey (generated_sections n) unit k → is_in k (generated_keys n) ≡ true
  unfolding generated_keys
  unit_key_in unit k inside uses =
      ⊎_elim
      (λ (w : IsWordKey unit k). in_second k (pieces declaration_keys (table_count n)) (pieces words_of_unit n)
      (in_pieces words_of_unit n unit k inside (word_in unit k w)))
      (λ (e : IsEntryKey (generated_sections n) unit k). in_first k (pieces declaration_keys (table_count n)) (pieces words_of_unit n)
      (in_pieces declaration_keys (table_count n) (unit / 10) k (table_of_unit n unit inside)
      (let headers = same_header unit e.header inside e.header_is in
      let entries = same_entries unit e.header e.entries inside headers e.entries_are in
      among_in unit k (143 * unit + 12) (subst (λ (h : UnitHeader). IsKeyAmong h.«abbrev» (items_seen (143 * unit + 12) 0 (unit_items unit)) k) (sym headers)
      (subst (λ es. IsKeyAmong e.header.«abbrev» es k) (sym entries) e.among)))))
      uses

  -- each key of the file is in the list
  pub file_key_in : (k : ℕ) → IsFileKey (generated_sections n) k → is_in k (generated_keys n) ≡ true
  file_key_in k f = unit_key_in f.unit k (counted f.unit f.counted) f.uses

  declaration_used : (t k : ℕ) → t < table_count n → is_in k (declaration_keys t) ≡ true → IsFileKey (generated_sections n) k
  declaration_used t k inside h =
      let owner : 10 * t < n = omega arith in
      let table : t ≡ 10 * t / 10 = omega arith in
      record {
        unit = 10 * t;
        counted = counts (10 * t) owner;
        uses = inr (record {
          header = header (10 * t);
          entries = items_seen (143 * (10 * t) + 12) 0 (unit_items (10 * t));
          header_is = header_read n (10 * t) few owner;
          entries_are = entries_read n (10 * t) few owner;
          among = entry_among (10 * t) t k (143 * (10 * t) + 12) table h;
        });
      }

  -- and each of the list is a key of the file
  pub in_file : (k : ℕ) → is_in k (generated_keys n) ≡ true → IsFileKey (generated_sections n) k
  unfolding generated_keys
  in_file k h =
      ⊎_elim
      (λ (there : is_in k (pieces declaration_keys (table_count n)) ≡ true). let found = out_pieces declaration_keys (table_count n) k there in declaration_used found.0 k found.1 found.2)
      (λ (there : is_in k (pieces words_of_unit n) ≡ true). let found = out_pieces words_of_unit n k there in
      record { unit = found.0; counted = counts found.0 found.1; uses = inl (word_of found.0 k found.2) })
      (in_parts k (pieces declaration_keys (table_count n)) (pieces words_of_unit n) h)

  pub all_keys : AreAllKeys n (generated_keys n)
  all_keys = record { once = keys_distinct n few; only = in_file; each = file_key_in }

  -- so any list of the file's keys is as long
  pub key_count_is : (keys : List ℕ) → AreAllKeys n keys → length keys ≡ generated_key_count n
  key_count_is keys are =
      let most = inject keys (generated_keys n) are.once (λ k h. file_key_in k (are.only k h)) in
      let least = inject (generated_keys n) keys (keys_distinct n few) (λ k h. are.each k (in_file k h)) in
      omega (arith, most, least, length-keys n)

  -- the table has room for more
  pub room_left : generated_key_count n < room_for (generated_sections n)
  room_left =
      let tables = few_tables n few in
      let place : 55 * table_count n / 5 ≡ 11 * table_count n = omega arith in
      rw (count_read n few, length-declarations n, place) (omega (arith, tables))
