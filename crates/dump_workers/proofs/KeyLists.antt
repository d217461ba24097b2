-- The keys of a file as a list, and how many of them a table has.
use Rattle.std.specs.Prelude.{◌≡◌, ◌⊎◌, refl, ℕ, zero, suc, ◌+◌, ◌≤◌, ◌<◌, ◌^◌, Bool, true, false, ◌||◌, nat_lt, min, List, [], ◌∷◌, ◌++◌, length, map, Contains, Result, Ok, Err, if◌then◌else◌}
use Rattle.std.proofs.Common.{arith, sym, ap, ◌∙◌, subst, inl, inr, ⊎_elim, true≢false, lt-ltb}
use Rattle.std.proofs.lemmas.Bool.{leb-true, ltb-true}
use mathlib.Core.Logic.{dite}
use native.Mathlib.Decide.{ℕ_discrete}
use Rattle.dw_fields.specs.declared.fault_code.Fault.{Fault}
use Rattle.abbrev_decl.specs.Lookup.{key}
use Rattle.elf_sections.specs.Shapes.{SectionsView}
use Rattle.unit_headers.specs.declared.header.UnitHeader.{UnitHeader}
use Rattle.unit_headers.specs.Headers.{unit_count}
use Rattle.entry_tree.specs.Keys.{IsKeyAmong}
use Rattle.entry_tree.specs.Units.{unit_header, entries_of}
use Rattle.entry_tree.specs.Views.{EntryView}
use Rattle.map_core.specs.declared.entry.Entry.{Entry}
use Rattle.map_core.specs.History.{is_in, IsLegalHistory}
use Rattle.map_core.specs.Calls.{own}
use Rattle.map_core.specs.Passes.{Distinct}
use Rattle.map_core.proofs.CountLemmas.{in_hit, in_miss, inject, keys_distinct, keys_length, keys_of}
use Rattle.map_core.proofs.HistoryLemmas.{test_cases}
use Rattle.map_core.proofs.PassLemmas.{in_append, in_first, in_second}
use Rattle.map_cells.specs.Seen.{PassView}
use Rattle.handle_cache.specs.Handles.{IsWordKey, front_keys, is_spent, own_keys}
use Rattle.handle_cache.specs.Scanned.{word_key}
use Rattle.dump_workers.specs.FileKeys.{IsEntryKey, IsFileKey, IsUnitKey}
use Rattle.dump_workers.specs.TableKeys.{HoldsFile, keys_from, keys_of_entries, keys_of_header, once, small_keys, table_keys, unit_keys, word_keys}

-- # Lists of numbers

pub contains_in : (ks : List ℕ) (k : ℕ) → Contains ks k → is_in k ks ≡ true
contains_in [] k (i, low, is) = absurd (omega (arith, low))
contains_in (m ∷ ms) k (zero, low, is) = in_hit k m ms (sym is)
contains_in (m ∷ ms) k (suc i, low, is) =
    dite (ℕ_discrete k m) (λ same. in_hit k m ms same) (λ isnt. in_miss k m ms isnt ∙ contains_in ms k (i, omega (arith, low), is))

pub in_contains : (ks : List ℕ) (k : ℕ) → is_in k ks ≡ true → Contains ks k
in_contains [] k there = absurd (true≢false (sym there))
in_contains (m ∷ ms) k there =
    dite (ℕ_discrete k m)
    (λ same. (zero, omega arith, sym same))
    (λ isnt. let rest = in_contains ms k (sym (in_miss k m ms isnt) ∙ there) in (suc rest.0, (let low = rest.1 in omega (arith, low)), rest.2))

or_true : (a b : Bool) → (a || b) ≡ true → (a ≡ true) ⊎ (b ≡ true)
or_true true b e = inl refl
or_true false b e = inr e

pub in_either : (k : ℕ) (ks ms : List ℕ) → is_in k (ks ++ ms) ≡ true → (is_in k ks ≡ true) ⊎ (is_in k ms ≡ true)
in_either k ks ms there = or_true (is_in k ks) (is_in k ms) (sym (in_append k ks ms) ∙ there)

-- each once: the same numbers, and none twice
once_hit : (n : ℕ) (ns : List ℕ) → is_in n ns ≡ true → once (n ∷ ns) ≡ once ns
once_hit n ns t = ap (λ (b : Bool). if b then once ns else n ∷ once ns) t

once_miss : (n : ℕ) (ns : List ℕ) → is_in n ns ≡ false → once (n ∷ ns) ≡ n ∷ once ns
once_miss n ns f = ap (λ (b : Bool). if b then once ns else n ∷ once ns) f

once_in : (k : ℕ) (ns : List ℕ) → is_in k (once ns) ≡ is_in k ns
once_in k [] = refl
once_in k (n ∷ ns) = ⊎_elim
    (λ (t : is_in n ns ≡ true). ap (is_in k) (once_hit n ns t) ∙ once_in k ns ∙ dite (ℕ_discrete k n)
    (λ same. ap (λ (x : ℕ). is_in x ns) same ∙ t ∙ sym (in_hit k n ns same))
    (λ isnt. sym (in_miss k n ns isnt)))
    (λ (f : is_in n ns ≡ false). ap (is_in k) (once_miss n ns f) ∙ dite (ℕ_discrete k n)
    (λ same. in_hit k n (once ns) same ∙ sym (in_hit k n ns same))
    (λ isnt. in_miss k n (once ns) isnt ∙ once_in k ns ∙ sym (in_miss k n ns isnt)))
    (test_cases (is_in n ns))

once_distinct : (ns : List ℕ) → Distinct (once ns)
once_distinct [] = tt
once_distinct (n ∷ ns) = ⊎_elim
    (λ (t : is_in n ns ≡ true). subst Distinct (sym (once_hit n ns t)) (once_distinct ns))
    (λ (f : is_in n ns ≡ false). subst Distinct (sym (once_miss n ns f)) (once_in n ns ∙ f, once_distinct ns))
    (test_cases (is_in n ns))

-- # The keys of units

small_hit : (table : ℕ) (e : EntryView) (es : List EntryView) → e.code < 2 ^ 32 → small_keys table (e ∷ es) ≡ key table e.code ∷ small_keys table es
small_hit table e es small = ap (λ (b : Bool). if b then key table e.code ∷ small_keys table es else small_keys table es) (lt-ltb e.code (2 ^ 32) small)

-- those of entries
small_among : (table : ℕ) (es : List EntryView) (k : ℕ) → is_in k (small_keys table es) ≡ true → IsKeyAmong table es k
small_among table [] k there = absurd (true≢false (sym there))
small_among table (e ∷ es) k there = choose (nat_lt e.code (2 ^ 32)) refl (λ behind. small_among table es k behind) there
  where
    choose : (b : Bool) → nat_lt e.code (2 ^ 32) ≡ b → (is_in k (small_keys table es) ≡ true → IsKeyAmong table es k)
        → is_in k (if b then key table e.code ∷ small_keys table es else small_keys table es) ≡ true → IsKeyAmong table (e ∷ es) k
    choose false test rest inside = inr (rest inside)
    choose true test rest inside =
        dite (ℕ_discrete k (key table e.code))
        (λ same. inl (ltb-true e.code (2 ^ 32) test, same))
        (λ isnt. inr (rest (sym (in_miss k (key table e.code) (small_keys table es) isnt) ∙ inside)))

among_small : (table : ℕ) (es : List EntryView) (k : ℕ) → IsKeyAmong table es k → is_in k (small_keys table es) ≡ true
among_small table [] k among = absurd among
among_small table (e ∷ es) k (inl here) = ap (is_in k) (small_hit table e es here.0) ∙ in_hit k (key table e.code) (small_keys table es) here.1
among_small table (e ∷ es) k (inr there) = choose (nat_lt e.code (2 ^ 32)) (among_small table es k there)
  where
    choose : (b : Bool) → is_in k (small_keys table es) ≡ true → is_in k (if b then key table e.code ∷ small_keys table es else small_keys table es) ≡ true
    choose false rest = rest
    choose true rest = in_second k (key table e.code ∷ []) (small_keys table es) rest

-- those of words
word_in : (unit word k : ℕ) → word < 8 → k ≡ word_key unit word → is_in k (word_keys unit) ≡ true
word_in unit zero k inside is = contains_in (word_keys unit) k (0, omega arith, sym is)
word_in unit (suc zero) k inside is = contains_in (word_keys unit) k (1, omega arith, sym is)
word_in unit (suc (suc zero)) k inside is = contains_in (word_keys unit) k (2, omega arith, sym is)
word_in unit (suc (suc (suc zero))) k inside is = contains_in (word_keys unit) k (3, omega arith, sym is)
word_in unit (suc (suc (suc (suc zero)))) k inside is = contains_in (word_keys unit) k (4, omega arith, sym is)
word_in unit (suc (suc (suc (suc (suc zero))))) k inside is = contains_in (word_keys unit) k (5, omega arith, sym is)
word_in unit (suc (suc (suc (suc (suc (suc zero)))))) k inside is = contains_in (word_keys unit) k (6, omega arith, sym is)
word_in unit (suc (suc (suc (suc (suc (suc (suc zero))))))) k inside is = contains_in (word_keys unit) k (7, omega arith, sym is)
word_in unit (suc (suc (suc (suc (suc (suc (suc (suc more)))))))) k inside is = absurd (omega (arith, inside))

in_word : (unit k : ℕ) → is_in k (word_keys unit) ≡ true → IsWordKey unit k
in_word unit k there = of_place (in_contains (word_keys unit) k there)
  where
    of_place : Contains (word_keys unit) k → IsWordKey unit k
    of_place (zero, low, is) = record { word = 0; inside = omega arith; is = sym is }
    of_place ((suc zero), low, is) = record { word = 1; inside = omega arith; is = sym is }
    of_place ((suc (suc zero)), low, is) = record { word = 2; inside = omega arith; is = sym is }
    of_place ((suc (suc (suc zero))), low, is) = record { word = 3; inside = omega arith; is = sym is }
    of_place ((suc (suc (suc (suc zero)))), low, is) = record { word = 4; inside = omega arith; is = sym is }
    of_place ((suc (suc (suc (suc (suc zero))))), low, is) = record { word = 5; inside = omega arith; is = sym is }
    of_place ((suc (suc (suc (suc (suc (suc zero)))))), low, is) = record { word = 6; inside = omega arith; is = sym is }
    of_place ((suc (suc (suc (suc (suc (suc (suc zero))))))), low, is) = record { word = 7; inside = omega arith; is = sym is }
    of_place (suc (suc (suc (suc (suc (suc (suc (suc more))))))), low, is) = absurd (omega (arith, low))

-- those of a unit
header_in : (s : SectionsView) (unit k : ℕ) (e : IsEntryKey s unit k) → is_in k (keys_of_header s (unit_header s unit)) ≡ true
header_in s unit k e =
    ap (λ (r : Result UnitHeader Fault). is_in k (keys_of_header s r)) e.header_is
    ∙ ap (λ (r : Result (List EntryView) Fault). is_in k (keys_of_entries e.header.«abbrev» r)) e.entries_are
    ∙ among_small e.header.«abbrev» e.entries k e.among

in_entries : (s : SectionsView) (unit k : ℕ) (header : UnitHeader) (read : Result (List EntryView) Fault) → unit_header s unit ≡ Ok header → entries_of s header ≡ read
    → is_in k (keys_of_entries header.«abbrev» read) ≡ true → IsEntryKey s unit k
in_entries s unit k header (Ok entries) is are there =
    record { header = header; entries = entries; header_is = is; entries_are = are; among = small_among header.«abbrev» entries k there }
in_entries s unit k header (Err f) is are there = absurd (true≢false (sym there))

in_header : (s : SectionsView) (unit k : ℕ) (read : Result UnitHeader Fault) → unit_header s unit ≡ read → is_in k (keys_of_header s read) ≡ true → IsEntryKey s unit k
in_header s unit k (Ok header) is there = in_entries s unit k header (entries_of s header) is refl there
in_header s unit k (Err f) is there = absurd (true≢false (sym there))

unit_in : (s : SectionsView) (unit k : ℕ) → IsUnitKey s unit k → is_in k (unit_keys s unit) ≡ true
unfolding unit_keys
unit_in s unit k (inl word) = in_first k (word_keys unit) (keys_of_header s (unit_header s unit)) (word_in unit word.word k word.inside word.is)
unit_in s unit k (inr e) = in_second k (word_keys unit) (keys_of_header s (unit_header s unit)) (header_in s unit k e)

in_unit : (s : SectionsView) (unit k : ℕ) → is_in k (unit_keys s unit) ≡ true → IsUnitKey s unit k
unfolding unit_keys
in_unit s unit k there = ⊎_elim
    (λ (word : is_in k (word_keys unit) ≡ true). inl (in_word unit k word))
    (λ (e : is_in k (keys_of_header s (unit_header s unit)) ≡ true). inr (in_header s unit k (unit_header s unit) refl e))
    (in_either k (word_keys unit) (keys_of_header s (unit_header s unit)) there)

-- those of units in a row
from_in : (s : SectionsView) (start n unit k : ℕ) → start ≤ unit → unit < start + n → IsUnitKey s unit k → is_in k (keys_from s start n) ≡ true
from_in s start zero unit k low high uses = absurd (omega (arith, low, high))
from_in s start (suc n) unit k low high uses =
    dite (ℕ_discrete unit start)
    (λ is. in_first k (unit_keys s start) (keys_from s (start + 1) n) (unit_in s start k (subst (λ (u : ℕ). IsUnitKey s u k) is uses)))
    (λ isnt. in_second k (unit_keys s start) (keys_from s (start + 1) n) (from_in s (start + 1) n unit k (omega (arith, low, isnt)) (omega (arith, high)) uses))

record IsKeyFrom (s : SectionsView) (start n k : ℕ) : Type 0 where
  unit : ℕ
  low : start ≤ unit
  high : unit < start + n
  uses : IsUnitKey s unit k

in_from : (s : SectionsView) (start n k : ℕ) → is_in k (keys_from s start n) ≡ true → IsKeyFrom s start n k
in_from s start zero k there = absurd (true≢false (sym there))
in_from s start (suc n) k there = ⊎_elim
    (λ (here : is_in k (unit_keys s start) ≡ true). record { unit = start; low = omega arith; high = omega arith; uses = in_unit s start k here })
    (λ (behind : is_in k (keys_from s (start + 1) n) ≡ true).
    let rest = in_from s (start + 1) n k behind in
    let low = rest.low in let high = rest.high in record { unit = rest.unit; low = omega (arith, low); high = omega (arith, high); uses = rest.uses })
    (in_either k (unit_keys s start) (keys_from s (start + 1) n) there)

-- # Those of a file

pub key_in_table : (s : SectionsView) (k : ℕ) → IsFileKey s k → is_in k (table_keys s) ≡ true
unfolding table_keys
key_in_table s k uses = once_in k (keys_from s 0 (unit_count s.info s.order)) ∙ from_in s 0 (unit_count s.info s.order) uses.unit k (omega arith) (let low = uses.counted in omega (arith, low)) uses.uses

pub in_table_key : (s : SectionsView) (k : ℕ) → is_in k (table_keys s) ≡ true → IsFileKey s k
unfolding table_keys
in_table_key s k there =
    let from = in_from s 0 (unit_count s.info s.order) k (sym (once_in k (keys_from s 0 (unit_count s.info s.order))) ∙ there) in
    record { unit = from.unit; counted = (let high = from.high in omega (arith, high)); uses = from.uses }

pub table_distinct : (s : SectionsView) → Distinct (table_keys s)
unfolding table_keys
table_distinct s = once_distinct (keys_from s 0 (unit_count s.info s.order))

-- # How many of them a pass has

keys_map : (es : List Entry) → keys_of es ≡ map (λ (e : Entry). e.key) es
keys_map [] = refl
keys_map (e ∷ es) = ap (λ (ks : List ℕ). e.key ∷ ks) (keys_map es)

module _ (s : SectionsView) (p : PassView) (fits : ℕ → ℕ → Type 0) (legal : IsLegalHistory fits p.knows.front) (whole : own p.knows ≡ p.knows.front) (holds : HoldsFile s p) where
  front : List ℕ
  front = keys_of p.knows.front

  in_front : (k : ℕ) → Contains (front_keys p) k → is_in k (keys_of p.knows.front) ≡ true
  in_front k c = ap (is_in k) (keys_map p.knows.front) ∙ contains_in (front_keys p) k c

  of_file : (k : ℕ) → is_in k (keys_of p.knows.front) ≡ true → IsFileKey s k
  of_file k there =
      let mine : is_in k (own_keys p) ≡ true = ap (λ (es : List Entry). is_in k (map (λ (e : Entry). e.key) es)) whole ∙ ap (is_in k) (sym (keys_map p.knows.front)) ∙ there in
      holds.only k (in_contains (own_keys p) k mine)

  most : length p.knows.front ≤ length (table_keys s)
  most =
      let n : ℕ = length (keys_of p.knows.front) in
      let t : ℕ = length (table_keys s) in
      let few : n ≤ t = inject (keys_of p.knows.front) (table_keys s) (keys_distinct fits p.knows.front legal) (λ k there. key_in_table s k (of_file k there)) in
      subst (λ (x : ℕ). x ≤ t) (keys_length p.knows.front) few

  all : is_spent p ≡ false → length (table_keys s) ≤ length p.knows.front
  all room =
      let n : ℕ = length (keys_of p.knows.front) in
      let t : ℕ = length (table_keys s) in
      let few : t ≤ n = inject (table_keys s) (keys_of p.knows.front) (table_distinct s) (λ k there. ⊎_elim
      (λ (here : Contains (front_keys p) k). in_front k here)
      (λ (spent : is_spent p ≡ true). absurd (true≢false (sym spent ∙ room)))
      (holds.each k (in_table_key s k there))) in
      subst (λ (x : ℕ). t ≤ x) (keys_length p.knows.front) few

  pub size_held : min (length (own p.knows)) p.knows.layout.capacity ≡ min (length (table_keys s)) p.knows.layout.capacity
  size_held =
      let n : ℕ = length p.knows.front in
      let t : ℕ = length (table_keys s) in
      let room : ℕ = p.knows.layout.capacity in
      let mine : length (own p.knows) ≡ n = ap length whole in
      let few : n ≤ t = most in
      ap (λ (x : ℕ). min x room) mine ∙ ⊎_elim
      (λ (spent : is_spent p ≡ true). let full : room ≤ n = leb-true room n spent in let goal : min n room ≡ min t room = omega arith in goal)
      (λ (left : is_spent p ≡ false). let others : t ≤ n = all left in let goal : min n room ≡ min t room = omega arith in goal)
      (test_cases (is_spent p))
