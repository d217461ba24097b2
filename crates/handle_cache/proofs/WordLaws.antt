-- The eight words of a unit tell its facts.
use Rattle.std.proofs.Common.{◌≡◌, ℕ, zero, suc, ◌+◌, ◌-◌, ◌*◌, ◌/◌, ◌%◌, ◌^◌, ◌<◌, Bool, true, false, if◌then◌else◌, List, [], ◌∷◌, length, Option, Some, None, IfSome, Result, Ok, Err, refl, sym, ap, subst, ◌∙◌, arith}
use mathlib.Core.Logic.{dite}
use native.Mathlib.Decide.{ℕ_discrete}
use Rattle.std.specs.Prelude.{◌==◌, slice_get, slice_index, slice_set}
use Rattle.std.proofs.lemmas.Bool.{lt-ltb, ltb-true}
use Rattle.std.proofs.lemmas.List.{get_or-set_same, get_or-set_other}
use Rattle.dw_fields.specs.declared.fault_code.Fault.{Fault}
use Rattle.form_values.specs.declared.raw.UnitFacts.{UnitFacts}
use Rattle.entry_tree.specs.Facts.{FactsFit}
use Rattle.entry_tree.specs.Units.{unit_facts}
use Rattle.map_core.specs.Machine.{IsWord}
use Rattle.handle_cache.specs.Handles.{HandleView, IsOpened, sections_in}
use Rattle.handle_cache.specs.Scanned.{FitsFile, scanned_in, word_key, word_value}
use Rattle.handle_cache.specs.Words.{address_of_halves, fact_of_word, facts_of_words, has_64_bits, high_half, low_half, word_of_fact, words_of_facts}
use Rattle.handle_cache.proofs.Scans.{scanned_of, word_scanned}

not_one : (n : ℕ) → (n + 2) == 1 ≡ false
not_one n = grind arith

fact_back : (fact : Option ℕ) → fact_of_word (word_of_fact fact) ≡ fact
unfolding fact_of_word word_of_fact
fact_back None = refl
fact_back (Some n) = rw (not_one n) (ap Some (let same : n + 2 - 2 ≡ n = omega arith in same))

field_back : (fact : Option ℕ) (w : ℕ) → Some (word_of_fact fact) ≡ Some w → fact_of_word w ≡ fact
field_back fact w e = let same : word_of_fact fact ≡ w = cc in subst (λ (x : ℕ). fact_of_word x ≡ fact) same (fact_back fact)

whole : (n : ℕ) → n < 2 ^ 64 → (n / 2 ^ 32 * 2 ^ 32 % 2 ^ 64 + n % 2 ^ 32) % 2 ^ 64 ≡ n
whole n small = omega arith

halves_back : (address : Option ℕ) → has_64_bits address ≡ true → address_of_halves (low_half address) (high_half address) ≡ address
unfolding address_of_halves low_half high_half
halves_back None fits = refl
halves_back (Some n) fits = ap Some (whole n (ltb-true n (2 ^ 64) fits))

module _ (facts : UnitFacts) (words : List ℕ) (at : (word : ℕ) → word < 8 → slice_get (words_of_facts facts) word ≡ Some (slice_index words word)) where
  word_at : (word w : ℕ) → word < 8 → slice_get (words_of_facts facts) word ≡ Some w → Some w ≡ Some (slice_index words word)
  word_at word w inside is = sym is ∙ at word inside

  pub words_tell : has_64_bits facts.low_pc ≡ true → facts_of_words words ≡ facts
  unfolding facts_of_words words_of_facts
  words_tell fits =
      let text = field_back facts.bases.text (slice_index words 0) (at 0 (omega arith)) in
      let address = field_back facts.bases.address (slice_index words 1) (at 1 (omega arith)) in
      let ranges = field_back facts.bases.ranges (slice_index words 2) (at 2 (omega arith)) in
      let locations = field_back facts.bases.locations (slice_index words 3) (at 3 (omega arith)) in
      let low = field_back (low_half facts.low_pc) (slice_index words 4) (at 4 (omega arith)) in
      let high = field_back (high_half facts.low_pc) (slice_index words 5) (at 5 (omega arith)) in
      let line = field_back facts.line (slice_index words 6) (at 6 (omega arith)) in
      let root_end = field_back facts.root_end (slice_index words 7) (at 7 (omega arith)) in
      let low_pc : address_of_halves (fact_of_word (slice_index words 4)) (fact_of_word (slice_index words 5)) ≡ facts.low_pc
      = (λ i. address_of_halves (low i) (high i)) ∙ halves_back facts.low_pc fits in
      λ i. record {
        bases = record { text = text i; address = address i; ranges = ranges i; locations = locations i };
        low_pc = low_pc i;
        line = line i;
        root_end = root_end i;
      }

told_facts : (b : Bool) (facts : UnitFacts) (words : List ℕ) → has_64_bits facts.low_pc ≡ b
    → ((word : ℕ) → word < 8 → (if b then slice_get (words_of_facts facts) word else None) ≡ Some (slice_index words word)) → facts ≡ facts_of_words words
told_facts true facts words fits at = sym (words_tell facts words at fits)
told_facts false facts words fits at = let never : None ≡ Some (slice_index words 0) = at 0 (omega arith) in absurd (cc)

told_words : (r : Result UnitFacts Fault) (words : List ℕ) → ((word : ℕ) → word < 8 → word_value r word ≡ Some (slice_index words word)) → r ≡ Ok (facts_of_words words)
told_words (Err f) words at = let never : None ≡ Some (slice_index words 0) = at 0 (omega arith) in absurd (cc)
told_words (Ok facts) words at = ap Ok (told_facts (has_64_bits facts.low_pc) facts words refl at)

fits_64 : (end : ℕ) (facts : UnitFacts) → FactsFit end facts → has_64_bits facts.low_pc ≡ true
fits_64 end facts fit = address_64 facts.low_pc fit.low_pc where
  address_64 : (address : Option ℕ) → IfSome address (λ n. n < 2 ^ 64) → has_64_bits address ≡ true
  address_64 None small = refl
  address_64 (Some n) small = lt-ltb n (2 ^ 64) small

get_within : (xs : List ℕ) (i : ℕ) → i < length xs → slice_get xs i ≡ Some (slice_index xs i)
get_within [] i inside = absurd (omega arith)
get_within (x ∷ xs) zero inside = refl
get_within (x ∷ xs) (suc i) inside = get_within xs i (omega arith)

eight_words : (facts : UnitFacts) → length (words_of_facts facts) ≡ 8
unfolding words_of_facts
eight_words facts = refl

module _ (h : HandleView) (opened : IsOpened h) (unit : ℕ) where
  at_word : (word : ℕ) → word < 8 → scanned_in (sections_in h) (word_key unit word) ≡ word_value (unit_facts (sections_in h) unit) word
  at_word word inside = word_scanned (sections_in h) unit word inside

  -- eight words that fit the file tell the unit's facts
  pub words_found : (words : List ℕ) → ((word : ℕ) → word < 8 → FitsFile h.file (word_key unit word) (slice_index words word)) → unit_facts (sections_in h) unit ≡ Ok (facts_of_words words)
  words_found words fits =
      told_words (unit_facts (sections_in h) unit) words
      (λ word inside. sym (at_word word inside) ∙ sym (scanned_of h.file h.elf (word_key unit word) opened.elf) ∙ fits word inside)

  -- the words of the unit's facts fit the file
  pub words_fit : (end : ℕ) (facts : UnitFacts) → unit_facts (sections_in h) unit ≡ Ok facts → FactsFit end facts → (word : ℕ) → word < 8
      → FitsFile h.file (word_key unit word) (slice_index (words_of_facts facts) word)
  words_fit end facts is fit word inside =
      let within : word < length (words_of_facts facts) = subst (λ (n : ℕ). word < n) (sym (eight_words facts)) inside in
      let value : word_value (Ok facts) word ≡ Some (slice_index (words_of_facts facts) word)
      = rw (fits_64 end facts fit) (get_within (words_of_facts facts) word within) in
      scanned_of h.file h.elf (word_key unit word) opened.elf ∙ (at_word word inside ∙ (ap (λ (r : Result UnitFacts Fault). word_value r word) is ∙ value))

abbrev pub AllWords : List ℕ → Type 0
AllWords [] = Unit {0}
AllWords (x ∷ xs) = IsWord x × AllWords xs

pub each_word : (xs : List ℕ) → AllWords xs → (i : ℕ) → i < length xs → IsWord (slice_index xs i)
each_word [] all i inside = absurd (omega arith)
each_word (x ∷ xs) all zero inside = all.0
each_word (x ∷ xs) all (suc i) inside = each_word xs all.1 i (omega arith)

-- what was written at the end of the words so far, and what stands before it
pub values_more : (P : ℕ → ℕ → Type 0) (words : List ℕ) (n x : ℕ) → n < length words → ((i : ℕ) → i < n → P i (slice_index words i)) → P n x
    → (i : ℕ) → i < n + 1 → P i (slice_index (slice_set words n x) i)
values_more P words n x inside before this i within =
    dite (ℕ_discrete n i)
    (λ is. subst (λ (k : ℕ). P k (slice_index (slice_set words n x) k)) is (subst (P n) (sym (get_or-set_same words n x 0 inside)) this))
    (λ isnt. subst (P i) (sym (get_or-set_other words n i x 0 (λ e. isnt (sym e)))) (before i (omega (arith, isnt))))
