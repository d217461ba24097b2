-- What the matches of a parse mean.
use Rattle.std.proofs.Common.{◌≡◌, ◌∙◌, ◌≤◌, ◌==◌, ℕ, Bool, true, false, true≢false, zero, suc, refl, sym, ap, arith, List, [], ◌∷◌, length, Option, Some, None, Result, Ok, codes, is_ok, nat_le, option_map, slice_get, unwrap_or}
use Rattle.std.specs.Result.{result_unwrap_or}
use Rattle.clap.specs.Words.{Row, Text, all_of, first_of, one_of}
use Rattle.dw_words.specs.GivenWords.{GivenWords, Meaning, settle, with_workers, worker_count}
use Rattle.dw_words.specs.Parser.{Ends, flag_text, listed, workers_of, workers_of_count}
use Rattle.dw_words.specs.declared.refusals.WordsRefusal.{WordsRefusal}

abbrev Count : Type 0
Count = Result (Option ℕ) WordsRefusal

same_ok : (x y : Option ℕ) → ◌≡◌ {A = Count} (Ok x) (Ok y) → x ≡ y
same_ok x y e = ap (λ (r : Count). result_unwrap_or r None) e

abbrev Told : Option ℕ → Bool → List Text → Option Meaning
Told workers flag rest = Some (record { workers = workers; stats = flag; rest = rest })

flag_is : (n : ℕ) (flag : Bool) (o : Option Text) → n ≤ 1 → o ≡ Some (flag_text n) → (o ≡ Some (codes "true") → flag ≡ true) → (o ≡ Some (codes "false") → flag ≡ false) → (nat_le n 1 ≡ true) × ((n == 1) ≡ flag)
flag_is zero flag o le e set unset = (refl, sym (unset e))
flag_is (suc zero) flag o le e set unset = (refl, sym (set e))
flag_is (suc (suc n)) flag o le e set unset = absurd (omega (arith, le))

workers_are : (values : List Text) (workers : Option ℕ) (o : Option Text) (flag : Bool) (rest : List Text) → length values ≤ 1 → o ≡ slice_get values 0 → ◌≡◌ {A = Count} (Ok workers) (workers_of o) → with_workers values flag rest ≡ Told workers flag rest
workers_are [] workers o flag rest le e is = ap (λ w. Told w flag rest) (sym (same_ok workers None (is ∙ ap workers_of e)))
workers_are (v ∷ []) workers o flag rest le e is = go (worker_count v) (is ∙ ap workers_of e)
  where
    go : (count : Option ℕ) → ◌≡◌ {A = Count} (Ok workers) (workers_of_count count) → option_map {T = ℕ} (λ n. record { workers = Some n; stats = flag; rest = rest }) count ≡ Told workers flag rest
    go None k = absurd (true≢false (ap (λ (r : Count). is_ok r) k))
    go (Some n) k = ap (λ w. Told w flag rest) (sym (same_ok workers (Some n) k))
workers_are (v ∷ w ∷ ws) workers o flag rest le e is = absurd (omega (arith, le))

all_listed : (words : List Text) → unwrap_or (listed words) [] ≡ words
all_listed [] = refl
all_listed (w ∷ ws) = refl

pub settled_means : (rows : List Row) (g : GivenWords) (workers : Option ℕ) (flag : Bool) (rest : List Text) → Ends rows g → ◌≡◌ {A = Count} (Ok workers) (workers_of (first_of (codes "workers") rows))
    → (one_of (codes "stats") rows ≡ Some (codes "true") → flag ≡ true) → (one_of (codes "stats") rows ≡ Some (codes "false") → flag ≡ false) → rest ≡ unwrap_or (all_of (codes "rest") rows) []
    → settle g ≡ Told workers flag rest
settled_means rows g workers flag rest ends is set unset words =
    let f = flag_is g.stats flag (one_of (codes "stats") rows) ends.one_flag ends.stats set unset in
    let same : g.rest ≡ rest = sym (words ∙ ap (λ o. unwrap_or o []) ends.rest ∙ all_listed g.rest) in
    rw (f.0, f.1, same) (workers_are g.workers workers (first_of (codes "workers") rows) flag rest ends.one_value ends.workers is)
