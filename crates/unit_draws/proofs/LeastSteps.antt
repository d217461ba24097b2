-- What each atomic step leaves of the least words, and that it keeps the whole rule.
use Rattle.std.proofs.Common.{◌≡◌, ◌≢◌, ℕ, ◌+◌, ◌-◌, ◌*◌, ◌/◌, ◌%◌, ◌^◌, ◌<◌, ◌≤◌, min, ⊎_elim, List, [], ◌∷◌, ◌++◌, length, set, slice_index, refl, sym, ap, subst, ◌∙◌, arith, length-set, lt_of_not-le}
use Rattle.std.proofs.lemmas.List.{set-get_or}
use mathlib.Core.Logic.{dite}
use mathlib.Core.Option.{Option, some, none, some-ne-none}
use native.Mathlib.Decide.{dec_le, ℕ_discrete}
use lib.ListN.{get_elem?}
use Rattle.atomic_table.proofs.Lists.{at_set, set_again, set_else}
use Rattle.atomic_table.specs.Table.{State, step, keeps, Allows, Splits, Joins, opening}
use Rattle.unit_draws.specs.declared.view.AboutDraws.{AboutDraws}
use Rattle.unit_draws.specs.declared.view.DrawView.{DrawView}
use Rattle.unit_draws.specs.Windows.{first_words, window_count, window_length}
use Rattle.unit_draws.specs.Seats.{occurrences, empty_seat, first_seat, seat_split_off, with_less_spare, with_lowered, with_seat}
use Rattle.unit_draws.specs.Rule.{DrawsNumber, IsLeastWord, LearnsOfDrawn, LeastRuleHolds, LowersUnit, RuleHolds, TellsLeast, first_of}
use Rattle.unit_draws.proofs.FirstWords.{first_least, first_length, first_next}
use Rattle.unit_draws.proofs.Keeping.{others_keep, seat_now, word_else, word_now}
use Rattle.unit_draws.proofs.Occurrences.{occurrences-append, occurrences-nil, occurrences_other}
use Rattle.unit_draws.proofs.SeatSteps.{at_push, joins, opens, splits}
use Rattle.unit_draws.proofs.Steps.{draw_allowed, load_allowed}

-- # The least words

module _ (refuses : List ℕ → ℕ → Type 0) (units : ℕ) (tag : List ℕ) (s : State (Unit {0}) DrawView) (holds : LeastRuleHolds refuses units tag s) where
  -- a step of one seat, by which no least word rises
  module _ (id : ℕ) (v : DrawView) (at : get_elem? s.views id ≡ some v) (some_number : 0 < length v.numbers) where
    pub step_least : (ws : List ℕ) (homes : List (Option (Unit {0}))) (v' : DrawView) → v'.tag ≡ v.tag
        → ((w : ℕ) → w < window_count units → IsLeastWord refuses units tag w (slice_index ws (window_count units + w)))
        → ((w : ℕ) → w < window_count units → slice_index ws (window_count units + w) ≤ slice_index s.words (window_count units + w))
        → ((u : ℕ) → u < units → 0 < occurrences u v'.lowered → slice_index ws (window_count units + u / 256) ≤ u % 256)
        → LeastRuleHolds refuses units tag record { words = ws; homes = homes; views = set s.views id v' }
    step_least ws homes v' same least falls lowered = record {
      tags = λ i x there number. ⊎_elim
          (λ here. ap (λ (y : DrawView). y.tag) (sym here.1) ∙ same ∙ holds.tags id v at some_number)
          (λ other. holds.tags i x other.1 number)
          (at_set s.views id i v' x there);
      least = least;
      lowered = λ i x there u counted told. ⊎_elim
          (λ here. lowered u counted (subst (λ (y : DrawView). 0 < occurrences u y.lowered) (sym here.1) told))
          (λ other. let before = holds.lowered i x other.1 u counted told in let fell = falls (u / 256) (omega arith) in omega (arith, before, fell))
          (at_set s.views id i v' x there);
    }

    -- no least word changes
    pub same_least : (ws : List ℕ) (homes : List (Option (Unit {0}))) (v' : DrawView) → v'.tag ≡ v.tag → v'.lowered ≡ v.lowered
        → ((w : ℕ) → w < window_count units → slice_index ws (window_count units + w) ≡ slice_index s.words (window_count units + w))
        → LeastRuleHolds refuses units tag record { words = ws; homes = homes; views = set s.views id v' }
    same_least ws homes v' tag_same lowered_same words =
        step_least ws homes v' tag_same
        (λ w inside. subst (IsLeastWord refuses units tag w) (sym (words w inside)) (holds.least w inside))
        (λ w inside. let same = words w inside in omega (arith, same))
        (λ u counted told.
        let before = holds.lowered id v at u counted (subst (λ (us : List ℕ). 0 < occurrences u us) lowered_same told) in
        let same = words (u / 256) (omega arith) in omega (arith, before, same))

    -- a least word is lowered to the number of a refused unit
    module _ (w k n : ℕ) (inside : w < window_count units) (low : window_count units + w < length s.words) (here : slice_index s.words (window_count units + w) ≡ n)
        (small : k < window_length units w) (refused : refuses tag (256 * w + k)) where
      lower_here : slice_index (set s.words (window_count units + w) (min n k)) (window_count units + w) ≡ min n k
      lower_here = word_now s.words (window_count units + w) (min n k) (window_count units + w) low refl

      lower_else : (x : ℕ) → x ≢ w → slice_index (set s.words (window_count units + w) (min n k)) (window_count units + x) ≡ slice_index s.words (window_count units + x)
      lower_else x isnt = word_else s.words (window_count units + w) (min n k) (window_count units + x) (λ e. isnt (omega (arith, e)))

      least_here : IsLeastWord refuses units tag w (min n k)
      least_here =
          let before = subst (IsLeastWord refuses units tag w) here (holds.least w inside) in
          let most = before.most in
          record {
            most = omega (arith, most);
            refused = λ within. dite (dec_le n k)
                (λ first. let is : n ≡ min n k = omega (arith, first) in subst (λ (x : ℕ). refuses tag (256 * w + x)) is (before.refused (omega (arith, within, first))))
                (λ not. let later = lt_of_not-le not in let is : k ≡ min n k = omega (arith, later) in subst (λ (x : ℕ). refuses tag (256 * w + x)) is refused);
          }

      pub lower_least : (homes : List (Option (Unit {0}))) → LeastRuleHolds refuses units tag record { words = set s.words (window_count units + w) (min n k); homes = homes; views = set s.views id (with_lowered v (256 * w + k)) }
      lower_least homes =
          step_least (set s.words (window_count units + w) (min n k)) homes (with_lowered v (256 * w + k)) refl
          (λ x inside_x. dite (ℕ_discrete x w)
          (λ is. subst (λ (y : ℕ). IsLeastWord refuses units tag y (slice_index (set s.words (window_count units + w) (min n k)) (window_count units + y))) (sym is)
          (subst (IsLeastWord refuses units tag w) (sym lower_here) least_here))
          (λ isnt. subst (IsLeastWord refuses units tag x) (sym (lower_else x isnt)) (holds.least x inside_x)))
          (λ x inside_x. falls x)
          (λ u counted told.
          let fell = falls (u / 256) in
          let more = occurrences-append u v.lowered ((256 * w + k) ∷ []) in
          dite (ℕ_discrete u (256 * w + k))
          (λ is.
          let window : u / 256 ≡ w = omega (arith, is, small) in
          let now : slice_index (set s.words (window_count units + w) (min n k)) (window_count units + u / 256) ≡ min n k
          = ap (λ (x : ℕ). slice_index (set s.words (window_count units + w) (min n k)) (window_count units + x)) window ∙ lower_here in
          let number : u % 256 ≡ k = omega (arith, is, small) in omega (arith, now, number))
          (λ isnt.
          let no_more = occurrences_other u (256 * w + k) (λ e. isnt (sym e)) in
          let before = holds.lowered id v at u counted (omega (arith, told, more, no_more)) in omega (arith, before, fell)))
        where
          falls : (x : ℕ) → slice_index (set s.words (window_count units + w) (min n k)) (window_count units + x) ≤ slice_index s.words (window_count units + x)
          falls x = dite (ℕ_discrete x w)
              (λ is.
              let now = ap (λ (y : ℕ). slice_index (set s.words (window_count units + w) (min n k)) (window_count units + y)) is ∙ lower_here in
              let before = ap (λ (y : ℕ). slice_index s.words (window_count units + y)) is ∙ here in omega (arith, now, before))
              (λ isnt. let same = lower_else x isnt in omega (arith, same))

    -- a seat that is split off told of nothing
    pub split_least : LeastRuleHolds refuses units tag record { words = s.words; homes = s.homes; views = set s.views id (with_less_spare v) ++ seat_split_off v ∷ [] }
    split_least = record {
      tags = λ i x there number. ⊎_elim
          (λ before. ⊎_elim
          (λ here. ap (λ (y : DrawView). y.tag) (sym here.1) ∙ holds.tags id v at some_number)
          (λ other. holds.tags i x other.1 number)
          (at_set s.views id i (with_less_spare v) x before))
          (λ last. ap (λ (y : DrawView). y.tag) (sym last.1) ∙ holds.tags id v at some_number)
          (at_push (set s.views id (with_less_spare v)) (seat_split_off v) x i there);
      least = holds.least;
      lowered = λ i x there u counted told. ⊎_elim
          (λ before. ⊎_elim
          (λ here. holds.lowered id v at u counted (subst (λ (y : DrawView). 0 < occurrences u y.lowered) (sym here.1) told))
          (λ other. holds.lowered i x other.1 u counted told)
          (at_set s.views id i (with_less_spare v) x before))
          (λ last. absurd (let none_told = occurrences-nil u in let told_it : 0 < occurrences u [] = subst (λ (y : DrawView). 0 < occurrences u y.lowered) (sym last.1) told in omega (arith, none_told, told_it)))
          (at_push (set s.views id (with_less_spare v)) (seat_split_off v) x i there);
    }

    -- a seat that takes another in told of what both did
    pub join_least : (other : ℕ) (x : DrawView) → get_elem? s.views other ≡ some x
        → LeastRuleHolds refuses units tag record { words = s.words; homes = s.homes; views = set (set s.views id (with_seat v x)) other empty_seat }
    join_least other x at_other = record {
      tags = λ i y there number. ⊎_elim
          (λ gone. absurd (let none_there : 0 < length empty_seat.numbers = subst (λ (z : DrawView). 0 < length z.numbers) (sym gone.1) number in omega (arith, none_there)))
          (λ rest. ⊎_elim
          (λ here. ap (λ (z : DrawView). z.tag) (sym here.1) ∙ holds.tags id v at some_number)
          (λ same. holds.tags i y same.1 number)
          (at_set s.views id i (with_seat v x) y rest.1))
          (at_set (set s.views id (with_seat v x)) other i empty_seat y there);
      least = holds.least;
      lowered = λ i y there u counted told. ⊎_elim
          (λ gone. absurd (let none_told = occurrences-nil u in let told_it : 0 < occurrences u [] = subst (λ (z : DrawView). 0 < occurrences u z.lowered) (sym gone.1) told in omega (arith, none_told, told_it)))
          (λ rest. ⊎_elim
          (λ here.
          let both : 0 < occurrences u (v.lowered ++ x.lowered) = subst (λ (z : DrawView). 0 < occurrences u z.lowered) (sym here.1) told in
          let add = occurrences-append u v.lowered x.lowered in
          dite (ℕ_discrete (occurrences u v.lowered) 0)
          (λ never. holds.lowered other x at_other u counted (omega (arith, both, add, never)))
          (λ some_time. holds.lowered id v at u counted (omega (arith, some_time))))
          (λ same. holds.lowered i y same.1 u counted told)
          (at_set s.views id i (with_seat v x) y rest.1))
          (at_set (set s.views id (with_seat v x)) other i empty_seat y there);
    }

-- # The whole rule

module _ (refuses : List ℕ → ℕ → Type 0) (about : AboutDraws) where
  pub rule_opens : (ws : List ℕ) → 1 ≤ about.sizes.seats → about.sizes.seats ≤ 65536 → ws ≡ first_words about.sizes.units → RuleHolds refuses about (opening ws [] (first_of about))
  rule_opens ws some_seat few are =
      let units : ℕ = about.sizes.units in
      let mark : List ℕ = about.tag.numbers in
      record {
        draws = opens about.sizes mark ws some_seat few (λ q inside. ap (λ (x : List ℕ). slice_index x q) are ∙ first_next units q inside) (ap (λ (x : List ℕ). length x) are ∙ first_length units);
        least = record {
          tags = λ i v there number. ⊎_elim (λ none_there. absurd (some-ne-none v (sym none_there))) (λ here. ap (λ (x : DrawView). x.tag) (sym here.1)) (at_push [] (first_seat about.sizes mark) v i there);
          least = λ w inside. subst (IsLeastWord refuses units mark w) (sym (ap (λ (x : List ℕ). slice_index x (window_count units + w)) are ∙ first_least units w inside))
              record { most = omega arith; refused = λ less. absurd (omega (arith, less)) };
          lowered = λ i v there u counted told. ⊎_elim (λ none_there. absurd (some-ne-none v (sym none_there)))
              (λ here. absurd (let none_told = occurrences-nil u in let told_it : 0 < occurrences u [] = subst (λ (x : DrawView). 0 < occurrences u x.lowered) (sym here.1) told in omega (arith, none_told, told_it)))
              (at_push [] (first_seat about.sizes mark) v i there);
        };
      }

  pub rule_splits : (id : ℕ) (v : DrawView) → 0 < length v.numbers → 0 < v.spare → Splits (RuleHolds refuses about) id v (with_less_spare v) (seat_split_off v)
  rule_splits id v some_number some_spare s holds at = record {
    draws = splits about.sizes id v some_number some_spare s holds.draws at;
    least = split_least refuses about.sizes.units about.tag.numbers s holds.least id v at some_number;
  }

  pub rule_joins : (id other : ℕ) (v u : DrawView) → 0 < length v.numbers → 0 < length u.numbers → u.number ≢ 0 → Joins (RuleHolds refuses about) id v other u (with_seat v u) empty_seat
  rule_joins id other v u some_number also_number not_first s holds at apart at_other = record {
    draws = joins about.sizes id other v u some_number also_number not_first s holds.draws at apart at_other;
    least = join_least refuses about.sizes.units about.tag.numbers s holds.least id v at some_number other u (sym (set_else s.views id other (with_seat v u) apart) ∙ at_other);
  }

  pub rule_draw : (slots id : ℕ) (v : DrawView) (c : List (ℕ × Unit {0})) (w : ℕ) → 0 < length v.numbers → w < window_count about.sizes.units → occurrences w v.ended ≡ 0
      → Allows (RuleHolds refuses about) slots id (v, c) w (λ n. (n + 1) % 2 ^ 64) (DrawsNumber (step slots w 1 0 none) (v, c))
  rule_draw slots id v c w some_number inside open_window s holds homes at fits =
      let old = draw_allowed about.sizes slots id v c w some_number inside open_window s holds.draws homes at fits in (
        old.0,
        old.1,
        old.2,
        record {
          draws = old.3;
          least = same_least refuses about.sizes.units about.tag.numbers s holds.least id v at some_number _ _ old.0 old.4.tag old.4.lowered
              (λ x inside_x. word_else s.words w _ (window_count about.sizes.units + x) (λ e. omega (arith, e, inside)));
        },
        old.4,
      )

  pub rule_load : (slots id : ℕ) (v : DrawView) (c : List (ℕ × Unit {0})) → 0 < length v.numbers → Allows (RuleHolds refuses about) slots id (v, c) 0 (λ n. n) (LearnsOfDrawn (step slots 0 0 0 none) (v, c))
  rule_load slots id v c some_number s holds homes at fits =
      let old = load_allowed about.sizes slots id v c some_number s holds.draws homes at fits in (
        old.0,
        old.1,
        old.2,
        record {
          draws = old.3;
          least = same_least refuses about.sizes.units about.tag.numbers s holds.least id v at some_number _ _ old.0 (ap (λ m. m.0.tag) old.4.same) (ap (λ m. m.0.lowered) old.4.same)
              (λ x inside_x. ap (λ (ws : List ℕ). slice_index ws (window_count about.sizes.units + x)) (set-get_or s.words 0 0));
        },
        old.4,
      )

  -- the place of the seat's window is that of the draws
  same_window : (s : State (Unit {0}) DrawView) (holds : RuleHolds refuses about s) (id : ℕ) (v : DrawView) → get_elem? s.views id ≡ some v → 0 < length v.numbers
      → (w : ℕ) → window_count about.sizes.units + w - window_count v.units ≡ w
  same_window s holds id v at some_number w =
      let count : window_count v.units ≡ window_count about.sizes.units = ap window_count (seat_now about.sizes s holds.draws id v at some_number).units in
      let a : ℕ = window_count v.units in
      let b : ℕ = window_count about.sizes.units in
      let is : a ≡ b = count in
      let goal : b + w - a ≡ w = omega (arith, is) in goal

  -- a least word is lowered
  pub rule_lower : (slots id : ℕ) (v : DrawView) (c : List (ℕ × Unit {0})) (w k : ℕ) → 0 < length v.numbers → w < window_count about.sizes.units → k < window_length about.sizes.units w
      → refuses about.tag.numbers (256 * w + k)
      → Allows (RuleHolds refuses about) slots id (v, c) (window_count about.sizes.units + w) (λ n. min n k) (LowersUnit (step slots (window_count about.sizes.units + w) k 0 none) (v, c))
  rule_lower slots id v c w k some_number inside small refused s holds homes at fits =
      let units : ℕ = about.sizes.units in
      let n : ℕ = slice_index s.words (window_count units + w) in
      let size = holds.draws.size in (
        with_lowered v (256 * w + k),
        keeps,
        tt,
        record {
          draws = others_keep about.sizes s holds.draws id v at some_number (with_lowered v (256 * w + k)) (refl, refl, refl, refl, refl)
              (set s.words (window_count units + w) (min n k)) (length-set s.words (window_count units + w) (min n k))
              (λ q inside_q. word_else s.words (window_count units + w) (min n k) q (λ e. omega (arith, e, inside_q))) refl refl (λ q. refl);
          least = lower_least refuses units about.tag.numbers s holds.least id v at some_number w k n inside (omega (arith, size, inside)) refl small refused s.homes;
        },
        record { slots = refl; lowered = ap (λ (x : ℕ). with_lowered v (256 * x + k)) (sym (same_window s holds id v at some_number w)) },
      )

  -- a least word is loaded
  pub rule_least : (slots id : ℕ) (v : DrawView) (c : List (ℕ × Unit {0})) (w : ℕ) → 0 < length v.numbers → w < window_count about.sizes.units
      → Allows (RuleHolds refuses about) slots id (v, c) (window_count about.sizes.units + w) (λ n. n) (TellsLeast refuses (step slots (window_count about.sizes.units + w) 0 0 none) (v, c))
  rule_least slots id v c w some_number inside s holds homes at fits =
      let units : ℕ = about.sizes.units in
      let n : ℕ = slice_index s.words (window_count units + w) in
      let counted : v.units ≡ units = (seat_now about.sizes s holds.draws id v at some_number).units in
      let mark : v.tag ≡ about.tag.numbers = holds.least.tags id v at some_number in
      let place : window_count units + w - window_count v.units ≡ w = same_window s holds id v at some_number w in (
        v,
        keeps,
        tt,
        subst (λ (p : List ℕ × List DrawView). RuleHolds refuses about record { words = p.0; homes = s.homes; views = p.1 })
            (λ i. (sym (set-get_or s.words (window_count units + w) 0) i, sym (set_again s.views id v at) i)) holds,
        record {
          same = refl;
          word = subst (λ (p : ℕ × List ℕ × ℕ). IsLeastWord refuses p.0 p.1 p.2 n) (λ i. (sym counted i, sym mark i, sym place i)) (holds.least.least w inside);
          most = λ u low told window.
              let here : u / 256 ≡ w = window ∙ place in
              let before = holds.least.lowered id v at u (subst (λ (x : ℕ). u < x) counted low) told in
              subst (λ (x : ℕ). slice_index s.words (window_count units + x) ≤ u % 256) here before;
        },
      )
