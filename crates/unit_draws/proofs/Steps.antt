-- Each atomic step keeps the rule, and tells what its call ensures.
use Rattle.std.proofs.Common.{◌≡◌, ◌≢◌, ℕ, ◌+◌, ◌*◌, ◌/◌, ◌%◌, ◌^◌, ◌<◌, ◌≤◌, nat_lt, if◌then◌else◌, List, [], ◌∷◌, length, set, slice_index, sum_by, refl, sym, ap, subst, ◌∙◌, arith, lt_of_not-le}
use Rattle.std.proofs.lemmas.List.{set-get_or}
use mathlib.Core.Logic.{dite}
use mathlib.Core.Option.{some, none}
use native.Mathlib.Decide.{dec_le, ℕ_discrete}
use lib.ListN.{get_elem?}
use Rattle.atomic_table.proofs.Lists.{set_again}
use Rattle.atomic_table.specs.Table.{State, step, keeps, Allows}
use Rattle.unit_draws.specs.declared.view.DrawSizes.{DrawSizes}
use Rattle.unit_draws.specs.declared.view.DrawView.{DrawView}
use Rattle.unit_draws.specs.Windows.{window_count, window_length}
use Rattle.unit_draws.specs.Seats.{occurrences, with_unit, with_ended}
use Rattle.unit_draws.specs.Rule.{IsOneWhere, IsPassed, ended_seats, DrawRuleHolds, DrawsUnit, EndsWindow, DrawsNumber, LearnsOfDrawn}
use Rattle.unit_draws.proofs.Sums.{sum_set}
use Rattle.unit_draws.proofs.Occurrences.{occurrences-append, occurrences_same, occurrences_other, window_of_unit, number_of_unit}
use Rattle.unit_draws.proofs.Keeping.{one_same, ended_never, ended_now, word_now, word_else, word_grows, word_small, seat_now, never_drawn, drawn_once, ahead_fewer, drawn_whole, sum_stays, step_keeps}

module _ (sizes : DrawSizes) (s : State (Unit {0}) DrawView) (holds : DrawRuleHolds sizes s) (id : ℕ) (v : DrawView) (at : get_elem? s.views id ≡ some v) (some_number : 0 < length v.numbers) (w n : ℕ) (inside : w < window_count sizes.units) (low : w < length s.words) (here : slice_index s.words w ≡ n) where
  -- the number was below the window's length: its unit is the seat's
  module _ (within : n < window_length sizes.units w) where
    small : n < 256
    small = omega arith

    counted : 256 * w + n < sizes.units
    counted = omega arith

    not_passed : ¬ IsPassed sizes.units s.words (256 * w + n)
    not_passed p =
        let passed : n < slice_index s.words w = subst (λ (k : ℕ × ℕ). k.1 < slice_index s.words k.0) (λ k. (window_of_unit w n small k, number_of_unit w n small k)) p.passed in omega arith

    passed_now : IsPassed sizes.units (set s.words w (n + 1)) (256 * w + n)
    passed_now =
        record {
          counted = counted;
          passed = subst (λ (k : ℕ × ℕ). k.1 < slice_index (set s.words w (n + 1)) k.0) (λ k. (sym (window_of_unit w n small) k, sym (number_of_unit w n small) k)) (let now = word_now s.words w (n + 1) w low refl in omega arith);
        }

    passed_else : (u : ℕ) → u ≢ 256 * w + n → IsPassed sizes.units (set s.words w (n + 1)) u → IsPassed sizes.units s.words u
    passed_else u other p =
        let after = p.passed in
        let below = p.counted in
        record {
          counted = below;
          passed = dite (ℕ_discrete (u / 256) w)
              (λ is. let now = word_now s.words w (n + 1) (u / 256) low is in let before : slice_index s.words (u / 256) ≡ n = ap (slice_index s.words) is ∙ here in let apart : u % 256 ≢ n = λ e. other (omega arith) in omega arith)
              (λ isnt. let same = word_else s.words w (n + 1) (u / 256) isnt in omega arith);
        }

    passed_still : (u : ℕ) → IsPassed sizes.units s.words u → IsPassed sizes.units (set s.words w (n + 1)) u
    passed_still u p =
        let before = p.passed in
        let grows = word_grows s.words w (n + 1) (u / 256) low (omega arith) in
        record { counted = p.counted; passed = omega arith }

    drawn_after : (u : ℕ) → IsOneWhere (IsPassed sizes.units (set s.words w (n + 1)) u) (sum_by (λ (x : DrawView). occurrences u x.drawn) (set s.views id (with_unit v (256 * w + n))))
    drawn_after u =
        let sum = sum_set (λ (x : DrawView). occurrences u x.drawn) s.views id v (with_unit v (256 * w + n)) at in
        let more = occurrences-append u v.drawn ((256 * w + n) ∷ []) in
        dite (ℕ_discrete u (256 * w + n))
        (λ is.
        let zero_before = (holds.drawn u).none (λ p. not_passed (subst (IsPassed sizes.units s.words) is p)) in
        let one_more = occurrences_same u (256 * w + n) (sym is) in
        record { one = λ p. omega arith; none = λ not. absurd (not (subst (IsPassed sizes.units (set s.words w (n + 1))) (sym is) passed_now)) })
        (λ isnt.
        let no_more = occurrences_other u (256 * w + n) (λ e. isnt (sym e)) in
        one_same (IsPassed sizes.units s.words u) (IsPassed sizes.units (set s.words w (n + 1)) u) _ _ (passed_still u) (passed_else u isnt) (omega arith) (holds.drawn u))

    draws_keeps : DrawRuleHolds sizes record { words = set s.words w (n + 1); homes = s.homes; views = set s.views id (with_unit v (256 * w + n)) }
    draws_keeps =
        step_keeps sizes s holds id v at some_number (with_unit v (256 * w + n)) (refl, refl, refl, refl, refl) w (n + 1) low (omega arith) drawn_after
        (λ q saw. let before = holds.ended id v at q saw in let grows = word_grows s.words w (n + 1) q low (omega arith) in omega arith)
        (λ q inside_q.
        let bound = holds.bound q inside_q in
        let stays = sum_stays sizes s holds id v at some_number (with_unit v (256 * w + n)) (refl, refl, refl, refl, refl) (ended_seats q) refl in
        dite (ℕ_discrete q w)
        (λ is. let now = word_now s.words w (n + 1) q low is in let within_q : n < window_length sizes.units q = subst (λ (k : ℕ). n < window_length sizes.units k) (sym is) within in omega arith)
        (λ isnt. let same = word_else s.words w (n + 1) q isnt in omega arith))

    draws_unit : DrawsUnit v w (256 * w + n) (with_unit v (256 * w + n))
    draws_unit =
        record {
          fresh = never_drawn sizes s holds id v at some_number (256 * w + n) not_passed;
          fewer = ahead_fewer sizes s holds id v at some_number w n here small;
          drawn = refl;
        }

  -- the number wasn't: the window has ended
  module _ (past : window_length sizes.units w ≤ n) (open_window : occurrences w v.ended ≡ 0) where
    ended_else : (u : ℕ) → IsPassed sizes.units (set s.words w (n + 1)) u → IsPassed sizes.units s.words u
    ended_else u p =
        let after = p.passed in
        let below = p.counted in
        record {
          counted = below;
          passed = dite (ℕ_discrete (u / 256) w)
              (λ is. let before : slice_index s.words (u / 256) ≡ n = ap (slice_index s.words) is ∙ here in let inside : u % 256 < window_length sizes.units w = omega arith in omega arith)
              (λ isnt. let same = word_else s.words w (n + 1) (u / 256) isnt in omega arith);
        }

    ended_still : (u : ℕ) → IsPassed sizes.units s.words u → IsPassed sizes.units (set s.words w (n + 1)) u
    ended_still u p =
        let before = p.passed in
        let grows = word_grows s.words w (n + 1) (u / 256) low (omega arith) in
        record { counted = p.counted; passed = omega arith }

    ends_keeps : DrawRuleHolds sizes record { words = set s.words w (n + 1); homes = s.homes; views = set s.views id (with_ended v w) }
    ends_keeps =
        step_keeps sizes s holds id v at some_number (with_ended v w) (refl, refl, refl, refl, refl) w (n + 1) low (omega arith)
        (λ u.
        let stays = sum_stays sizes s holds id v at some_number (with_ended v w) (refl, refl, refl, refl, refl) (λ (x : DrawView). occurrences u x.drawn) refl in
        one_same (IsPassed sizes.units s.words u) (IsPassed sizes.units (set s.words w (n + 1)) u) _ _ (ended_still u) (ended_else u) (sym stays) (holds.drawn u))
        (λ q saw.
        let grows = word_grows s.words w (n + 1) q low (omega arith) in
        let more = occurrences-append q v.ended (w ∷ []) in
        dite (ℕ_discrete q w)
        (λ is. let now = word_now s.words w (n + 1) q low is in let past_q : window_length sizes.units q ≤ n = subst (λ (k : ℕ). window_length sizes.units k ≤ n) (sym is) past in omega arith)
        (λ isnt. let no_more = occurrences_other q w (λ e. isnt (sym e)) in let before = holds.ended id v at q (omega arith) in omega arith))
        (λ q inside_q.
        let bound = holds.bound q inside_q in
        let sum = sum_set (ended_seats q) s.views id v (with_ended v w) at in
        let more = occurrences-append q v.ended (w ∷ []) in
        dite (ℕ_discrete q w)
        (λ is.
        let now = word_now s.words w (n + 1) q low is in
        let before : slice_index s.words q ≡ n = ap (slice_index s.words) is ∙ here in
        let never = ended_never q v (ap (λ (k : ℕ). occurrences k v.ended) is ∙ open_window) in
        let one_more = occurrences_same q w (sym is) in
        let none_before : occurrences q v.ended ≡ 0 = ap (λ (k : ℕ). occurrences k v.ended) is ∙ open_window in
        let all = ended_now q (with_ended v w) (omega arith) in omega arith)
        (λ isnt.
        let same = word_else s.words w (n + 1) q isnt in
        let no_more = occurrences_other q w (λ e. isnt (sym e)) in
        let as_before : ended_seats q (with_ended v w) ≡ ended_seats q v = ap (λ (k : ℕ). if nat_lt 0 k then length v.numbers else 0) (omega arith) in omega arith))

    ends_window : EndsWindow v w (with_ended v w)
    ends_window = record { ended = refl; whole = λ every. drawn_whole sizes s holds id v at some_number every w (omega arith) }

-- an addition of 1 to a window's word
draw_by : (sizes : DrawSizes) (slots id : ℕ) (v : DrawView) (c : List (ℕ × Unit {0})) (w : ℕ) (s : State (Unit {0}) DrawView) (holds : DrawRuleHolds sizes s) (at : get_elem? s.views id ≡ some v)
    → 0 < length v.numbers → w < window_count sizes.units → w < length s.words → occurrences w v.ended ≡ 0 → (n : ℕ) → slice_index s.words w ≡ n → Dec (window_length sizes.units w ≤ n)
    → (v' : DrawView) × DrawRuleHolds sizes record { words = set s.words w (n + 1); homes = s.homes; views = set s.views id v' } × DrawsNumber (step slots w 1 0 none) (v, c) n (v', c)
draw_by sizes slots id v c w s holds at some_number inside low open_window n here (yes past) =
    let units = (seat_now sizes s holds id v at some_number).units in (
      with_ended v w,
      ends_keeps sizes s holds id v at some_number w n inside low here past open_window,
      record {
        slots = refl;
        tag = refl;
        lowered = refl;
        unit = λ within. absurd (let same : window_length v.units w ≡ window_length sizes.units w = ap (λ (k : ℕ). window_length k w) units in omega arith);
        none = λ ended. ends_window sizes s holds id v at some_number w n inside low here past open_window;
      },
    )
draw_by sizes slots id v c w s holds at some_number inside low open_window n here (no not) =
    let units = (seat_now sizes s holds id v at some_number).units in
    let within : n < window_length sizes.units w = lt_of_not-le not in (
      with_unit v (256 * w + n),
      draws_keeps sizes s holds id v at some_number w n inside low here within,
      record {
        slots = refl;
        tag = refl;
        lowered = refl;
        unit = λ short. draws_unit sizes s holds id v at some_number w n inside low here within;
        none = λ ended. absurd (let same : window_length v.units w ≡ window_length sizes.units w = ap (λ (k : ℕ). window_length k w) units in omega arith);
      },
    )

pub draw_allowed : (sizes : DrawSizes) (slots id : ℕ) (v : DrawView) (c : List (ℕ × Unit {0})) (w : ℕ) → 0 < length v.numbers → w < window_count sizes.units → occurrences w v.ended ≡ 0
    → Allows (DrawRuleHolds sizes) slots id (v, c) w (λ n. (n + 1) % 2 ^ 64) (DrawsNumber (step slots w 1 0 none) (v, c))
draw_allowed sizes slots id v c w some_number low open_window s holds homes at fits =
    let n : ℕ = slice_index s.words w in
    let small = word_small sizes s holds w low in
    let size = holds.size in
    let next : (n + 1) % 2 ^ 64 ≡ n + 1 = omega arith in
    let drawn = draw_by sizes slots id v c w s holds at some_number low (omega arith) open_window n refl (dec_le (window_length sizes.units w) n) in (
      drawn.0,
      keeps,
      tt,
      subst (λ (m : ℕ). DrawRuleHolds sizes record { words = set s.words w m; homes = s.homes; views = set s.views id drawn.0 }) (sym next) drawn.1,
      drawn.2,
    )

-- a load of word 0
pub load_allowed : (sizes : DrawSizes) (slots id : ℕ) (v : DrawView) (c : List (ℕ × Unit {0})) → 0 < length v.numbers → Allows (DrawRuleHolds sizes) slots id (v, c) 0 (λ n. n) (LearnsOfDrawn (step slots 0 0 0 none) (v, c))
load_allowed sizes slots id v c some_number s holds homes at fits = (
  v,
  keeps,
  tt,
  subst (λ (p : List ℕ × List DrawView). DrawRuleHolds sizes record { words = p.0; homes = s.homes; views = p.1 }) (λ k. (sym (set-get_or s.words 0 0) k, sym (set_again s.views id v at) k)) holds,
  record {
    same = refl;
    once = drawn_once sizes s holds id v at some_number;
    whole = λ every w saw. drawn_whole sizes s holds id v at some_number every w (holds.ended id v at w saw);
  },
)
