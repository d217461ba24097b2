-- What the rule says of one seat, and that a step of this seat keeps the rule.
use Rattle.std.proofs.Common.{◌≡◌, ◌≢◌, ℕ, suc, ◌+◌, ◌*◌, ◌/◌, ◌%◌, ◌<◌, ◌≤◌, inl, ⊎_elim, Bool, true, false, nat_lt, if◌then◌else◌, List, length, set, slice_index, sum_by, sym, ap, subst, ◌∙◌, arith, length-set, get_or-set_other, get_or-set_same}
use Rattle.std.proofs.lemmas.Bool.{lt-ltb}
use mathlib.Core.Logic.{dite}
use mathlib.Core.Option.{some, some-injective}
use native.Mathlib.Decide.{dec_le, ℕ_discrete}
use lib.ListN.{get_elem?}
use Rattle.atomic_table.proofs.Lists.{at_set, set_here, set_else}
use Rattle.atomic_table.specs.Table.{State}
use Rattle.unit_draws.specs.declared.view.DrawSizes.{DrawSizes}
use Rattle.unit_draws.specs.declared.view.DrawView.{DrawView}
use Rattle.unit_draws.specs.Windows.{window_count, window_length}
use Rattle.unit_draws.specs.Seats.{occurrences, HasEverySeat, HasDrawnWindow, with_unit, places_ahead}
use Rattle.unit_draws.specs.Rule.{IsSeatAt, IsJoinedAway, HasFirstSeat, IsOneWhere, IsPassed, ended_seats, DrawRuleHolds}
use Rattle.unit_draws.proofs.Sums.{below_length, sum_set, part_most, sums_most, sum_alone}
use Rattle.unit_draws.proofs.Occurrences.{occurrences-nil, window_of_unit}
use Rattle.unit_draws.proofs.Places.{behind_most, behind_last}

-- the same count, where a fact stays as it was
pub one_same : (P Q : Type 0) (n m : ℕ) → (P → Q) → (Q → P) → n ≡ m → IsOneWhere P n → IsOneWhere Q m
one_same P Q n m to from same one = record { one = λ q. sym same ∙ one.one (from q); none = λ not. sym same ∙ one.none (λ p. not (to p)) }

pub seat_here : (sizes : DrawSizes) (i j : ℕ) (v u : DrawView) → (j ≡ i) × (v ≡ u) → IsSeatAt sizes i v → IsSeatAt sizes j u
seat_here sizes i j v u here seat = subst (λ (p : ℕ × DrawView). IsSeatAt sizes p.0 p.1) (λ k. (sym here.0 k, here.1 k)) seat

-- a seat stands for no more numbers than it has
ended_test : (b : Bool) (n : ℕ) → (if b then n else 0) ≤ n
ended_test true n = omega arith
ended_test false n = omega arith

pub ended_most : (w : ℕ) (v : DrawView) → ended_seats w v ≤ length v.numbers
ended_most w v = ended_test (nat_lt 0 (occurrences w v.ended)) (length v.numbers)

-- a seat that saw the window end stands for all its numbers there, and one that didn't for none
pub ended_never : (w : ℕ) (v : DrawView) → occurrences w v.ended ≡ 0 → ended_seats w v ≡ 0
ended_never w v never = ap (λ (n : ℕ). if nat_lt 0 n then length v.numbers else 0) never

pub ended_now : (w : ℕ) (v : DrawView) → 0 < occurrences w v.ended → ended_seats w v ≡ length v.numbers
ended_now w v saw = ap (λ (b : Bool). if b then length v.numbers else 0) (lt-ltb 0 (occurrences w v.ended) saw)

-- a word that goes on
pub word_now : (ws : List ℕ) (w m q : ℕ) → w < length ws → q ≡ w → slice_index (set ws w m) q ≡ m
word_now ws w m q low is = ap (slice_index (set ws w m)) is ∙ get_or-set_same ws w m 0 low

pub word_else : (ws : List ℕ) (w m q : ℕ) → q ≢ w → slice_index (set ws w m) q ≡ slice_index ws q
word_else ws w m q isnt = get_or-set_other ws w q m 0 isnt

pub word_grows : (ws : List ℕ) (w m q : ℕ) → w < length ws → slice_index ws w ≤ m → slice_index ws q ≤ slice_index (set ws w m) q
word_grows ws w m q low more = dite (ℕ_discrete q w)
    (λ is. let now = word_now ws w m q low is in let before : slice_index ws q ≡ slice_index ws w = ap (slice_index ws) is in omega arith)
    (λ isnt. let same = word_else ws w m q isnt in omega arith)

module _ (sizes : DrawSizes) (s : State (Unit {0}) DrawView) (holds : DrawRuleHolds sizes s) where
  pub joined_away : (i : ℕ) (v : DrawView) → get_elem? s.views i ≡ some v → length v.numbers ≡ 0 → IsJoinedAway v
  joined_away i v at no_number = ⊎_elim (λ (seat : IsSeatAt sizes i v). absurd (let some = seat.some in omega arith)) (λ (away : IsJoinedAway v). away) (holds.seats i v at)

  pub word_small : (w : ℕ) → w < window_count sizes.units → slice_index s.words w < 65793
  word_small w inside =
      let bound = holds.bound w inside in
      let few = sums_most (ended_seats w) (λ (v : DrawView). length v.numbers) s.views (ended_most w) in
      let numbers = holds.numbers in
      let made = holds.first.made in
      let most = holds.few in
      let short : window_length sizes.units w ≤ 256 = omega arith in omega arith

  module _ (id : ℕ) (v : DrawView) (at : get_elem? s.views id ≡ some v) (some_number : 0 < length v.numbers) where
    pub seat_now : IsSeatAt sizes id v
    seat_now = ⊎_elim (λ (seat : IsSeatAt sizes id v). seat) (λ (away : IsJoinedAway v). absurd (let e = ap (λ (ns : List ℕ). length ns) away.numbers in omega arith)) (holds.seats id v at)

    -- what the seat drew, its window's word has passed
    pub drawn_passed : (u : ℕ) → 0 < occurrences u v.drawn → ¬ (¬ IsPassed sizes.units s.words u)
    drawn_passed u drawn not =
        let most = part_most (λ (x : DrawView). occurrences u x.drawn) s.views id v at in
        let none = (holds.drawn u).none not in omega arith

    pub never_drawn : (u : ℕ) → ¬ IsPassed sizes.units s.words u → occurrences u v.drawn ≡ 0
    never_drawn u not =
        let most = part_most (λ (x : DrawView). occurrences u x.drawn) s.views id v at in
        let none = (holds.drawn u).none not in omega arith

    pub drawn_once : (u : ℕ) → occurrences u v.drawn ≤ 1
    drawn_once u =
        let most = part_most (λ (x : DrawView). occurrences u x.drawn) s.views id v at in
        dite (dec_le (suc u) sizes.units)
        (λ counted. dite (dec_le (suc (u % 256)) (slice_index s.words (u / 256)))
        (λ passed. let one = (holds.drawn u).one record { counted = counted; passed = passed } in omega arith)
        (λ not. let none = (holds.drawn u).none (λ p. not p.passed) in omega arith))
        (λ not. let none = (holds.drawn u).none (λ p. not p.counted) in omega arith)

    -- the units of the window that the seat drew lie below the one that comes
    drawn_below : (w n : ℕ) → slice_index s.words w ≡ n → (x : ℕ) → x / 256 ≡ w → 0 < occurrences x v.drawn → x < 256 * w + n
    drawn_below w n here x window drawn =
        dite (dec_le (256 * w + n) x)
        (λ above. absurd (drawn_passed x drawn (λ p. let passed : x % 256 < slice_index s.words w = subst (λ (k : ℕ). x % 256 < slice_index s.words k) window p.passed in omega arith)))
        (λ not. omega arith)

    pub ahead_fewer : (w n : ℕ) → slice_index s.words w ≡ n → n < 256 → places_ahead w (with_unit v (256 * w + n)) < places_ahead w v
    ahead_fewer w n here small =
        let before = behind_most w (256 * w + n) v.drawn (omega arith) (drawn_below w n here) in
        let after = behind_last w (256 * w + n) v.drawn (window_of_unit w n small) in omega arith

    -- the first seat with all numbers has drawn the units of a window whose word has passed them
    pub drawn_whole : HasEverySeat v → (w : ℕ) → window_length sizes.units w ≤ slice_index s.words w → HasDrawnWindow v w
    drawn_whole every w ended u in_window =
        let seat = seat_now in
        let place : id ≡ 0 = sym seat.number ∙ every.first in
        let first : get_elem? s.views 0 ≡ some v = subst (λ (k : ℕ). get_elem? s.views k ≡ some v) place at in
        let spare : v.spare ≡ holds.first.view.spare = ap (λ (x : DrawView). x.spare) (some-injective v holds.first.view (sym first ∙ holds.first.at)) in
        let made = holds.first.made in
        let seats = seat.seats in
        let all = every.all in
        let numbers = holds.numbers in
        let alone : sum_by (λ (x : DrawView). length x.numbers) s.views ≡ length v.numbers = omega arith in
        let sum = sum_alone (λ (x : DrawView). occurrences u x.drawn) (λ (x : DrawView). length x.numbers) s.views id v at alone
        (λ j b there no_number. let away = joined_away j b there no_number in ap (occurrences u) away.drawn ∙ occurrences-nil u) in
        let counted : u < sizes.units = subst (λ (k : ℕ). u < k) seat.units in_window.counted in
        let from = in_window.from in
        let below = in_window.below in
        let window : u / 256 ≡ w = omega arith in
        let number : u % 256 < window_length sizes.units w = omega arith in
        let passed : u % 256 < slice_index s.words (u / 256) = subst (λ (k : ℕ). u % 256 < slice_index s.words k) (sym window) (omega arith) in
        sym sum ∙ (holds.drawn u).one record { counted = counted; passed = passed }

    -- a step of the seat on one word, which leaves its numbers
    module _ (v' : DrawView) (same : (v'.units ≡ v.units) × (v'.seats ≡ v.seats) × (v'.number ≡ v.number) × (v'.numbers ≡ v.numbers) × (v'.spare ≡ v.spare)) where
      seat_after : IsSeatAt sizes id v'
      seat_after =
          let seat = seat_now in
          record {
            units = same.0 ∙ seat.units;
            seats = same.1 ∙ seat.seats;
            number = same.2 ∙ seat.number;
            spare = λ later. same.4 ∙ seat.spare later;
            some = subst (λ (ns : List ℕ). 0 < length ns) (sym same.3) some_number;
          }

      first_after : Dec (id ≡ 0) → HasFirstSeat sizes (set s.views id v')
      first_after (yes place) =
          let first : get_elem? s.views 0 ≡ some v = subst (λ (k : ℕ). get_elem? s.views k ≡ some v) place at in
          let spare : v.spare ≡ holds.first.view.spare = ap (λ (x : DrawView). x.spare) (some-injective v holds.first.view (sym first ∙ holds.first.at)) in
          let made = holds.first.made in
          let stays = same.4 in
          let long = length-set s.views id v' in
          record {
            view = v';
            at = subst (λ (k : ℕ). get_elem? (set s.views k v') 0 ≡ some v') (sym place) (set_here s.views 0 v' (below_length s.views 0 v first));
            seat = subst (λ (k : ℕ). IsSeatAt sizes k v') place seat_after;
            made = omega arith;
          }
      first_after (no elsewhere) =
          let made = holds.first.made in
          let long = length-set s.views id v' in
          record {
            view = holds.first.view;
            at = set_else s.views id 0 v' (λ e. elsewhere (sym e)) ∙ holds.first.at;
            seat = holds.first.seat;
            made = omega arith;
          }

      pub sum_stays : (f : DrawView → ℕ) → f v' ≡ f v → sum_by f (set s.views id v') ≡ sum_by f s.views
      sum_stays f e = let sum = sum_set f s.views id v v' at in omega arith

      pub step_keeps : (w m : ℕ) → w < length s.words → slice_index s.words w ≤ m
          → ((u : ℕ) → IsOneWhere (IsPassed sizes.units (set s.words w m) u) (sum_by (λ (x : DrawView). occurrences u x.drawn) (set s.views id v')))
          → ((q : ℕ) → 0 < occurrences q v'.ended → window_length sizes.units q ≤ slice_index (set s.words w m) q)
          → ((q : ℕ) → q < window_count sizes.units → slice_index (set s.words w m) q ≤ window_length sizes.units q + sum_by (ended_seats q) (set s.views id v'))
          → DrawRuleHolds sizes record { words = set s.words w m; homes = s.homes; views = set s.views id v' }
      step_keeps w m low more drawn ended bound =
          let long = length-set s.views id v' in
          record {
            few = holds.few;
            size = length-set s.words w m ∙ holds.size;
            first = first_after (ℕ_discrete id 0);
            seats = λ i x there. ⊎_elim (λ here. inl (seat_here sizes id i v' x here seat_after)) (λ other. holds.seats i x other.1) (at_set s.views id i v' x there);
            numbers = sum_stays (λ (x : DrawView). length x.numbers) (ap (λ (ns : List ℕ). length ns) same.3) ∙ (holds.numbers ∙ sym long);
            apart = λ n. one_same (n < length s.views) (n < length (set s.views id v')) _ _ (subst (λ (k : ℕ). n < k) (sym long)) (subst (λ (k : ℕ). n < k) long) (sym (sum_stays (λ (x : DrawView). occurrences n x.numbers) (ap (occurrences n) same.3))) (holds.apart n);
            drawn = drawn;
            ended = λ i x there q saw. ⊎_elim
                (λ here. ended q (subst (λ (y : DrawView). 0 < occurrences q y.ended) (sym here.1) saw))
                (λ other. let before = holds.ended i x other.1 q saw in let grows : slice_index s.words q ≤ slice_index (set s.words w m) q = word_grows s.words w m q low more in omega arith)
                (at_set s.views id i v' x there);
            bound = bound;
          }

      -- a step of the seat on another word, which leaves what it drew and saw end
      pub others_keep : (ws : List ℕ) → length ws ≡ length s.words → ((q : ℕ) → q < window_count sizes.units → slice_index ws q ≡ slice_index s.words q)
          → v'.drawn ≡ v.drawn → v'.ended ≡ v.ended → ((q : ℕ) → ended_seats q v' ≡ ended_seats q v) → DrawRuleHolds sizes record { words = ws; homes = s.homes; views = set s.views id v' }
      others_keep ws size words drawn ended seats =
          let long = length-set s.views id v' in
          record {
            few = holds.few;
            size = size ∙ holds.size;
            first = first_after (ℕ_discrete id 0);
            seats = λ i x there. ⊎_elim (λ here. inl (seat_here sizes id i v' x here seat_after)) (λ other. holds.seats i x other.1) (at_set s.views id i v' x there);
            numbers = sum_stays (λ (x : DrawView). length x.numbers) (ap (λ (ns : List ℕ). length ns) same.3) ∙ (holds.numbers ∙ sym long);
            apart = λ n. one_same (n < length s.views) (n < length (set s.views id v')) _ _ (subst (λ (k : ℕ). n < k) (sym long)) (subst (λ (k : ℕ). n < k) long) (sym (sum_stays (λ (x : DrawView). occurrences n x.numbers) (ap (occurrences n) same.3))) (holds.apart n);
            drawn = λ u. one_same (IsPassed sizes.units s.words u) (IsPassed sizes.units ws u) _ _
                (λ p. let counted = p.counted in record { counted = counted; passed = subst (λ (n : ℕ). u % 256 < n) (sym (words (u / 256) (omega arith))) p.passed })
                (λ p. let counted = p.counted in record { counted = counted; passed = subst (λ (n : ℕ). u % 256 < n) (words (u / 256) (omega arith)) p.passed })
                (sym (sum_stays (λ (x : DrawView). occurrences u x.drawn) (ap (occurrences u) drawn))) (holds.drawn u);
            ended = λ i x there q saw. dite (dec_le (suc q) (window_count sizes.units))
                (λ inside. subst (λ (n : ℕ). window_length sizes.units q ≤ n) (sym (words q inside)) (⊎_elim
                (λ here. holds.ended id v at q (subst (λ (es : List ℕ). 0 < occurrences q es) ended (subst (λ (y : DrawView). 0 < occurrences q y.ended) (sym here.1) saw)))
                (λ other. holds.ended i x other.1 q saw)
                (at_set s.views id i v' x there)))
                (λ outside. let none : window_length sizes.units q ≡ 0 = omega arith in omega (arith, none));
            bound = λ q inside. let bound = holds.bound q inside in let stays = sum_stays (ended_seats q) (seats q) in let word = words q inside in omega arith;
          }
