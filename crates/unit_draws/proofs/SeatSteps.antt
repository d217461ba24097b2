-- A table at the start meets the rule, and so does it after a split and after a join.
use Rattle.std.proofs.Common.{◌≡◌, ◌≢◌, ℕ, zero, suc, ◌+◌, ◌-◌, ◌/◌, ◌<◌, ◌≤◌, ◌⊎◌, inl, inr, ⊎_elim, List, [], ◌∷◌, ◌++◌, length, set, slice_index, sum_by, refl, sym, ap, subst, ◌∙◌, arith, length-set, length-append}
use Rattle.std.proofs.lemmas.List.Sums.{sum_by_push}
use mathlib.Core.Logic.{dite}
use mathlib.Core.Option.{some, some-injective, some-ne-none}
use native.Mathlib.Decide.{ℕ_discrete}
use lib.ListN.{get_elem?}
use Rattle.atomic_table.proofs.Lists.{at_set, set_here, set_else, at_longer}
use Rattle.atomic_table.specs.Table.{Splits, Joins, opening}
use Rattle.unit_draws.specs.declared.view.DrawSizes.{DrawSizes}
use Rattle.unit_draws.specs.declared.view.DrawView.{DrawView}
use Rattle.unit_draws.specs.Windows.{window_count}
use Rattle.unit_draws.specs.Seats.{occurrences, first_seat, with_less_spare, seat_split_off, with_seat, empty_seat}
use Rattle.unit_draws.specs.Rule.{IsSeatAt, IsJoinedAway, IsPassed, ended_seats, DrawRuleHolds}
use Rattle.unit_draws.proofs.Sums.{below_length, sum_set}
use Rattle.unit_draws.proofs.Occurrences.{occurrences-nil, occurrences-append, occurrences_same, occurrences_other}
use Rattle.unit_draws.proofs.Keeping.{one_same, seat_here, ended_most, ended_never, ended_now, seat_now}

pub at_push : {A : Type 0} (l : List A) (a b : A) (j : ℕ) → get_elem? (l ++ a ∷ []) j ≡ some b → (get_elem? l j ≡ some b) ⊎ ((j ≡ length l) × (a ≡ b))
at_push [] a b zero e = inr (refl, some-injective a b e)
at_push [] a b (suc j) e = absurd (some-ne-none b (sym e))
at_push (x ∷ xs) a b zero e = inl e
at_push (x ∷ xs) a b (suc j) e = ⊎_elim (λ there. inl there) (λ last. inr (ap suc last.0, last.1)) (at_push xs a b j e)

-- all next-unit words 0, and the first seat alone
pub opens : (sizes : DrawSizes) (tag ws : List ℕ) → 1 ≤ sizes.seats → sizes.seats ≤ 65536 → ((q : ℕ) → q < window_count sizes.units → slice_index ws q ≡ 0)
    → length ws ≡ window_count sizes.units + window_count sizes.units → DrawRuleHolds sizes (opening ws [] (first_seat sizes tag))
opens sizes tag ws some_seat few nothing size =
    let seat : IsSeatAt sizes 0 (first_seat sizes tag) = record { units = refl; seats = refl; number = refl; spare = λ later. absurd (omega arith); some = omega arith } in
    record {
      few = few;
      size = size;
      first = record { view = first_seat sizes tag; at = refl; seat = seat; made = omega arith };
      seats = λ i v there. ⊎_elim (λ none_there. absurd (some-ne-none v (sym none_there))) (λ here. inl (seat_here sizes 0 i (first_seat sizes tag) v here seat)) (at_push [] (first_seat sizes tag) v i there);
      numbers = refl;
      apart = λ n. dite (ℕ_discrete n 0)
          (λ is. let e : 0 + occurrences n (0 ∷ []) ≡ 1 = let one = occurrences_same n 0 (sym is) in omega arith in record { one = λ so. e; none = λ not. absurd (not (omega arith)) })
          (λ isnt. let e : 0 + occurrences n (0 ∷ []) ≡ 0 = let nothing_there = occurrences_other n 0 (λ k. isnt (sym k)) in omega arith in record { one = λ so. absurd (isnt (omega arith)); none = λ not. e });
      drawn = λ u. record { one = λ so. absurd (let counted = so.counted in let z = nothing (u / 256) (omega arith) in let p = so.passed in omega arith); none = λ not. let none_drawn = occurrences-nil u in omega arith };
      ended = λ i v there w saw. ⊎_elim (λ none_there. absurd (some-ne-none v (sym none_there))) (λ here. absurd (let none_ended = occurrences-nil w in let saw_it : 0 < occurrences w [] = subst (λ (x : DrawView). 0 < occurrences w x.ended) (sym here.1) saw in omega arith)) (at_push [] (first_seat sizes tag) v i there);
      bound = λ w inside. let z = nothing w inside in omega arith;
    }

-- a seat that is split off
pub splits : (sizes : DrawSizes) (id : ℕ) (v : DrawView) → 0 < length v.numbers → 0 < v.spare → Splits (DrawRuleHolds sizes) id v (with_less_spare v) (seat_split_off v)
splits sizes id v some_number some_spare s holds at =
    let seat = seat_now sizes s holds id v at some_number in
    let old : DrawView = with_less_spare v in
    let new : DrawView = seat_split_off v in
    let place : id ≡ 0 = dite (ℕ_discrete id 0) (λ is. is) (λ isnt. absurd (let z = seat.spare (omega arith) in omega arith)) in
    let at_first : get_elem? s.views 0 ≡ some v = subst (λ (k : ℕ). get_elem? s.views k ≡ some v) place at in
    let spare : v.spare ≡ holds.first.view.spare = ap (λ (x : DrawView). x.spare) (some-injective v holds.first.view (sym at_first ∙ holds.first.at)) in
    let made = holds.first.made in
    let seats = seat.seats in
    let next : v.seats - v.spare ≡ length s.views = omega arith in
    let long = length-set s.views id old in
    let longer : length (set s.views id old ++ new ∷ []) ≡ length s.views + 1 = length-append (set s.views id old) (new ∷ []) ∙ ap (λ (k : ℕ). k + 1) long in
    let old_seat : IsSeatAt sizes id old = record { units = seat.units; seats = seat.seats; number = seat.number; spare = λ later. absurd (omega arith); some = some_number } in
    let new_seat : IsSeatAt sizes (length s.views) new = record { units = seat.units; seats = seat.seats; number = next; spare = λ later. refl; some = omega arith } in
    let place_of : (i : ℕ) (x : DrawView) → get_elem? (set s.views id old ++ new ∷ []) i ≡ some x → ((get_elem? s.views i ≡ some x) ⊎ ((i ≡ id) × (old ≡ x))) ⊎ ((i ≡ length s.views) × (new ≡ x)) = λ i x there.
    ⊎_elim (λ set_there. inl (⊎_elim (λ here. inr here) (λ other. inl other.1) (at_set s.views id i old x set_there))) (λ last. inr (last.0 ∙ long, last.1)) (at_push (set s.views id old) new x i there) in
    let sums : (f : DrawView → ℕ) → f old ≡ f v → sum_by f (set s.views id old ++ new ∷ []) ≡ sum_by f s.views + f new = λ f same.
    let a = sum_set f s.views id v old at in let b = sum_by_push f (set s.views id old) new in omega arith in
    record {
      few = holds.few;
      size = holds.size;
      first = record {
        view = old;
        at = at_longer (set s.views id old) (new ∷ []) 0 old (subst (λ (k : ℕ). get_elem? (set s.views k old) 0 ≡ some old) (sym place) (set_here s.views 0 old (below_length s.views 0 v at_first)));
        seat = subst (λ (k : ℕ). IsSeatAt sizes k old) place old_seat;
        made = omega arith;
      };
      seats = λ i x there. ⊎_elim
          (λ before. ⊎_elim (λ same. holds.seats i x same) (λ here. inl (seat_here sizes id i old x here old_seat)) before)
          (λ last. inl (seat_here sizes (length s.views) i new x last new_seat))
          (place_of i x there);
      numbers = let sum = sums (λ (x : DrawView). length x.numbers) refl in let numbers = holds.numbers in omega arith;
      apart = λ n. let sum = sums (λ (x : DrawView). occurrences n x.numbers) refl in
          dite (ℕ_discrete n (length s.views))
          (λ is.
          let before = (holds.apart n).none (λ so. omega arith) in
          let one_more = occurrences_same n (v.seats - v.spare) (next ∙ sym is) in
          record { one = λ so. omega arith; none = λ not. absurd (not (omega arith)) })
          (λ isnt.
          let no_more = occurrences_other n (v.seats - v.spare) (λ e. isnt (sym e ∙ next)) in
          one_same (n < length s.views) (n < length (set s.views id old ++ new ∷ [])) _ _ (λ so. omega arith) (λ so. omega arith) (omega arith) (holds.apart n));
      drawn = λ u. let sum = sums (λ (x : DrawView). occurrences u x.drawn) refl in let no_more = occurrences-nil u in
          one_same (IsPassed sizes.units s.words u) (IsPassed sizes.units s.words u) _ _ (λ so. so) (λ so. so) (omega arith) (holds.drawn u);
      ended = λ i x there q saw. ⊎_elim
          (λ before. ⊎_elim (λ same. holds.ended i x same q saw) (λ here. holds.ended id v at q (subst (λ (y : DrawView). 0 < occurrences q y.ended) (sym here.1) saw)) before)
          (λ last. absurd (let none_ended = occurrences-nil q in let saw_it : 0 < occurrences q [] = subst (λ (y : DrawView). 0 < occurrences q y.ended) (sym last.1) saw in omega arith))
          (place_of i x there);
      bound = λ q inside. let sum = sums (ended_seats q) refl in let bound = holds.bound q inside in omega arith;
    }

-- a seat that takes another in
pub joins : (sizes : DrawSizes) (id other : ℕ) (v u : DrawView) → 0 < length v.numbers → 0 < length u.numbers → u.number ≢ 0 → Joins (DrawRuleHolds sizes) id v other u (with_seat v u) empty_seat
joins sizes id other v u some_number also_number not_first s holds at apart at_set_other =
    let both : DrawView = with_seat v u in
    let at_other : get_elem? s.views other ≡ some u = sym (set_else s.views id other both apart) ∙ at_set_other in
    let seat = seat_now sizes s holds id v at some_number in
    let other_seat = seat_now sizes s holds other u at_other also_number in
    let later : other ≢ 0 = λ e. not_first (other_seat.number ∙ e) in
    let views : List DrawView = set (set s.views id both) other empty_seat in
    let long : length views ≡ length s.views = length-set (set s.views id both) other empty_seat ∙ length-set s.views id both in
    let both_seat : IsSeatAt sizes id both = record { units = seat.units; seats = seat.seats; number = seat.number; spare = seat.spare; some = let sum = length-append v.numbers u.numbers in omega arith } in
    let place_of : (i : ℕ) (x : DrawView) → get_elem? views i ≡ some x → (empty_seat ≡ x) ⊎ (((i ≡ id) × (both ≡ x)) ⊎ (get_elem? s.views i ≡ some x)) = λ i x there.
    ⊎_elim (λ here. inl here.1) (λ rest. inr (⊎_elim (λ here. inl here) (λ same. inr same.1) (at_set s.views id i both x rest.1))) (at_set (set s.views id both) other i empty_seat x there) in
    let sums : (f : DrawView → ℕ) → sum_by f views + f v + f u ≡ sum_by f s.views + f both + f empty_seat = λ f.
    let a = sum_set f s.views id v both at in let b = sum_set f (set s.views id both) other u empty_seat at_set_other in omega arith in
    let first_views : get_elem? views 0 ≡ get_elem? (set s.views id both) 0 = set_else (set s.views id both) other 0 empty_seat (λ e. later (sym e)) in
    record {
      few = holds.few;
      size = holds.size;
      first = dite (ℕ_discrete id 0)
          (λ place.
          let at_first : get_elem? s.views 0 ≡ some v = subst (λ (k : ℕ). get_elem? s.views k ≡ some v) place at in
          let spare : v.spare ≡ holds.first.view.spare = ap (λ (x : DrawView). x.spare) (some-injective v holds.first.view (sym at_first ∙ holds.first.at)) in
          let made = holds.first.made in
          record {
            view = both;
            at = first_views ∙ subst (λ (k : ℕ). get_elem? (set s.views k both) 0 ≡ some both) (sym place) (set_here s.views 0 both (below_length s.views 0 v at_first));
            seat = subst (λ (k : ℕ). IsSeatAt sizes k both) place both_seat;
            made = omega arith;
          })
          (λ elsewhere.
          let made = holds.first.made in
          record { view = holds.first.view; at = first_views ∙ (set_else s.views id 0 both (λ e. elsewhere (sym e)) ∙ holds.first.at); seat = holds.first.seat; made = omega arith });
      seats = λ i x there. ⊎_elim
          (λ away. inr (subst IsJoinedAway away record { numbers = refl; drawn = refl; ended = refl; lowered = refl }))
          (λ rest. ⊎_elim (λ here. inl (seat_here sizes id i both x here both_seat)) (λ same. holds.seats i x same) rest)
          (place_of i x there);
      numbers = let sum = sums (λ (x : DrawView). length x.numbers) in let add = length-append v.numbers u.numbers in let numbers = holds.numbers in omega arith;
      apart = λ n. let sum = sums (λ (x : DrawView). occurrences n x.numbers) in let add = occurrences-append n v.numbers u.numbers in let nothing = occurrences-nil n in
          one_same (n < length s.views) (n < length views) _ _ (subst (λ (k : ℕ). n < k) (sym long)) (subst (λ (k : ℕ). n < k) long) (omega arith) (holds.apart n);
      drawn = λ x. let sum = sums (λ (y : DrawView). occurrences x y.drawn) in let add = occurrences-append x v.drawn u.drawn in let nothing = occurrences-nil x in
          one_same (IsPassed sizes.units s.words x) (IsPassed sizes.units s.words x) _ _ (λ so. so) (λ so. so) (omega arith) (holds.drawn x);
      ended = λ i x there q saw. ⊎_elim
          (λ away. absurd (let none_ended = occurrences-nil q in let saw_it : 0 < occurrences q [] = subst (λ (y : DrawView). 0 < occurrences q y.ended) (sym away) saw in omega arith))
          (λ rest. ⊎_elim
          (λ here.
          let saw_both : 0 < occurrences q (v.ended ++ u.ended) = subst (λ (y : DrawView). 0 < occurrences q y.ended) (sym here.1) saw in
          let add = occurrences-append q v.ended u.ended in
          dite (ℕ_discrete (occurrences q v.ended) 0) (λ never. holds.ended other u at_other q (omega arith)) (λ some_time. holds.ended id v at q (omega arith)))
          (λ same. holds.ended i x same q saw) rest)
          (place_of i x there);
      bound = λ q inside.
          let bound = holds.bound q inside in
          let sum = sums (ended_seats q) in
          let nothing = ended_never q empty_seat (occurrences-nil q) in
          let add = occurrences-append q v.ended u.ended in
          let length_add = length-append v.numbers u.numbers in
          let of_v = ended_most q v in
          let of_u = ended_most q u in
          dite (ℕ_discrete (occurrences q (v.ended ++ u.ended)) 0)
          (λ never.
          let v_never = ended_never q v (omega arith) in let u_never = ended_never q u (omega arith) in omega arith)
          (λ some_time. let all = ended_now q both (omega arith) in omega arith);
    }
