-- The sum of the counters of seats.
use Rattle.std.specs.Prelude.{◌≡◌, ℕ, ◌+◌, ◌-◌, ◌<◌, ◌≤◌, ◌^◌, min, sum_by, List, [], ◌∷◌, length, take, get_or, refl}
use Rattle.std.proofs.Common.{arith, ap, ap₂, sym, ◌∙◌, take_all}
use Rattle.std.proofs.lemmas.List.{take_more}
use Rattle.std.proofs.lemmas.List.Sums.{sum_by-cons, sum_by_push}
use Rattle.dump_workers.specs.Passes.{EachAtZero}
use Rattle.dump_workers.specs.Seats.{DumpSeatView}

abbrev pub counted : List DumpSeatView → ℕ
counted seats = sum_by (λ (seat : DumpSeatView). seat.steps) seats

pub steps_next : (seats : List DumpSeatView) (i sum count new : ℕ) (x : DumpSeatView) → i < length seats → x ≡ get_or seats i x → count ≡ x.steps
    → sum ≡ min (counted (take i seats)) (2 ^ 64 - 1) → new ≡ min (sum + count) (2 ^ 64 - 1) → new ≡ min (counted (take (i + 1) seats)) (2 ^ 64 - 1)
steps_next seats i sum count new x inside is counts before more =
    let a : ℕ = counted (take i seats) in
    let b : ℕ = counted (take (i + 1) seats) in
    let here : (get_or seats i x).steps ≡ x.steps = ap (λ (v : DumpSeatView). v.steps) (sym is) in
    let next : b ≡ a + (get_or seats i x).steps = ap counted (take_more seats i x inside) ∙ sum_by_push (λ (seat : DumpSeatView). seat.steps) (take i seats) (get_or seats i x) in
    let s : ℕ = (get_or seats i x).steps in
    let next' : b ≡ a + s = next in
    let c : count ≡ s = counts ∙ sym here in
    let first : sum ≡ min a (2 ^ 64 - 1) = before in
    let goal : new ≡ min b (2 ^ 64 - 1) = omega (arith, next', c, first, more) in
    goal

pub steps_end : (seats : List DumpSeatView) (i sum : ℕ) → length seats ≤ i → sum ≡ min (counted (take i seats)) (2 ^ 64 - 1) → sum ≡ min (counted seats) (2 ^ 64 - 1)
steps_end seats i sum past is = is ∙ ap (λ (s : List DumpSeatView). min (counted s) (2 ^ 64 - 1)) (take_all i seats past)

-- counters at 0 have the sum 0
pub none_counted : (seats : List DumpSeatView) → EachAtZero seats → counted seats ≡ 0
none_counted [] zero = refl
none_counted (seat ∷ seats) zero =
    sum_by-cons (λ (seat : DumpSeatView). seat.steps) seat seats ∙ ap₂ (λ m n. m + n) zero.0 (none_counted seats zero.1)

pub zero_sum : (seats counted_seats : List DumpSeatView) (sum : ℕ) → sum ≡ min (counted counted_seats) (2 ^ 64 - 1) → counted_seats ≡ seats → EachAtZero seats → sum ≡ 0
zero_sum seats counted_seats sum is same zero =
    let none : counted counted_seats ≡ 0 = ap counted same ∙ none_counted seats zero in
    is ∙ ap (λ n. min n (2 ^ 64 - 1)) none
