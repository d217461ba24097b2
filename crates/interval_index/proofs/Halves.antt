-- Intervals laid out in two parts.
use Rattle.std.proofs.Common.{◌≡◌, ◌-◌, ◌∙◌, ℕ, List, length, take, drop, Option, None, Result, Ok, Err, IfOk, sym, ap, subst, length-drop}
use Rattle.std.proofs.Math.Seq.{take-length}
use Rattle.std.proofs.lemmas.List.{take-append-drop}
use Rattle.interval_index.specs.declared.interval.Interval.{Interval}
use Rattle.interval_index.specs.declared.boundaries.Boundary.{Boundary}
use Rattle.interval_index.specs.Intervals.{lesser, least_with}
use Rattle.interval_index.specs.Boundaries.{Lays, Merges, first_covering}
use Rattle.interval_index.proofs.Lesser.{least_append}

rest_all : {X : Type 0} (m : ℕ) (xs : List X) → take (length xs - m) (drop m xs) ≡ drop m xs
rest_all m xs = ap (λ (n : ℕ). take n (drop m xs)) (sym (length-drop m xs)) ∙ take-length (drop m xs)

-- what lays out the halves, merged, lays out the whole
pub halves_lay : {V E : Type 0} (items : V → List Boundary) (is : List Interval) (m : ℕ) (numbers : List ℕ) (first second one other : List Boundary) (merged : Result V E)
    → one ≡ first → other ≡ second → Lays is (take m numbers) first → Lays is (take (length numbers - m) (drop m numbers)) second
    → IfOk merged (λ v. Merges (record { first = one; first_owner = None; second = other; second_owner = None }) (items v)) → IfOk merged (λ v. Lays is numbers (items v))
halves_lay items is m numbers first second one other (Ok v) e f g h both = record {
  ascends = both.ascends 0 (subst (Lays is (take m numbers)) (sym e) g).ascends (subst (Lays is (take (length numbers - m) (drop m numbers))) (sym f) h).ascends;
  first = λ n. both.owner n
      ∙ ap (λ (l : List Boundary). lesser (first_covering l n) (first_covering other n)) e
      ∙ ap (λ (l : List Boundary). lesser (first_covering first n) (first_covering l n)) f
      ∙ ap (λ (x : Option ℕ). lesser x (first_covering second n)) (g.first n)
      ∙ ap (lesser (least_with is (take m numbers) n)) (h.first n ∙ ap (λ (ks : List ℕ). least_with is ks n) (rest_all m numbers))
      ∙ sym (least_append is (take m numbers) (drop m numbers) n)
      ∙ ap (λ (ks : List ℕ). least_with is ks n) (take-append-drop m numbers);
}
halves_lay items is m numbers first second one other (Err e) _ _ _ _ _ = tt
