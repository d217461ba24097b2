-- The lower of two numbers that may be missing.
use Rattle.std.proofs.Common.{◌≡◌, ◌≤◌, ◌∙◌, ℕ, List, [], ◌∷◌, ◌++◌, Option, Some, None, min, refl, sym, ap, arith}
use Rattle.std.proofs.Math.Nat.{min_comm}
use Rattle.interval_index.specs.declared.interval.Interval.{Interval}
use Rattle.interval_index.specs.Intervals.{lesser, if_has, least_with}

pub lesser_none : (x : Option ℕ) → lesser x None ≡ x
lesser_none None = refl
lesser_none (Some x) = refl

min_same : (x : ℕ) → min x x ≡ x
min_same x = grind arith

min_low : (x y : ℕ) → x ≤ y → min x y ≡ x
min_low x y le = grind (arith, le)

min_groups : (x y z : ℕ) → min (min x y) z ≡ min x (min y z)
min_groups x y z = grind arith

pub lesser_groups : (x y z : Option ℕ) → lesser (lesser x y) z ≡ lesser x (lesser y z)
lesser_groups None y z = refl
lesser_groups (Some x) None z = refl
lesser_groups (Some x) (Some y) None = refl
lesser_groups (Some x) (Some y) (Some z) = ap Some (min_groups x y z)

pub lesser_turns : (x y : Option ℕ) → lesser x y ≡ lesser y x
lesser_turns None y = sym (lesser_none y)
lesser_turns (Some x) None = refl
lesser_turns (Some x) (Some y) = ap Some (min_comm x y)

pub lesser_same : (x : Option ℕ) → lesser x x ≡ x
lesser_same None = refl
lesser_same (Some x) = ap Some (min_same x)

-- the last two change places
pub lesser_swaps : (x y z : Option ℕ) → lesser (lesser x y) z ≡ lesser (lesser x z) y
lesser_swaps x y z = lesser_groups x y z ∙ ap (lesser x) (lesser_turns y z) ∙ sym (lesser_groups x z y)

pub lesser_low : (x y : ℕ) → x ≤ y → lesser (Some x) (Some y) ≡ Some x
lesser_low x y le = ap Some (min_low x y le)

pub least_append : (is : List Interval) (ks others : List ℕ) (n : ℕ) → least_with is (ks ++ others) n ≡ lesser (least_with is ks n) (least_with is others n)
least_append is [] others n = refl
least_append is (k ∷ ks) others n =
    ap (lesser (if_has is k n)) (least_append is ks others n) ∙ sym (lesser_groups (if_has is k n) (least_with is ks n) (least_with is others n))

pub least_push : (is : List Interval) (ks : List ℕ) (k n : ℕ) → least_with is (ks ++ k ∷ []) n ≡ lesser (least_with is ks n) (if_has is k n)
least_push is ks k n = least_append is ks (k ∷ []) n ∙ ap (lesser (least_with is ks n)) (lesser_none (if_has is k n))
