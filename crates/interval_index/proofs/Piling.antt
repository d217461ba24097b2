-- Intervals added to a pile.
use Rattle.std.proofs.Common.{◌≡◌, ◌≤◌, ◌<◌, ◌∙◌, ◌&&◌, ℕ, Bool, true, false, cond, nat_lt, nat_le, List, [], ◌∷◌, ◌++◌, length, Option, Some, None, IfSome, OnOk, Result, Ok, Err, refl, sym, ap, subst, arith}
use Rattle.std.specs.List.{All}
use Rattle.std.proofs.lemmas.List.{length-append}
use Rattle.std.proofs.lemmas.List.Elements.{All-push, All-head, All-tail}
use Rattle.interval_index.specs.declared.interval.Interval.{Interval}
use Rattle.interval_index.specs.declared.boundaries.Boundary.{Boundary}
use Rattle.interval_index.specs.declared.piles.Pile.{Pile}
use Rattle.interval_index.specs.Intervals.{lesser, has, hides, if_has, interval_at, least_with}
use Rattle.interval_index.specs.Boundaries.{AscendsBy, owner_at, first_covering}
use Rattle.interval_index.specs.Piles.{IsPile, AddsNothing}
use Rattle.interval_index.proofs.Lesser.{lesser_none, lesser_groups, lesser_same, lesser_swaps, lesser_low, least_push}

below : (n m : ℕ) → n < m → nat_lt n m ≡ true
below n m lt = grind (arith, lt)

not_below : (n m : ℕ) → m ≤ n → nat_lt n m ≡ false
not_below n m le = grind (arith, le)

le_from : (n m : ℕ) → nat_le n m ≡ true → n ≤ m
le_from n m e = grind (arith, e)

lt_from : (n m : ℕ) → nat_lt n m ≡ true → n < m
lt_from n m e = grind (arith, e)

le_not : (n m : ℕ) → nat_lt n m ≡ false → m ≤ n
le_not n m e = grind (arith, e)

to_le : (n m : ℕ) → n ≤ m → nat_le n m ≡ true
to_le n m le = grind (arith, le)

not_le : (n m : ℕ) → m < n → nat_le n m ≡ false
not_le n m lt = grind (arith, lt)

and_both : (x y : Bool) → (x && y) ≡ true → (x ≡ true) × (y ≡ true)
and_both true true e = (refl, refl)
and_both true false e = (refl, e)
and_both false y e = (e, grind (arith, e))

-- a boundary behind the others
push_by : (b : Boundary) (owner before : Option ℕ) (n from : ℕ) (test : Bool) → test ≡ nat_lt n from → from ≤ b.from
    → cond test owner (cond (nat_lt n b.from) before b.owner) ≡ cond (nat_lt n b.from) (cond test owner before) b.owner
push_by b owner before n from true e le = rw (below n b.from (omega (arith, lt_from n from (sym e), le))) refl
push_by b owner before n from false e le = refl

pub owner_push : (owner : Option ℕ) (list : List Boundary) (b : Boundary) (n : ℕ) → All (λ (x : Boundary). x.from ≤ b.from) list
    → owner_at owner (list ++ b ∷ []) n ≡ cond (nat_lt n b.from) (owner_at owner list n) b.owner
owner_push owner [] b n low = refl
owner_push owner (x ∷ list) b n low =
    ap (cond (nat_lt n x.from) owner) (owner_push x.owner list b n (All-tail (λ (y : Boundary). y.from ≤ b.from) x list low))
    ∙ push_by b owner (owner_at x.owner list n) n x.from (nat_lt n x.from) refl (All-head (λ (y : Boundary). y.from ≤ b.from) x list low)

pub ascends_push : (low : ℕ) (list : List Boundary) (b : Boundary) → AscendsBy (λ (x : Boundary). x.from) low list → All (λ (x : Boundary). x.from ≤ b.from) list → low ≤ b.from
    → AscendsBy (λ (x : Boundary). x.from) low (list ++ b ∷ [])
ascends_push low [] b h upto le = (le, tt)
ascends_push low (x ∷ list) b h upto le =
    (h.0, ascends_push x.from list b h.1 (All-tail (λ (y : Boundary). y.from ≤ b.from) x list upto) (All-head (λ (y : Boundary). y.from ≤ b.from) x list upto))

upto : (list : List Boundary) (end other : ℕ) → end ≤ other → All (λ (x : Boundary). x.from ≤ end) list → All (λ (x : Boundary). x.from ≤ other) list
upto list end other le h = λ k d within. omega (arith, le, h k d within)

-- an interval behind those of a list of boundaries
inner : (low high k n : ℕ) (front : Option ℕ) (before behind : Bool) → before ≡ nat_lt n low → behind ≡ nat_lt n high → low < high
    → (low ≤ n → front ≡ None)
    → cond behind (cond before front (Some k)) None ≡ lesser front (cond (nat_le low n && nat_lt n high) (Some k) None)
inner low high k n front true true e f lt none = rw (not_le low n (lt_from n low (sym e))) (sym (lesser_none front))
inner low high k n front true false e f lt none = absurd (omega (arith, lt_from n low (sym e), le_not n high (sym f), lt))
inner low high k n front false true e f lt none = rw (none (le_not n low (sym e)), to_le low n (le_not n low (sym e)), sym f) refl
inner low high k n front false false e f lt none = rw (none (le_not n low (sym e)), to_le low n (le_not n low (sym e)), sym f) refl

laid_at : (list : List Boundary) (low high end k n : ℕ) → low < high → end ≤ low → All (λ (x : Boundary). x.from ≤ end) list
    → ((m : ℕ) → end ≤ m → first_covering list m ≡ None)
    → first_covering ((list ++ record { from = low; owner = Some k } ∷ []) ++ record { from = high; owner = None } ∷ []) n
    ≡ cond (nat_lt n high) (cond (nat_lt n low) (first_covering list n) (Some k)) None
laid_at list low high end k n lt le within behind =
    let first : Boundary = record { from = low; owner = Some k } in
    owner_push None (list ++ first ∷ []) (record { from = high; owner = None }) n
    (All-push (λ (x : Boundary). x.from ≤ high) list first (upto list end high (omega (arith, lt, le)) within) (omega (arith, lt)))
    ∙ ap (λ (x : Option ℕ). cond (nat_lt n high) x None) (owner_push None list first n (upto list end low le within))

groups : {X : Type 0} (list : List X) (x y : X) → list ++ x ∷ y ∷ [] ≡ (list ++ x ∷ []) ++ y ∷ []
groups [] x y = refl
groups (z ∷ list) x y = ap (λ l. z ∷ l) (groups list x y)

-- what adds nothing to some adds nothing to more
pub keeps : (is : List Interval) (done : List ℕ) (k c : ℕ) → AddsNothing is done c → AddsNothing is (done ++ k ∷ []) c
keeps is done k c h = λ n.
    ap (λ (x : Option ℕ). lesser x (if_has is c n)) (least_push is done k n)
    ∙ lesser_swaps (least_with is done n) (if_has is k n) (if_has is c n)
    ∙ ap (λ (x : Option ℕ). lesser x (if_has is k n)) (h n)
    ∙ sym (least_push is done k n)

-- the second of two is there already
pub itself : (is : List Interval) (done : List ℕ) (k : ℕ) → AddsNothing is (done ++ k ∷ []) k
itself is done k = λ n.
    ap (λ (x : Option ℕ). lesser x (if_has is k n)) (least_push is done k n)
    ∙ lesser_groups (least_with is done n) (if_has is k n) (if_has is k n)
    ∙ ap (lesser (least_with is done n)) (lesser_same (if_has is k n))
    ∙ sym (least_push is done k n)

cover_keeps : (is : List Interval) (done : List ℕ) (k : ℕ) (cover : Option ℕ) → IfSome cover (AddsNothing is done) → IfSome cover (AddsNothing is (done ++ k ∷ []))
cover_keeps is done k (Some c) h = keeps is done k c h
cover_keeps is done k None h = tt

-- an interval that adds nothing
pub pile_stays : (is : List Interval) (done : List ℕ) (k : ℕ) (pile : Pile) → AddsNothing is done k → IsPile is done pile → IsPile is (done ++ k ∷ []) pile
pile_stays is done k pile nothing h = record {
  ascends = h.ascends;
  within = h.within;
  behind = h.behind;
  owned = h.owned;
  owners = λ n c e. keeps is done k c (h.owners n c e);
  told = λ n. h.told n ∙ sym (nothing n) ∙ sym (least_push is done k n);
  others = h.others;
  few = omega (arith, h.few, length-append done (k ∷ []));
  known = h.known;
  cover = cover_keeps is done k pile.cover h.cover;
}

-- one without numbers
pub empty_adds : (is : List Interval) (done : List ℕ) (k : ℕ) (x : Interval) → x ≡ interval_at is k → x.high ≤ x.low → AddsNothing is done k
empty_adds is done k x e le = λ n.
    ap (λ (y : Interval). lesser (least_with is done n) (cond (has y n) (Some k) None)) (sym e)
    ∙ ap (λ (test : Bool). lesser (least_with is done n) (cond test (Some k) None)) (nowhere n)
    ∙ lesser_none (least_with is done n)
  where
    none_by : (n low high : ℕ) (one two : Bool) → one ≡ nat_le low n → two ≡ nat_lt n high → high ≤ low → (one && two) ≡ false
    none_by n low high true true e f le = absurd (omega (arith, le_from low n (sym e), lt_from n high (sym f), le))
    none_by n low high true false e f le = refl
    none_by n low high false two e f le = refl

    nowhere : (n : ℕ) → has x n ≡ false
    nowhere n = none_by n x.low x.high (nat_le x.low n) (nat_lt n x.high) refl refl le

-- one that is hidden
hidden_by : (is : List Interval) (done : List ℕ) (c k n : ℕ) (one other : Bool) → c ≤ k → one ≡ has (interval_at is c) n → other ≡ has (interval_at is k) n → (other ≡ true → one ≡ true)
    → lesser (least_with is done n) (cond one (Some c) None) ≡ least_with is done n → lesser (least_with is done n) (cond other (Some k) None) ≡ least_with is done n
hidden_by is done c k n one false le e f within h = lesser_none (least_with is done n)
hidden_by is done c k n true true le e f within h =
    ap (λ (x : Option ℕ). lesser x (Some k)) (sym h)
    ∙ lesser_groups (least_with is done n) (Some c) (Some k)
    ∙ ap (lesser (least_with is done n)) (lesser_low c k le)
    ∙ h
hidden_by is done c k n false true le e f within h = let no : false ≡ true = within refl in grind (arith, no)

inside : (a b : Interval) (n : ℕ) → a.low ≤ b.low → b.high ≤ a.high → has b n ≡ true → has a n ≡ true
inside a b n low high e =
    let both = and_both (nat_le b.low n) (nat_lt n b.high) e in
    rw (to_le a.low n (omega (arith, low, le_from b.low n both.0)), below n a.high (omega (arith, high, lt_from n b.high both.1))) refl

pub hidden_adds : (is : List Interval) (done : List ℕ) (c k : ℕ) → hides is c k ≡ true → AddsNothing is done c → AddsNothing is done k
hidden_adds is done c k hidden h = λ n.
    let a : Interval = interval_at is c in
    let b : Interval = interval_at is k in
    let first = and_both (nat_le c k) (nat_le a.low b.low && nat_le b.high a.high) hidden in
    let rest = and_both (nat_le a.low b.low) (nat_le b.high a.high) first.1 in
    hidden_by is done c k n (has a n) (has b n) (le_from c k first.0) refl refl (inside a b n (le_from a.low b.low rest.0) (le_from b.high a.high rest.1)) (h n)

pub if_cover : (P : ℕ → Type 0) (cover : Option ℕ) (c : ℕ) → cover ≡ Some c → IfSome cover P → P c
if_cover P cover c e h = subst (λ (x : Option ℕ). IfSome x P) e h

-- what holds of the owners of the old boundaries and of the new number, holds of those of the new ones
owner_by : (P : ℕ → Type 0) (k c : ℕ) (front : Option ℕ) (behind before : Bool) → P k → (front ≡ Some c → P c) → cond behind (cond before front (Some k)) None ≡ Some c → P c
owner_by P k c front true true here old e = old e
owner_by P k c front true false here old e = subst P (cc e) here
owner_by P k c front false before here old e = absurd (grind (arith, e))

-- one that lies behind those that were laid out
pub pile_laid : (is : List Interval) (done : List ℕ) (k : ℕ) (old new : Pile) (x : Interval) → k < length is → x ≡ interval_at is k → x.low < x.high → old.end ≤ x.low
    → new.boundaries.items ≡ old.boundaries.items ++ record { from = x.low; owner = Some k } ∷ record { from = x.high; owner = None } ∷ []
    → new.end ≡ x.high → new.others ≡ old.others → new.cover ≡ old.cover → IsPile is done old → IsPile is (done ++ k ∷ []) new
pile_laid is done k old new x known e lt le pushed end others cover h =
    let one : Boundary = record { from = x.low; owner = Some k } in
    let two : Boundary = record { from = x.high; owner = None } in
    let list : List Boundary = old.boundaries.items in
    let all : new.boundaries.items ≡ (list ++ one ∷ []) ++ two ∷ [] = pushed ∙ groups list one two in
    let low : All (λ (b : Boundary). b.from ≤ x.low) list = upto list old.end x.low le h.within in
    let high : All (λ (b : Boundary). b.from ≤ x.high) (list ++ one ∷ []) =
    All-push (λ (b : Boundary). b.from ≤ x.high) list one (upto list x.low x.high (omega (arith, lt)) low) (omega (arith, lt)) in
    let reads = λ (n : ℕ). ap (λ (l : List Boundary). first_covering l n) all ∙ laid_at list x.low x.high old.end k n lt le h.within h.behind in
    record {
      ascends = subst (AscendsBy (λ (b : Boundary). b.from) 0) (sym all)
          (ascends_push 0 (list ++ one ∷ []) two (ascends_push 0 list one h.ascends low (omega arith)) high (omega arith));
      within = subst (λ (m : ℕ). All (λ (b : Boundary). b.from ≤ m) new.boundaries.items) (sym end)
          (subst (All (λ (b : Boundary). b.from ≤ x.high)) (sym all) (All-push (λ (b : Boundary). b.from ≤ x.high) (list ++ one ∷ []) two high (omega arith)));
      behind = λ n past. reads n ∙ ap (λ (test : Bool). cond test (cond (nat_lt n x.low) (first_covering list n) (Some k)) None) (not_below n x.high (omega (arith, past, end)));
      owned = λ n c e. owner_by (λ (m : ℕ). m < length is) k c (first_covering list n) (nat_lt n x.high) (nat_lt n x.low) known (h.owned n c) (sym (reads n) ∙ e);
      owners = λ n c e. owner_by (AddsNothing is (done ++ k ∷ [])) k c (first_covering list n) (nat_lt n x.high) (nat_lt n x.low) (itself is done k) (λ f. keeps is done k c (h.owners n c f)) (sym (reads n) ∙ e);
      told = λ n.
          ap (λ (l : List ℕ). lesser (first_covering new.boundaries.items n) (least_with is l n)) (ap (λ v. v.items) others)
          ∙ ap (λ (f : Option ℕ). lesser f (least_with is old.others.items n))
          (reads n ∙ inner x.low x.high k n (first_covering list n) (nat_lt n x.low) (nat_lt n x.high) refl refl lt (λ up. h.behind n (omega (arith, le, up)))
          ∙ ap (λ (y : Interval). lesser (first_covering list n) (cond (has y n) (Some k) None)) e)
          ∙ lesser_swaps (first_covering list n) (if_has is k n) (least_with is old.others.items n)
          ∙ ap (λ (f : Option ℕ). lesser f (if_has is k n)) (h.told n)
          ∙ sym (least_push is done k n);
      others = subst (λ v. All (λ (m : ℕ). m < length is) v.items) (sym others) h.others;
      few = omega (arith, h.few, ap (λ v. length v.items) others, length-append done (k ∷ []));
      known = subst (λ (c : Option ℕ). IfSome c (λ (m : ℕ). m < length is)) (sym cover) h.known;
      cover = subst (λ (c : Option ℕ). IfSome c (AddsNothing is (done ++ k ∷ []))) (sym cover) (cover_keeps is done k old.cover h.cover);
    }

-- one that is left to the others
pub pile_left : (is : List Interval) (done : List ℕ) (k c : ℕ) (old new : Pile) → k < length is → c < length is
    → AddsNothing is (done ++ k ∷ []) c → new.boundaries ≡ old.boundaries → new.end ≡ old.end
    → new.others.items ≡ old.others.items ++ k ∷ [] → new.cover ≡ Some c → IsPile is done old → IsPile is (done ++ k ∷ []) new
pile_left is done k c old new known knows nothing boundaries end pushed cover h = record {
  ascends = subst (λ v. AscendsBy (λ (b : Boundary). b.from) 0 v.items) (sym boundaries) h.ascends;
  within = subst (λ v. All (λ (b : Boundary). b.from ≤ new.end) v.items) (sym boundaries)
      (subst (λ (m : ℕ). All (λ (b : Boundary). b.from ≤ m) old.boundaries.items) (sym end) h.within);
  behind = λ n past. ap (λ v. first_covering v.items n) boundaries ∙ h.behind n (omega (arith, past, end));
  owned = λ n m e. h.owned n m (sym (ap (λ v. first_covering v.items n) boundaries) ∙ e);
  owners = λ n m e. keeps is done k m (h.owners n m (sym (ap (λ v. first_covering v.items n) boundaries) ∙ e));
  told = λ n.
      ap (λ v. lesser (first_covering v.items n) (least_with is new.others.items n)) boundaries
      ∙ ap (λ (l : List ℕ). lesser (first_covering old.boundaries.items n) (least_with is l n)) pushed
      ∙ ap (lesser (first_covering old.boundaries.items n)) (least_push is old.others.items k n)
      ∙ sym (lesser_groups (first_covering old.boundaries.items n) (least_with is old.others.items n) (if_has is k n))
      ∙ ap (λ (f : Option ℕ). lesser f (if_has is k n)) (h.told n)
      ∙ sym (least_push is done k n);
  others = subst (All (λ (m : ℕ). m < length is)) (sym pushed) (All-push (λ (m : ℕ). m < length is) old.others.items k h.others known);
  few = omega (arith, h.few, ap length pushed, length-append old.others.items (k ∷ []), length-append done (k ∷ []));
  known = subst (λ (x : Option ℕ). IfSome x (λ (m : ℕ). m < length is)) (sym cover) knows;
  cover = subst (λ (x : Option ℕ). IfSome x (AddsNothing is (done ++ k ∷ []))) (sym cover) nothing;
}

-- who owns a number, as the slice of the boundaries tells it
pub owner_read : (list slice : List Boundary) (n c : ℕ) (found : Option ℕ) → slice ≡ list → found ≡ first_covering slice n → found ≡ Some c → first_covering list n ≡ Some c
owner_read list slice n c found e f g = ap (λ (l : List Boundary). first_covering l n) (sym e) ∙ sym f ∙ g

-- what holds of an answer that is `Ok`
pub on_ok : {X E : Type 0} (P R : Type 0) (r : Result X E) → OnOk r P → (P → R) → OnOk r R
on_ok P R (Ok x) p f = f p
on_ok P R (Err e) p f = tt

pub on_ok_both : {X E : Type 0} (P Q R : Type 0) (r : Result X E) → OnOk r P → OnOk r Q → (P → Q → R) → OnOk r R
on_ok_both P Q R (Ok x) p q f = f p q
on_ok_both P Q R (Err e) p q f = tt
