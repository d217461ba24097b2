-- How many: different numbers in a list, entries among the words, and a last generation that is full.
use Rattle.std.proofs.Common.{◌≡◌, ◌≢◌, ℕ, zero, suc, ◌+◌, ◌*◌, ◌<◌, ◌≤◌, Bool, true, false, List, [], ◌∷◌, ◌++◌, length, slice_index, Option, Some, None, ◌||◌, ◌==◌, if◌then◌else◌, refl, sym, ap, subst, ◌∙◌, ⊎_elim, arith, eq-eqb, ne_eqb, length-append, true≢false}
use mathlib.Core.Logic.{dite}
use mathlib.Core.Option.{some, some-injective, some-ne-none}
use native.Mathlib.Decide.{ℕ_discrete}
use lib.ListN.{get_elem?}
use Rattle.atomic_table.proofs.Lists.{one_turn}
use Rattle.map_core.specs.declared.cell.Cell.{Cell}
use Rattle.map_core.specs.declared.entry.Entry.{Entry}
use Rattle.map_core.specs.declared.layout.Layout.{Layout}
use Rattle.map_core.specs.declared.view.View.{View}
use Rattle.map_core.specs.Sizes.{cells_of}
use Rattle.map_core.specs.History.{value_in, IsLegalHistory, is_in, by_any}
use Rattle.map_core.specs.Places.{offset, key_place, value_place, cells_in, home, spot, IsCell}
use Rattle.map_core.specs.Machine.{IsWord, State, Passed, OneCellPerKey, OneHistory}
use Rattle.map_core.specs.Passes.{cell, placed, total, WhoBelow, Distinct, CountIsHonest, OpenClaims}
use Rattle.map_core.proofs.PlaceLemmas.{last_within, spot_cell}
use Rattle.map_core.proofs.WordLemmas.{one_cell}
use Rattle.map_core.proofs.HistoryLemmas.{value_hit, value_miss, by_hit, test_cases}
use Rattle.map_core.proofs.PassLemmas.{in_first, in_second}

pub in_hit : (n k : ℕ) (ns : List ℕ) → n ≡ k → is_in n (k ∷ ns) ≡ true
in_hit n k ns is = subst (λ (b : Bool). (b || is_in n ns) ≡ true) (sym (eq-eqb n k is)) refl

pub in_miss : (n k : ℕ) (ns : List ℕ) → n ≢ k → is_in n (k ∷ ns) ≡ is_in n ns
in_miss n k ns isnt = subst (λ (b : Bool). (b || is_in n ns) ≡ is_in n ns) (sym (ne_eqb n k isnt)) refl

-- the list without the first n
without : ℕ → List ℕ → List ℕ
without n [] = []
without n (k ∷ ks) = if n == k then ks else k ∷ without n ks

without_hit : (n k : ℕ) (ks : List ℕ) → n ≡ k → without n (k ∷ ks) ≡ ks
unfolding without
without_hit n k ks is = subst (λ (b : Bool). (if b then ks else k ∷ without n ks) ≡ ks) (sym (eq-eqb n k is)) refl

without_miss : (n k : ℕ) (ks : List ℕ) → n ≢ k → without n (k ∷ ks) ≡ k ∷ without n ks
unfolding without
without_miss n k ks isnt = subst (λ (b : Bool). (if b then ks else k ∷ without n ks) ≡ k ∷ without n ks) (sym (ne_eqb n k isnt)) refl

without_length : (n : ℕ) (ks : List ℕ) → is_in n ks ≡ true → length (without n ks) + 1 ≡ length ks
without_length n [] h = absurd (true≢false (sym h))
without_length n (k ∷ ks) h =
    dite (ℕ_discrete n k)
    (λ is. let e = ap (λ (x : List ℕ). length x) (without_hit n k ks is) in let a : ℕ = length (without n (k ∷ ks)) in let b : ℕ = length ks in let e' : a ≡ b = e in let goal : a + 1 ≡ suc b = omega arith in goal)
    (λ isnt.
    let e = ap (λ (x : List ℕ). length x) (without_miss n k ks isnt) in
    let r = without_length n ks (sym (in_miss n k ks isnt) ∙ h) in
    let a : ℕ = length (without n (k ∷ ks)) in
    let b : ℕ = length ks in
    let c : ℕ = length (without n ks) in
    let e' : a ≡ suc c = e in
    let r' : c + 1 ≡ b = r in
    let goal : a + 1 ≡ suc b = omega arith in goal)

without_keeps : (n m : ℕ) (ks : List ℕ) → m ≢ n → is_in m ks ≡ true → is_in m (without n ks) ≡ true
without_keeps n m [] ne h = absurd (true≢false (sym h))
without_keeps n m (k ∷ ks) ne h =
    dite (ℕ_discrete n k)
    (λ is. ap (is_in m) (without_hit n k ks is) ∙ (sym (in_miss m k ks (λ e. ne (e ∙ sym is))) ∙ h))
    (λ isnt. ap (is_in m) (without_miss n k ks isnt) ∙ dite (ℕ_discrete m k)
    (λ e. in_hit m k (without n ks) e)
    (λ o. in_miss m k (without n ks) o ∙ without_keeps n m ks ne (sym (in_miss m k ks o) ∙ h)))

-- different numbers that stand in a list are no more than it has
pub inject : (ns xs : List ℕ) → Distinct ns → ((n : ℕ) → is_in n ns ≡ true → is_in n xs ≡ true) → length ns ≤ length xs
inject [] xs d all = omega arith
inject (n ∷ ns) xs d all =
    let here = all n (in_hit n n ns refl) in
    let less = without_length n xs here in
    let later : length ns ≤ length (without n xs) = inject ns (without n xs) d.1 (λ m h.
    let ne : m ≢ n = λ e. true≢false (sym h ∙ (ap (λ (x : ℕ). is_in x ns) e ∙ d.0)) in
    without_keeps n m xs ne (all m (in_miss m n ns ne ∙ h))) in
    let a : ℕ = length (without n xs) in
    let b : ℕ = length xs in
    let c : ℕ = length ns in
    let less' : a + 1 ≡ b = less in
    let later' : c ≤ a = later in
    let goal : suc c ≤ b = omega arith in goal

abbrev pub keys_of : List Entry → List ℕ
keys_of [] = []
keys_of (e ∷ es) = e.key ∷ keys_of es

pub keys_length : (es : List Entry) → length (keys_of es) ≡ length es
keys_length [] = refl
keys_length (e ∷ es) = ap suc (keys_length es)

pub key_is_in : (es : List Entry) (k v : ℕ) → value_in es k ≡ Some v → is_in k (keys_of es) ≡ true
key_is_in [] k v h = absurd (cc)
key_is_in (e ∷ es) k v h =
    dite (ℕ_discrete k e.key)
    (λ is. in_hit k e.key (keys_of es) is)
    (λ isnt. in_miss k e.key (keys_of es) isnt ∙ key_is_in es k v (sym (value_miss e es k (λ t. isnt (sym t))) ∙ h))

-- a key in the list has a value
pub has_value : (es : List Entry) (k : ℕ) → is_in k (keys_of es) ≡ true → (v : ℕ) × (value_in es k ≡ Some v)
has_value [] k h = absurd (true≢false (sym h))
has_value (e ∷ es) k h =
    dite (ℕ_discrete k e.key)
    (λ is. (e.value, value_hit e es k (sym is)))
    (λ isnt. let r = has_value es k (sym (in_miss k e.key (keys_of es) isnt) ∙ h) in (r.0, value_miss e es k (λ t. isnt (sym t)) ∙ r.1))

pub no_value : (es : List Entry) (k : ℕ) → value_in es k ≡ None → is_in k (keys_of es) ≡ false
no_value es k none = ⊎_elim
    (λ (t : is_in k (keys_of es) ≡ true). let r = has_value es k t in let bad : None ≡ Some r.0 = sym none ∙ r.1 in absurd (cc))
    (λ (f : is_in k (keys_of es) ≡ false). f)
    (test_cases (is_in k (keys_of es)))

pub keys_distinct : (fits : ℕ → ℕ → Type 0) (es : List Entry) → IsLegalHistory fits es → Distinct (keys_of es)
keys_distinct fits [] legal = tt
keys_distinct fits (e ∷ es) legal = (no_value es e.key legal.0, keys_distinct fits es legal.2)

-- what stands in a list of words
pub word_is_in : (ws : List ℕ) (q : ℕ) → 0 < slice_index ws q → is_in (slice_index ws q) ws ≡ true
word_is_in [] q h = absurd (omega arith)
word_is_in (w ∷ ws) zero h = in_hit w w ws refl
word_is_in (w ∷ ws) (suc q) h = dite (ℕ_discrete (slice_index ws q) w)
    (λ is. in_hit (slice_index ws q) w ws is)
    (λ isnt. in_miss (slice_index ws q) w ws isnt ∙ word_is_in ws q h)

-- the history has no more entries than there are words
pub log_small : (l : Layout) (fits : ℕ → ℕ → Type 0) (ws : List ℕ) (log : List Entry) → OneHistory l (cells_in l ws) fits log → length log ≤ length ws
log_small l fits ws log one =
    let n = inject (keys_of log) ws (keys_distinct fits log one.legal) (λ k h.
    let v = has_value log k h in
    let p = (one.stands k v.0 v.1).1 in
    let g = (one.stands k v.0 v.1).0 in
    let q : ℕ = key_place l g p.index + offset l in
    let is : slice_index ws q ≡ k = p.key_is in
    subst (λ (x : ℕ). is_in x ws ≡ true) is (word_is_in ws q (subst (λ (x : ℕ). 0 < x) (sym is) p.key.0))) in
    subst (λ (x : ℕ). x ≤ length ws) (keys_length log) n

-- two steps of a walk are two cells
pub spot_apart : (g k d e : ℕ) → d ≤ e → e < cells_of g → spot g k d ≡ spot g k e → d ≡ e
unfolding spot
spot_apart g k d e le small same =
    let h : ℕ = home g k in
    let n : ℕ = cells_of g in
    let small' : e < n = small in
    let one : h + d ≡ h + e = one_turn (h + d) (h + e) n (omega arith) (omega arith) same in omega arith

-- the keys at the first n steps
keys_below : (ℕ → ℕ) → ℕ → List ℕ
keys_below f zero = []
keys_below f (suc n) = f n ∷ keys_below f n

keys_below_length : (f : ℕ → ℕ) (n : ℕ) → length (keys_below f n) ≡ n
unfolding keys_below
keys_below_length f zero = refl
keys_below_length f (suc n) = ap suc (keys_below_length f n)

keys_below_in : (f : ℕ → ℕ) (n k : ℕ) → is_in k (keys_below f n) ≡ true → (d : ℕ) × (d < n) × (f d ≡ k)
unfolding keys_below
keys_below_in f zero k h = absurd (true≢false (sym h))
keys_below_in f (suc n) k h =
    dite (ℕ_discrete k (f n))
    (λ is. (n, omega arith, sym is))
    (λ isnt. let r = keys_below_in f n k (sym (in_miss k (f n) (keys_below f n) isnt) ∙ h) in let lt = r.1 in (r.0, omega arith, r.2))

keys_below_distinct : (f : ℕ → ℕ) (n : ℕ) → ((d e : ℕ) → d < e → e < n → f d ≢ f e) → Distinct (keys_below f n)
unfolding keys_below
keys_below_distinct f zero apart = tt
keys_below_distinct f (suc n) apart = (
  ⊎_elim
      (λ (t : is_in (f n) (keys_below f n) ≡ true). let r = keys_below_in f n (f n) t in absurd (apart r.0 n r.1 (omega arith) r.2))
      (λ (b : is_in (f n) (keys_below f n) ≡ false). b)
      (test_cases (is_in (f n) (keys_below f n))),
  keys_below_distinct f n (λ d e lt small. apart d e lt (omega arith)),
)

claim_key : (ℕ → ℕ → ℕ) → Option Cell → ℕ
claim_key at None = 0
claim_key at (Some c) = at c.generation c.index

claim_keys : (ℕ → ℕ → ℕ) → List View → List ℕ
claim_keys at [] = []
claim_keys at (v ∷ vs) = claim_key at v.claim ∷ claim_keys at vs

claim_keys_length : (at : ℕ → ℕ → ℕ) (vs : List View) → length (claim_keys at vs) ≡ length vs
unfolding claim_keys
claim_keys_length at [] = refl
claim_keys_length at (v ∷ vs) = ap suc (claim_keys_length at vs)

claim_in : (at : ℕ → ℕ → ℕ) (vs : List View) (j : ℕ) (v : View) (g i : ℕ) → get_elem? vs j ≡ some v → v.claim ≡ Some (cell g i) → is_in (at g i) (claim_keys at vs) ≡ true
unfolding claim_keys claim_key
claim_in at [] j v g i here is = absurd (some-ne-none v (sym here))
claim_in at (x ∷ xs) zero v g i here is =
    in_hit (at g i) (claim_key at x.claim) (claim_keys at xs) (sym (ap (λ (y : View). claim_key at y.claim) (some-injective x v here) ∙ ap (claim_key at) is))
claim_in at (x ∷ xs) (suc j) v g i here is =
    dite (ℕ_discrete (at g i) (claim_key at x.claim))
    (λ e. in_hit (at g i) (claim_key at x.claim) (claim_keys at xs) e)
    (λ ne. in_miss (at g i) (claim_key at x.claim) (claim_keys at xs) ne ∙ claim_in at xs j v g i here is)

module _ (l : Layout) (fits : ℕ → ℕ → Type 0) (s : State) (views : List View) (m : OneCellPerKey l s.cells) (one : OneHistory l s.cells fits s.history) where
  key_at : ℕ → ℕ → ℕ
  key_at g i = s.cells (key_place l g i)

  -- where the last generation is full of other keys, the history has at least the capacity's entries
  pub full : (mark : List ℕ) → OpenClaims l mark s views → length views ≤ l.passes → (k : ℕ) → Passed l s.cells l.last k (cells_of l.last) → l.capacity ≤ length s.history
  unfolding key_at
  full mark claims few k passed =
      let n : ℕ = cells_of l.last in
      let f : ℕ → ℕ = λ d. s.cells (key_place l l.last (spot l.last k d)) in
      let here : (d : ℕ) → IsCell l l.last (spot l.last k d) = λ d. spot_cell l l.last k d (last_within l) in
      let different : (d e : ℕ) → d < e → e < n → f d ≢ f e = λ d e lt small same.
      let w : IsWord (f e) = (passed.others e small).0 in
      let spots = one_cell l s.cells m l.last (spot l.last k d) (spot l.last k e) (f e) w (here d) (here e) same refl in
      let eq = spot_apart l.last k d e (omega arith) small spots in omega arith in
      let found : (x : ℕ) → is_in x (keys_below f n) ≡ true → is_in x (keys_of s.history ++ claim_keys key_at views) ≡ true = λ x h.
      let r = keys_below_in f n x h in
      let d : ℕ = r.0 in
      let w : IsWord (f d) = (passed.others d r.1).0 in
      let i : ℕ = spot l.last k d in
      let o = (m.last_open i (here d).1).1 in
      dite (ℕ_discrete (s.cells (value_place l l.last i)) 0)
      (λ z.
      let c = claims.claimed l.last i (here d) (w, z) in
      in_second x (keys_of s.history) (claim_keys key_at views) (subst (λ (y : ℕ). is_in y (claim_keys key_at views) ≡ true) r.2 (claim_in key_at views c.who c.view l.last i c.at c.claim)))
      (λ nz.
      let v : ℕ = s.cells (value_place l l.last i) in
      let pos : 0 < v = omega arith in
      in_first x (keys_of s.history) (claim_keys key_at views) (subst (λ (y : ℕ). is_in y (keys_of s.history) ≡ true) r.2 (key_is_in s.history (f d) v (one.kept l.last i (here d) w (pos, o))))) in
      let many = inject (keys_below f n) (keys_of s.history ++ claim_keys key_at views) (keys_below_distinct f n different) found in
      let a : ℕ = length (keys_below f n) in
      let b : ℕ = length (keys_of s.history ++ claim_keys key_at views) in
      let c : ℕ = length s.history in
      let e : ℕ = length views in
      let a_is : a ≡ n = keys_below_length f n in
      let b_is : b ≡ c + e = length-append (keys_of s.history) (claim_keys key_at views) ∙ (λ t. keys_length s.history t + claim_keys_length key_at views t) in
      let many' : a ≤ b = many in
      let fit : 4 * (l.capacity + l.passes) ≤ 3 * n = l.last_fits.0 in
      let few' : e ≤ l.passes = few in
      let goal : l.capacity ≤ c = omega arith in goal

-- numbers below n
pub below_list : ℕ → List ℕ
below_list zero = []
below_list (suc n) = n ∷ below_list n

below_length : (n : ℕ) → length (below_list n) ≡ n
unfolding below_list
below_length zero = refl
below_length (suc n) = ap suc (below_length n)

below_has : (n k : ℕ) → k < n → is_in k (below_list n) ≡ true
unfolding below_list
below_has zero k h = absurd (omega arith)
below_has (suc n) k h =
    dite (ℕ_discrete k n)
    (λ e. in_hit k n (below_list n) e)
    (λ ne. in_miss k n (below_list n) ne ∙ below_has n k (omega arith))

pub few_below : (ns : List ℕ) (n : ℕ) → Distinct ns → ((k : ℕ) → is_in k ns ≡ true → k < n) → length ns ≤ n
few_below ns n d low = let a = inject ns (below_list n) d (λ k h. below_has n k (low k h)) in let b = below_length n in omega arith

-- n different numbers below n are all of them
pub all_below : (ns : List ℕ) (n : ℕ) → Distinct ns → ((k : ℕ) → is_in k ns ≡ true → k < n) → length ns ≡ n → (k : ℕ) → k < n → is_in k ns ≡ true
all_below ns n d low whole k lt = ⊎_elim
    (λ (t : is_in k ns ≡ true). t)
    (λ (f : is_in k ns ≡ false).
    let more : suc (length ns) ≤ n = few_below (k ∷ ns) n (f, d) (λ m h. dite (ℕ_discrete m k) (λ e. subst (λ (x : ℕ). x < n) (sym e) lt) (λ ne. low m (sym (in_miss m k ns ne) ∙ h))) in absurd (omega arith))
    (test_cases (is_in k ns))

-- where a list has all numbers below n, entries by passes below n are all by them
pub by_all : (ns : List ℕ) (n : ℕ) (es : List Entry) → ((k : ℕ) → k < n → is_in k ns ≡ true) → WhoBelow n es → by_any ns es ≡ es
by_all ns n [] all who = refl
by_all ns n (e ∷ es) all who = by_hit ns e es (all e.who who.0) ∙ ap (λ (x : List Entry). e ∷ x) (by_all ns n es all who.1)

-- one pass's share of a total
pub total_le : (f : View → ℕ) (vs : List View) (i : ℕ) (v : View) → get_elem? vs i ≡ some v → f v ≤ total f vs
total_le f [] i v e = absurd (some-ne-none v (sym e))
total_le f (x ∷ xs) zero v e = let s : f x ≡ f v = ap f (some-injective x v e) in let n : ℕ = total f xs in let goal : f v ≤ f x + n = omega arith in goal
total_le f (x ∷ xs) (suc i) v e = let h = total_le f xs i v e in let n : ℕ = total f xs in let h' : f v ≤ n = h in let goal : f v ≤ f x + n = omega arith in goal

counted_below : (vs : List View) → total (λ v. v.counted) vs ≤ total placed vs
counted_below [] = omega arith
counted_below (v ∷ vs) =
    let h = counted_below vs in
    let f : View → ℕ = λ u. u.counted in
    let a : ℕ = total f vs in
    let b : ℕ = total placed vs in
    let h' : a ≤ b = h in
    let n : ℕ = v.counted in
    let m : ℕ = length v.uncounted in
    let goal : n + a ≤ (n + m) + b = omega arith in goal

-- the count is at most the length of the history
pub count_le : (l : Layout) (mark : List ℕ) (s : State) (views : List View) → CountIsHonest l mark s views → s.count ≤ length s.history
count_le l mark s views honest =
    let h = counted_below views in
    let f : View → ℕ = λ u. u.counted in
    let a : ℕ = total f views in
    let b : ℕ = total placed views in
    let h' : a ≤ b = h in
    let p : a ≡ s.count = honest.counted in
    let q : b ≡ length s.history = honest.placed in
    let goal : s.count ≤ length s.history = omega arith in goal
