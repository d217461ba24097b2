-- Calls through one pass stand in one history, each once.
use Rattle.std.proofs.Common.{◌≡◌, ℕ, ◌+◌, Bool, true, false, List, [], ◌∷◌, ◌++◌, length, Option, Some, None, refl, sym, ap, subst, ◌∙◌, append_assoc, append-nil, length-append, if◌then◌else◌, eq-eqb, ne_eqb, ◌≢◌, ⊎_elim, true≢false, arith}
use mathlib.Core.Logic.{dite}
use native.Mathlib.Decide.{ℕ_discrete}
use Rattle.map_core.specs.declared.entry.Entry.{Entry}
use Rattle.map_core.specs.declared.view.View.{View}
use Rattle.map_core.specs.PlainMap.{plain_get, plain_keep, kept_at}
use Rattle.map_core.specs.History.{kept_in, plain_map, value_in, is_in, by_any, StartsWith, StartsWithOwn}
use Rattle.map_core.specs.Events.{entry}
use Rattle.map_core.specs.Calls.{own, Call, finds, places, meets, is_full, splits, joins, CallAt, point_of, CallsInOrder, no_calls, call_then, points_of, Ascends, placed_by, taken_in, split_count, numbers_of, own_count, KeepsOwn, AllMeet, AllMeetTaken, HoldCallsOnce}
use Rattle.map_core.proofs.HistoryLemmas.{value_hit, value_miss, value_stays, by_hit, by_miss, by_append, test_cases}
use Rattle.map_core.proofs.PassLemmas.{in_first, in_second}

pub starts_same : (a : List Entry) → StartsWith a a
starts_same a = record { rest = []; joins = append-nil a }

pub starts_trans : (a b c : List Entry) → StartsWith a b → StartsWith b c → StartsWith a c
starts_trans a b c p q = record { rest = p.rest ++ q.rest; joins = sym (append_assoc a p.rest q.rest) ∙ (ap (λ (x : List Entry). x ++ q.rest) p.joins ∙ q.joins) }

get_hit : (p : ℕ × ℕ) (ps : List (ℕ × ℕ)) (k : ℕ) → p.0 ≡ k → plain_get (p ∷ ps) k ≡ Some p.1
get_hit p ps k is = subst (λ (b : Bool). (if b then Some p.1 else plain_get ps k) ≡ Some p.1) (sym (eq-eqb p.0 k is)) refl

get_miss : (p : ℕ × ℕ) (ps : List (ℕ × ℕ)) (k : ℕ) → p.0 ≢ k → plain_get (p ∷ ps) k ≡ plain_get ps k
get_miss p ps k isnt = subst (λ (b : Bool). (if b then Some p.1 else plain_get ps k) ≡ plain_get ps k) (sym (ne_eqb p.0 k isnt)) refl

-- the first of two answers
first_of : Option ℕ → Option ℕ → Option ℕ
first_of None b = b
first_of (Some x) b = Some x

first_none : (a : Option ℕ) → first_of a None ≡ a
unfolding first_of
first_none None = refl
first_none (Some x) = refl

get_append : (ps qs : List (ℕ × ℕ)) (k : ℕ) → plain_get (ps ++ qs) k ≡ first_of (plain_get ps k) (plain_get qs k)
unfolding first_of
get_append [] qs k = refl
get_append (p ∷ ps) qs k =
    dite (ℕ_discrete p.0 k)
    (λ is. get_hit p (ps ++ qs) k is ∙ sym (ap (λ (x : Option ℕ). first_of x (plain_get qs k)) (get_hit p ps k is)))
    (λ isnt. get_miss p (ps ++ qs) k isnt ∙ (get_append ps qs k ∙ sym (ap (λ (x : Option ℕ). first_of x (plain_get qs k)) (get_miss p ps k isnt))))

-- one entry more
keep_get_at : (o : Option ℕ) (ps : List (ℕ × ℕ)) (e : Entry) (es : List Entry) (k : ℕ) → plain_get ps e.key ≡ o
    → first_of (plain_get (kept_at o ps e.key e.value) k) (value_in es k) ≡ first_of (plain_get ps k) (value_in (e ∷ es) k)
unfolding first_of
keep_get_at None ps e es k was =
    dite (ℕ_discrete e.key k)
    (λ is.
    let none : plain_get ps k ≡ None = subst (λ (x : ℕ). plain_get ps x ≡ None) is was in
    let left : plain_get (ps ++ (e.key, e.value) ∷ []) k ≡ Some e.value =
    get_append ps ((e.key, e.value) ∷ []) k ∙ (ap (λ (x : Option ℕ). first_of x (plain_get ((e.key, e.value) ∷ []) k)) none ∙ get_hit (e.key, e.value) [] k is) in
    ap (λ (x : Option ℕ). first_of x (value_in es k)) left ∙ sym (ap (λ (x : Option ℕ). first_of x (value_in (e ∷ es) k)) none ∙ value_hit e es k is))
    (λ isnt.
    let left : plain_get (ps ++ (e.key, e.value) ∷ []) k ≡ plain_get ps k =
    get_append ps ((e.key, e.value) ∷ []) k ∙ (ap (λ (x : Option ℕ). first_of (plain_get ps k) x) (get_miss (e.key, e.value) [] k isnt) ∙ first_none (plain_get ps k)) in
    ap (λ (x : Option ℕ). first_of x (value_in es k)) left ∙ sym (ap (λ (x : Option ℕ). first_of (plain_get ps k) x) (value_miss e es k isnt)))
keep_get_at (Some old) ps e es k was =
    dite (ℕ_discrete e.key k)
    (λ is.
    let some_there : plain_get ps k ≡ Some old = subst (λ (x : ℕ). plain_get ps x ≡ Some old) is was in
    ap (λ (x : Option ℕ). first_of x (value_in es k)) some_there ∙ sym (ap (λ (x : Option ℕ). first_of x (value_in (e ∷ es) k)) some_there))
    (λ isnt. sym (ap (λ (x : Option ℕ). first_of (plain_get ps k) x) (value_miss e es k isnt)))

kept_get : (es : List Entry) (ps : List (ℕ × ℕ)) (k : ℕ) → plain_get (kept_in ps es) k ≡ first_of (plain_get ps k) (value_in es k)
kept_get [] ps k = sym (first_none (plain_get ps k))
kept_get (e ∷ es) ps k = kept_get es (plain_keep ps e.key e.value) k ∙ keep_get_at (plain_get ps e.key) ps e es k refl

-- the map of a front has the value of the front's first entry with the key
pub map_get : (es : List Entry) (k : ℕ) → plain_get (plain_map es) k ≡ value_in es k
unfolding first_of
map_get es k = kept_get es [] k

-- a longer front has what a front has
pub value_longer : (a b : List Entry) (k x : ℕ) → StartsWith a b → value_in a k ≡ Some x → value_in b k ≡ Some x
value_longer a b k x p h = subst (λ (l : List Entry). value_in l k ≡ Some x) p.joins (value_stays a p.rest k x h)

-- a step that adds nothing leaves a pass's own entries
pub own_stays : (v : View) (front : List Entry) → StartsWithOwn v.numbers v.front front → by_any v.numbers front ≡ own v
own_stays v front p = sym (ap (by_any v.numbers) p.joins) ∙ (by_append v.numbers v.front p.rest ∙ (ap (λ (x : List Entry). own v ++ x) p.others ∙ append-nil (own v)))

-- the numbers of one list stand in another
abbrev pub AllIn : List ℕ → List ℕ → Type 0
AllIn ns ms = (n : ℕ) → is_in n ns ≡ true → is_in n ms ≡ true

-- entries by some passes are the same where those by more passes were taken before
by_part : (ns ms : List ℕ) (es : List Entry) → AllIn ns ms → by_any ns (by_any ms es) ≡ by_any ns es
by_part ns ms [] all = refl
by_part ns ms (e ∷ es) all = ⊎_elim
    (λ (t : is_in e.who ms ≡ true). ap (by_any ns) (by_hit ms e es t) ∙ ⊎_elim
    (λ (u : is_in e.who ns ≡ true). by_hit ns e (by_any ms es) u ∙ (ap (λ (x : List Entry). e ∷ x) (by_part ns ms es all) ∙ sym (by_hit ns e es u)))
    (λ (f : is_in e.who ns ≡ false). by_miss ns e (by_any ms es) f ∙ (by_part ns ms es all ∙ sym (by_miss ns e es f)))
    (test_cases (is_in e.who ns)))
    (λ (f : is_in e.who ms ≡ false).
    let not_in : is_in e.who ns ≡ false = ⊎_elim
    (λ (u : is_in e.who ns ≡ true). absurd (true≢false (sym (all e.who u) ∙ f)))
    (λ (g : is_in e.who ns ≡ false). g)
    (test_cases (is_in e.who ns)) in
    ap (by_any ns) (by_miss ms e es f) ∙ (by_part ns ms es all ∙ sym (by_miss ns e es not_in)))
    (test_cases (is_in e.who ms))

module _ (fits : ℕ → ℕ → Type 0) (capacity : ℕ) where
  -- every call stands between the two fronts
  call_after : (c : Call) (v w : View) (at : CallAt fits capacity c v w) → StartsWith v.front (point_of fits capacity c v w at)
  call_after (finds key answer) v w at = at.1.point.after
  call_after (places key value) v w at = at.1.point.after
  call_after (meets key found) v w at = at.1.point.after
  call_after (is_full key) v w at = at.1.point.after
  call_after splits v w at = subst (StartsWith v.front) (sym at.front) (starts_same v.front)
  call_after (joins u) v w at = record { rest = at.mine.rest; joins = at.mine.joins }

  call_before : (c : Call) (v w : View) (at : CallAt fits capacity c v w) → StartsWith (point_of fits capacity c v w at) w.front
  call_before (finds key answer) v w at = at.1.point.before
  call_before (places key value) v w at = at.1.point.before
  call_before (meets key found) v w at = at.1.point.before
  call_before (is_full key) v w at = at.1.point.before
  call_before splits v w at = starts_same w.front
  call_before (joins u) v w at = starts_same w.front

  call_front : (c : Call) (v w : View) → CallAt fits capacity c v w → StartsWith v.front w.front
  call_front c v w at = starts_trans v.front (point_of fits capacity c v w at) w.front (call_after c v w at) (call_before c v w at)

  call_number : (c : Call) (v w : View) → CallAt fits capacity c v w → w.number ≡ v.number
  call_number (finds key answer) v w at = at.0.number
  call_number (places key value) v w at = at.0.number
  call_number (meets key found) v w at = at.0.number
  call_number (is_full key) v w at = at.0.number
  call_number splits v w at = at.number
  call_number (joins u) v w at = at.number

  call_tag : (c : Call) (v w : View) → CallAt fits capacity c v w → w.tag ≡ v.tag
  call_tag (finds key answer) v w at = at.0.tag
  call_tag (places key value) v w at = at.0.tag
  call_tag (meets key found) v w at = at.0.tag
  call_tag (is_full key) v w at = at.0.tag
  call_tag splits v w at = at.tag
  call_tag (joins u) v w at = at.tag

  call_numbers : (c : Call) (v w : View) → CallAt fits capacity c v w → w.numbers ≡ v.numbers ++ numbers_of (taken_in (c ∷ []))
  call_numbers (finds key answer) v w at = at.0.numbers ∙ sym (append-nil v.numbers)
  call_numbers (places key value) v w at = at.0.numbers ∙ sym (append-nil v.numbers)
  call_numbers (meets key found) v w at = at.0.numbers ∙ sym (append-nil v.numbers)
  call_numbers (is_full key) v w at = at.0.numbers ∙ sym (append-nil v.numbers)
  call_numbers splits v w at = at.numbers ∙ sym (append-nil v.numbers)
  call_numbers (joins u) v w at = at.numbers ∙ ap (λ (x : List ℕ). v.numbers ++ x) (sym (append-nil u.numbers))

  call_spare : (c : Call) (v w : View) → CallAt fits capacity c v w → w.spare + split_count (c ∷ []) ≡ v.spare
  call_spare (finds key answer) v w at = let e = at.0.spare in omega arith
  call_spare (places key value) v w at = let e = at.0.spare in omega arith
  call_spare (meets key found) v w at = let e = at.0.spare in omega arith
  call_spare (is_full key) v w at = let e = at.0.spare in omega arith
  call_spare splits v w at = let e = at.spare in omega arith
  call_spare (joins u) v w at = let e = at.spare in omega arith

  -- by the pass's numbers before a call are its own entries and what the call placed
  call_placed : (c : Call) (v w : View) → CallAt fits capacity c v w → by_any v.numbers w.front ≡ own v ++ placed_by v.number (c ∷ [])
  call_placed (finds key answer) v w at = ap (λ (ns : List ℕ). by_any ns w.front) (sym at.0.numbers) ∙ (at.1.own ∙ sym (append-nil (own v)))
  call_placed (places key value) v w at = ap (λ (ns : List ℕ). by_any ns w.front) (sym at.0.numbers) ∙ at.1.own
  call_placed (meets key found) v w at = ap (λ (ns : List ℕ). by_any ns w.front) (sym at.0.numbers) ∙ (at.1.own ∙ sym (append-nil (own v)))
  call_placed (is_full key) v w at = ap (λ (ns : List ℕ). by_any ns w.front) (sym at.0.numbers) ∙ (at.1.own ∙ sym (append-nil (own v)))
  call_placed splits v w at = ap (by_any v.numbers) at.front ∙ sym (append-nil (own v))
  call_placed (joins u) v w at = own_stays v w.front at.mine ∙ sym (append-nil (own v))

  placed_first : (who : ℕ) (c : Call) (cs : List Call) → placed_by who (c ∷ []) ++ placed_by who cs ≡ placed_by who (c ∷ cs)
  placed_first who (finds key answer) cs = refl
  placed_first who (places key value) cs = refl
  placed_first who (meets key found) cs = refl
  placed_first who (is_full key) cs = refl
  placed_first who splits cs = refl
  placed_first who (joins u) cs = refl

  numbers_first : (c : Call) (cs : List Call) → numbers_of (taken_in (c ∷ [])) ++ numbers_of (taken_in cs) ≡ numbers_of (taken_in (c ∷ cs))
  numbers_first (finds key answer) cs = refl
  numbers_first (places key value) cs = refl
  numbers_first (meets key found) cs = refl
  numbers_first (is_full key) cs = refl
  numbers_first splits cs = refl
  numbers_first (joins u) cs = ap (λ (x : List ℕ). x ++ numbers_of (taken_in cs)) (append-nil u.numbers)

  splits_first : (c : Call) (cs : List Call) → split_count (c ∷ []) + split_count cs ≡ split_count (c ∷ cs)
  splits_first (finds key answer) cs = let n : ℕ = split_count cs in let z : 0 + n ≡ n = omega arith in z
  splits_first (places key value) cs = let n : ℕ = split_count cs in let z : 0 + n ≡ n = omega arith in z
  splits_first (meets key found) cs = let n : ℕ = split_count cs in let z : 0 + n ≡ n = omega arith in z
  splits_first (is_full key) cs = let n : ℕ = split_count cs in let z : 0 + n ≡ n = omega arith in z
  splits_first splits cs = let n : ℕ = split_count cs in let z : (1 + 0) + n ≡ 1 + n = omega arith in z
  splits_first (joins u) cs = let n : ℕ = split_count cs in let z : 0 + n ≡ n = omega arith in z

  keeps_numbers : (c : Call) (v w : View) → CallAt fits capacity c v w → AllIn v.numbers w.numbers
  keeps_numbers c v w at n h = subst (λ (ns : List ℕ). is_in n ns ≡ true) (sym (call_numbers c v w at)) (in_first n v.numbers (numbers_of (taken_in (c ∷ []))) h)

  ascends_from : (a b to : List Entry) (Cs : List (List Entry)) → StartsWith a b → Ascends b Cs to → Ascends a Cs to
  ascends_from a b to [] p q = starts_trans a b to p q
  ascends_from a b to (C ∷ Cs) p q = (starts_trans a b C p q.0, q.1)

  -- a call meets what the front had
  call_meets : (c : Call) (cs : List Call) (v u : View) (at : CallAt fits capacity c v u) (key value : ℕ) → value_in v.front key ≡ Some value → AllMeet key value cs → AllMeet key value (c ∷ cs)
  call_meets (finds k answer) cs v u at key value had rest =
      (λ same. at.1.value ∙ (map_get u.front k ∙ (ap (value_in u.front) same ∙ value_longer v.front u.front key value at.1.point.after had)), rest)
  call_meets (places k x) cs v u at key value had rest = (
    λ same.
        let there : plain_get (plain_map at.1.lower) k ≡ Some value = map_get at.1.lower k ∙ (ap (value_in at.1.lower) same ∙ value_longer v.front at.1.lower key value at.1.front had) in
        let bad : Some value ≡ None = sym there ∙ at.1.lacks in absurd (cc),
    rest,
  )
  call_meets (meets k found) cs v u at key value had rest = (
    λ same.
        let there : plain_get (plain_map u.front) k ≡ Some value = map_get u.front k ∙ (ap (value_in u.front) same ∙ value_longer v.front u.front key value at.1.point.after had) in
        let both : Some found ≡ Some value = sym at.1.value ∙ there in cc,
    rest,
  )
  call_meets (is_full k) cs v u at key value had rest = (
    λ same.
        let there : plain_get (plain_map u.front) k ≡ Some value = map_get u.front k ∙ (ap (value_in u.front) same ∙ value_longer v.front u.front key value at.1.point.after had) in
        let bad : Some value ≡ None = sym there ∙ at.1.lacks in absurd (cc),
    rest,
  )
  call_meets splits cs v u at key value had rest = rest
  call_meets (joins x) cs v u at key value had rest = rest

  -- by any of the pass's numbers are the entries of before, and those that the calls placed
  parts_once : (cs : List Call) (v w : View) → CallsInOrder fits capacity cs v w → (ns : List ℕ) → AllIn ns v.numbers → by_any ns w.front ≡ by_any ns v.front ++ by_any ns (placed_by v.number cs)
  parts_once _ _ _ (no_calls v) ns all = sym (append-nil (by_any ns v.front))
  parts_once _ _ _ (call_then c cs v u w at rest) ns all =
      let P : List Entry = placed_by v.number (c ∷ []) in
      let Q : List Entry = placed_by v.number cs in
      let later : by_any ns w.front ≡ by_any ns u.front ++ by_any ns (placed_by u.number cs) = parts_once cs u w rest ns (λ n h. keeps_numbers c v u at n (all n h)) in
      let here : by_any ns u.front ≡ by_any ns v.front ++ by_any ns P =
      sym (by_part ns v.numbers u.front all) ∙ (ap (by_any ns) (call_placed c v u at) ∙ (by_append ns (own v) P ∙ ap (λ (x : List Entry). x ++ by_any ns P) (by_part ns v.numbers v.front all))) in
      later ∙ ((λ t. here t ++ by_any ns (placed_by (call_number c v u at t) cs)) ∙ (append_assoc (by_any ns v.front) (by_any ns P) (by_any ns Q) ∙ ap (λ (x : List Entry). by_any ns v.front ++ x) (sym (by_append ns P Q) ∙ ap (by_any ns) (placed_first v.number c cs))))

  -- what a pass places is by its number
  placed_mine : (ns : List ℕ) (who : ℕ) (cs : List Call) → is_in who ns ≡ true → by_any ns (placed_by who cs) ≡ placed_by who cs
  placed_mine ns who [] own_in = refl
  placed_mine ns who (finds key answer ∷ cs) own_in = placed_mine ns who cs own_in
  placed_mine ns who (places key value ∷ cs) own_in = by_hit ns (entry who key value) (placed_by who cs) own_in ∙ ap (λ (x : List Entry). entry who key value ∷ x) (placed_mine ns who cs own_in)
  placed_mine ns who (meets key found ∷ cs) own_in = placed_mine ns who cs own_in
  placed_mine ns who (is_full key ∷ cs) own_in = placed_mine ns who cs own_in
  placed_mine ns who (splits ∷ cs) own_in = placed_mine ns who cs own_in
  placed_mine ns who (joins u ∷ cs) own_in = placed_mine ns who cs own_in

  placed_else : (ns : List ℕ) (who : ℕ) (cs : List Call) → is_in who ns ≡ false → by_any ns (placed_by who cs) ≡ []
  placed_else ns who [] not_in = refl
  placed_else ns who (finds key answer ∷ cs) not_in = placed_else ns who cs not_in
  placed_else ns who (places key value ∷ cs) not_in = by_miss ns (entry who key value) (placed_by who cs) not_in ∙ placed_else ns who cs not_in
  placed_else ns who (meets key found ∷ cs) not_in = placed_else ns who cs not_in
  placed_else ns who (is_full key ∷ cs) not_in = placed_else ns who cs not_in
  placed_else ns who (splits ∷ cs) not_in = placed_else ns who cs not_in
  placed_else ns who (joins u ∷ cs) not_in = placed_else ns who cs not_in

  -- the entries of a pass that was taken in stay
  call_taken : (c : Call) (cs : List Call) (v u w : View) → CallAt fits capacity c v u → CallsInOrder fits capacity cs u w → is_in v.number v.numbers ≡ true
      → KeepsOwn w.front (taken_in cs) → KeepsOwn w.front (taken_in (c ∷ cs))
  call_taken (finds key answer) cs v u w at rest own_in later = later
  call_taken (places key value) cs v u w at rest own_in later = later
  call_taken (meets key found) cs v u w at rest own_in later = later
  call_taken (is_full key) cs v u w at rest own_in later = later
  call_taken splits cs v u w at rest own_in later = later
  call_taken (joins x) cs v u w at rest own_in later =
      let inside : AllIn x.numbers u.numbers = λ n h. subst (λ (ns : List ℕ). is_in n ns ≡ true) (sym at.numbers) (in_second n v.numbers x.numbers h) in
      let not_in : is_in u.number x.numbers ≡ false = ap (λ (n : ℕ). is_in n x.numbers) at.number ∙ at.apart v.number own_in in
      let parts = parts_once cs u w rest x.numbers inside in
      (parts ∙ ((λ t. own_stays x u.front at.theirs t ++ placed_else x.numbers u.number cs not_in t) ∙ append-nil (own x)), later)

  -- how many own entries a call leaves
  call_all : (c : Call) (v w : View) → CallAt fits capacity c v w → length (own w) ≡ length (own v) + (own_count (taken_in (c ∷ [])) + length (placed_by v.number (c ∷ [])))
  call_all (finds key answer) v w at = let n : ℕ = length (own v) in let e : length (own w) ≡ n = ap (λ (x : List Entry). length x) at.1.own in let z : n ≡ n + (0 + 0) = omega arith in e ∙ z
  call_all (places key value) v w at = ap (λ (x : List Entry). length x) at.1.own ∙ length-append (own v) (entry v.number key value ∷ [])
  call_all (meets key found) v w at = let n : ℕ = length (own v) in let e : length (own w) ≡ n = ap (λ (x : List Entry). length x) at.1.own in let z : n ≡ n + (0 + 0) = omega arith in e ∙ z
  call_all (is_full key) v w at = let n : ℕ = length (own v) in let e : length (own w) ≡ n = ap (λ (x : List Entry). length x) at.1.own in let z : n ≡ n + (0 + 0) = omega arith in e ∙ z
  call_all splits v w at = let n : ℕ = length (own v) in let e : length (own w) ≡ n = λ t. length (by_any (at.numbers t) (at.front t)) in let z : n ≡ n + (0 + 0) = omega arith in e ∙ z
  call_all (joins u) v w at = let n : ℕ = length (own v) in let m : ℕ = length (own u) in let z : n + m ≡ n + ((m + 0) + 0) = omega arith in at.all ∙ z

  counts_first : (c : Call) (cs : List Call) → own_count (taken_in (c ∷ [])) + own_count (taken_in cs) ≡ own_count (taken_in (c ∷ cs))
  counts_first (finds key answer) cs = let n : ℕ = own_count (taken_in cs) in let z : 0 + n ≡ n = omega arith in z
  counts_first (places key value) cs = let n : ℕ = own_count (taken_in cs) in let z : 0 + n ≡ n = omega arith in z
  counts_first (meets key found) cs = let n : ℕ = own_count (taken_in cs) in let z : 0 + n ≡ n = omega arith in z
  counts_first (is_full key) cs = let n : ℕ = own_count (taken_in cs) in let z : 0 + n ≡ n = omega arith in z
  counts_first splits cs = let n : ℕ = own_count (taken_in cs) in let z : 0 + n ≡ n = omega arith in z
  counts_first (joins u) cs = let m : ℕ = length (own u) in let n : ℕ = own_count (taken_in cs) in let z : (m + 0) + n ≡ m + n = omega arith in z

  call_meet_taken : (c : Call) (cs : List Call) (v u : View) → CallAt fits capacity c v u → ((key value : ℕ) → value_in u.front key ≡ Some value → AllMeet key value cs) → AllMeetTaken cs → AllMeetTaken (c ∷ cs)
  call_meet_taken (finds key answer) cs v u at meet later = later
  call_meet_taken (places key value) cs v u at meet later = later
  call_meet_taken (meets key found) cs v u at meet later = later
  call_meet_taken (is_full key) cs v u at meet later = later
  call_meet_taken splits cs v u at meet later = later
  call_meet_taken (joins x) cs v u at meet later = (
    λ key value had. meet key value (value_longer x.front u.front key value record { rest = at.theirs.rest; joins = at.theirs.joins } had),
    later,
  )

  pub calls_once : (cs : List Call) (v w : View) (calls : CallsInOrder fits capacity cs v w) → is_in v.number v.numbers ≡ true → HoldCallsOnce capacity fits cs v w calls
  calls_once _ _ _ (no_calls v) own_in =
      record {
        ascend = starts_same v.front;
        placed = sym (append-nil (own v));
        taken = tt;
        numbers = sym (append-nil v.numbers);
        all = let n : ℕ = length (own v) in let z : n ≡ n + (0 + 0) = omega arith in z;
        alone = λ e. sym (append-nil (own v));
        number = refl;
        spare = let n : ℕ = v.spare in let z : n + 0 ≡ n = omega arith in z;
        tag = refl;
        meet = λ key value had. tt;
        meet_taken = tt;
        stays = λ key value had. had;
      }
  calls_once _ _ _ (call_then c cs v u w at rest) own_in =
      let number = call_number c v u at in
      let own_there : is_in u.number u.numbers ≡ true = subst (λ (n : ℕ). is_in n u.numbers ≡ true) (sym number) (keeps_numbers c v u at v.number own_in) in
      let later = calls_once cs u w rest own_there in
      let point : List Entry = point_of fits capacity c v u at in
      let front : StartsWith v.front u.front = call_front c v u at in
      let numbers : w.numbers ≡ v.numbers ++ numbers_of (taken_in (c ∷ cs)) =
      later.numbers ∙ (ap (λ (x : List ℕ). x ++ numbers_of (taken_in cs)) (call_numbers c v u at) ∙ (append_assoc v.numbers (numbers_of (taken_in (c ∷ []))) (numbers_of (taken_in cs)) ∙ ap (λ (x : List ℕ). v.numbers ++ x) (numbers_first c cs))) in
      let placed : by_any v.numbers w.front ≡ own v ++ placed_by v.number (c ∷ cs) =
      parts_once (c ∷ cs) v w (call_then c cs v u w at rest) v.numbers (λ n h. h) ∙ ap (λ (x : List Entry). own v ++ x) (placed_mine v.numbers v.number (c ∷ cs) own_in) in
      record {
        ascend = (call_after c v u at, ascends_from point u.front w.front (points_of fits capacity cs u w rest) (call_before c v u at) later.ascend);
        placed = placed;
        taken = call_taken c cs v u w at rest own_in later.taken;
        numbers = numbers;
        all =
            let x : ℕ = length (own w) in
            let y : ℕ = length (own u) in
            let z : ℕ = length (own v) in
            let a : ℕ = own_count (taken_in (c ∷ [])) in
            let b : ℕ = own_count (taken_in cs) in
            let ab : ℕ = own_count (taken_in (c ∷ cs)) in
            let p : ℕ = length (placed_by v.number (c ∷ [])) in
            let q : ℕ = length (placed_by v.number cs) in
            let pq : ℕ = length (placed_by v.number (c ∷ cs)) in
            let e1 : x ≡ y + (b + q) = later.all ∙ ap (λ (n : ℕ). y + (b + length (placed_by n cs))) number in
            let e2 : y ≡ z + (a + p) = call_all c v u at in
            let e3 : a + b ≡ ab = counts_first c cs in
            let e4 : pq ≡ p + q = ap (λ (es : List Entry). length es) (sym (placed_first v.number c cs)) ∙ length-append (placed_by v.number (c ∷ [])) (placed_by v.number cs) in
            let goal : x ≡ z + (ab + pq) = omega arith in goal;
        alone = λ e.
            let same : w.numbers ≡ v.numbers = numbers ∙ ((λ t. v.numbers ++ numbers_of (e t)) ∙ append-nil v.numbers) in
            ap (λ (ns : List ℕ). by_any ns w.front) same ∙ placed;
        number = later.number ∙ number;
        spare =
            let x : ℕ = split_count (c ∷ []) in
            let y : ℕ = split_count cs in
            let xy : ℕ = split_count (c ∷ cs) in
            let e1 : u.spare + x ≡ v.spare = call_spare c v u at in
            let e2 : w.spare + y ≡ u.spare = later.spare in
            let e3 : x + y ≡ xy = splits_first c cs in
            let goal : w.spare + xy ≡ v.spare = omega arith in goal;
        tag = later.tag ∙ call_tag c v u at;
        meet = λ key value had. call_meets c cs v u at key value had (later.meet key value (value_longer v.front u.front key value front had));
        meet_taken = call_meet_taken c cs v u at later.meet later.meet_taken;
        stays = λ key value had. later.stays key value (value_longer v.front u.front key value front had);
      }
