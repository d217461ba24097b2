-- Steps one after another, and the next cell of a walk.
use Rattle.std.proofs.Common.{◌≡◌, ◌≢◌, ◌⊎◌, ℕ, zero, suc, ◌+◌, ◌-◌, ◌*◌, ◌/◌, ◌%◌, ◌^◌, ◌<◌, ◌≤◌, Bool, true, false, List, [], ◌∷◌, ◌++◌, length, Option, Some, None, if◌then◌else◌, ◌==◌, refl, sym, ap, subst, ◌∙◌, inl, inr, ⊎_elim, arith, append_assoc, append-nil, eq-eqb, ne_eqb, mod-eq_of_lt, mod-lt, mul_comm, add-zero, div-lt_iff_lt-mul, pow_mono, pow_pos}
use Rattle.std.proofs.lemmas.Nat.{pow-add}
use Rattle.std.proofs.Math.Nat.{mod-add-mod}
use mathlib.Core.Logic.{dite}
use native.Mathlib.Decide.{ℕ_discrete, dec_lt}
use Rattle.map_core.specs.declared.cell.Cell.{Cell}
use Rattle.map_core.specs.declared.entry.Entry.{Entry}
use Rattle.map_core.specs.declared.layout.Layout.{Layout}
use Rattle.map_core.specs.declared.view.View.{View}
use Rattle.map_core.specs.Sizes.{cells_of}
use Rattle.map_core.specs.History.{value_in, is_in, by_any, StartsWithOwn}
use Rattle.map_core.specs.Places.{key_place, value_place, home, spot, Within, IsCell}
use Rattle.map_core.specs.Machine.{greatest, IsWord, Passed, Reaches, IsClosed, IsPublished, IsSettled}
use Rattle.map_core.specs.Passes.{look, drop_claim, PassFacts}
use Rattle.map_core.proofs.PlaceLemmas.{spot_cell}
use Rattle.map_core.proofs.WordLemmas.{passed_on, reaches_on, closed_on, published_on, settled_on}
use Rattle.map_core.proofs.HistoryLemmas.{by_append}
use Rattle.map_core.proofs.CallLemmas.{starts_same, starts_trans}
use Rattle.map_core.proofs.SizeLemmas.{cells_pos}
use Rattle.map_cells.specs.Steps.{ClosedTo, SettledTo, StepFrame, Looks, Rises, MayPublish, KeySeen, ValueSeen, CountSeen}
use Rattle.map_cells.specs.Walks.{Walks}
use Rattle.map_cells.specs.Puts.{IsShut, IsPast, MayPut}

pub steps_then : (v u w : View) → StepFrame v u → StepFrame u w → StepFrame v w
steps_then v u w a b =
    record {
      layout = b.layout ∙ a.layout;
      tag = b.tag ∙ a.tag;
      number = b.number ∙ a.number;
      numbers = b.numbers ∙ a.numbers;
      spare = b.spare ∙ a.spare;
      generation = b.generation ∙ a.generation;
      currents = b.currents ∙ a.currents;
      front = starts_trans v.front u.front w.front a.front b.front;
      seen = λ q h. b.seen q (subst (λ (x : ℕ). 0 < x) (sym (a.seen q h)) h) ∙ a.seen q h;
      count_seen = let x = a.count_seen in let y = b.count_seen in omega arith;
    }

pub own_then : (ns ms : List ℕ) (a b c : List Entry) → ms ≡ ns → StartsWithOwn ns a b → StartsWithOwn ms b c → StartsWithOwn ns a c
own_then ns ms a b c same p q =
    record {
      rest = p.rest ++ q.rest;
      joins = sym (append_assoc a p.rest q.rest) ∙ (ap (λ (x : List Entry). x ++ q.rest) p.joins ∙ q.joins);
      others = by_append ns p.rest q.rest ∙ (λ k. p.others k ++ (ap (λ (x : List ℕ). by_any x q.rest) (sym same) ∙ q.others) k);
    }

pub looks_then : (v u w : View) → Looks v u → Looks u w → Looks v w
looks_then v u w a b =
    record {
      steps = steps_then v u w a.steps b.steps;
      mine = own_then v.numbers u.numbers v.front u.front w.front a.steps.numbers a.mine b.mine;
      own = b.own ∙ a.own;
    }

pub looks_same : (v : View) → Looks v v
looks_same v =
    record {
      steps = record {
        layout = refl;
        tag = refl;
        number = refl;
        numbers = refl;
        spare = refl;
        generation = refl;
        currents = refl;
        front = starts_same v.front;
        seen = λ q h. refl;
        count_seen = omega arith;
      };
      mine = record { rest = []; joins = append-nil v.front; others = refl };
      own = refl;
    }

module _ (fits : List ℕ → ℕ → ℕ → Type 0) where
  pub walks_same : (v : View) → PassFacts fits v → Walks fits v v
  walks_same v facts = record { looks = looks_same v; facts = facts; claim = λ e. e; uncounted = refl; counted = refl }

  pub walks_then : (v u w : View) → Walks fits v u → Walks fits u w → Walks fits v w
  walks_then v u w a b =
      record {
        looks = looks_then v u w a.looks b.looks;
        facts = b.facts;
        claim = λ e. b.claim (a.claim e);
        uncounted = b.uncounted ∙ a.uncounted;
        counted = b.counted ∙ a.counted;
      }

  pub count_walks : (n : ℕ) (v w : View) → CountSeen fits n v w → Walks fits v w
  count_walks n v w s = record { looks = s.looks; facts = s.facts; claim = λ e. s.claim ∙ e; uncounted = s.uncounted; counted = s.counted }

  pub key_walks : (g i n : ℕ) (v w : View) → KeySeen fits g i n v w → Walks fits v w
  key_walks g i n v w s = record { looks = s.looks; facts = s.facts; claim = λ e. s.claim ∙ e; uncounted = s.uncounted; counted = s.counted }

  pub value_walks : (g i n : ℕ) (v w : View) → ValueSeen fits g i n v w → Walks fits v w
  value_walks g i n v w s =
      record {
        looks = s.looks;
        facts = s.facts;
        claim = λ e. s.claim ∙ (ap (λ (o : Option Cell). if n == 0 then o else drop_claim o g i) e ∙ if_none (n == 0));
        uncounted = s.uncounted;
        counted = s.counted;
      }
    where
      if_none : (b : Bool) → (if b then None else drop_claim None g i) ≡ None
      if_none true = refl
      if_none false = refl

-- a walk sees no later generation current
pub walks_rise : (fits : List ℕ → ℕ → ℕ → Type 0) (v w : View) → Walks fits v w → Rises v w
walks_rise fits v w a =
    let s = a.looks.steps in
    record {
      layout = s.layout;
      tag = s.tag;
      number = s.number;
      numbers = s.numbers;
      spare = s.spare;
      generation = let e = s.generation in omega arith;
      currents = λ c h. ap (λ (x : List ℕ). is_in c x) s.currents ∙ h;
      front = s.front;
      seen = s.seen;
      count_seen = s.count_seen;
      mine = a.looks.mine;
      own = a.looks.own;
      claim = a.claim;
      uncounted = a.uncounted;
      counted = a.counted;
    }

pub rises_then : (v u w : View) → Rises v u → Rises u w → Rises v w
rises_then v u w a b =
    record {
      layout = b.layout ∙ a.layout;
      tag = b.tag ∙ a.tag;
      number = b.number ∙ a.number;
      numbers = b.numbers ∙ a.numbers;
      spare = b.spare ∙ a.spare;
      generation = let x = a.generation in let y = b.generation in omega arith;
      currents = λ c h. b.currents c (a.currents c h);
      front = starts_trans v.front u.front w.front a.front b.front;
      seen = λ q h. b.seen q (subst (λ (x : ℕ). 0 < x) (sym (a.seen q h)) h) ∙ a.seen q h;
      count_seen = let x = a.count_seen in let y = b.count_seen in omega arith;
      mine = own_then v.numbers u.numbers v.front u.front w.front a.numbers a.mine b.mine;
      own = b.own ∙ a.own;
      claim = λ e. b.claim (a.claim e);
      uncounted = b.uncounted ∙ a.uncounted;
      counted = b.counted ∙ a.counted;
    }

pub rises_same : (v : View) → Rises v v
rises_same v =
    record {
      layout = refl;
      tag = refl;
      number = refl;
      numbers = refl;
      spare = refl;
      generation = omega arith;
      currents = λ c h. h;
      front = starts_same v.front;
      seen = λ q h. refl;
      count_seen = omega arith;
      mine = record { rest = []; joins = append-nil v.front; others = refl };
      own = refl;
      claim = λ e. e;
      uncounted = refl;
      counted = refl;
    }

-- what was reached stays so as more is seen
pub reaches_more : (v w : View) (g i k : ℕ) → StepFrame v w → Reaches v.layout (look v.known) g i k → Reaches w.layout (look w.known) g i k
reaches_more v w g i k s r = subst (λ (x : Layout). Reaches x (look w.known) g i k) (sym s.layout) (reaches_on v.layout (look v.known) (look w.known) s.seen g i k r)

pub passed_more : (v w : View) (g k d : ℕ) → StepFrame v w → Passed v.layout (look v.known) g k d → Passed w.layout (look w.known) g k d
passed_more v w g k d s p = subst (λ (x : Layout). Passed x (look w.known) g k d) (sym s.layout) (passed_on v.layout (look v.known) (look w.known) s.seen g k d p)

pub closed_here : (v : View) (g k : ℕ) → is_in g v.currents ≡ true → ClosedTo v g k
closed_here v g k h = record { from = g; current = h; low = omega arith; closed = λ x a b. absurd (omega arith) }

pub settled_closed : (v : View) (g k : ℕ) → ClosedTo v g k → SettledTo v g k
settled_closed v g k c = record { from = c.from; current = c.current; low = c.low; settled = λ h a b. inl (c.closed h a b) }

-- one cell more holds another key
pub passed_one : (l : Layout) (C : ℕ → ℕ) (g k d : ℕ) → Passed l C g k d → IsWord (C (key_place l g (spot g k d))) → C (key_place l g (spot g k d)) ≢ k → Passed l C g k (d + 1)
passed_one l C g k d p word other =
    record {
      others = λ j h. dite (ℕ_discrete j d)
          (λ e. subst (λ (x : ℕ). IsWord (C (key_place l g (spot g k x))) × (C (key_place l g (spot g k x)) ≢ k)) (sym e) (word, other))
          (λ ne. p.others j (omega arith));
    }

sixty_four : (h : ℕ) → h ≤ 17 → (58 - h) + (6 + h) ≡ 64
sixty_four h small = omega arith

cells_are : (g : ℕ) → cells_of g ≡ 2 ^ (6 + g)
unfolding cells_of
cells_are g = sym (pow-add 2 6 g)

-- a home cell is a cell
pub home_small : (g k : ℕ) → g ≤ 17 → home g k < cells_of g
unfolding home
home_small g k le =
    let x : ℕ = k * 11400714819323198485 % 2 ^ 64 in
    let small : x < 2 ^ 64 = mod-lt (k * 11400714819323198485) (pow_pos 64) in
    let two : 2 ^ 64 ≡ 2 ^ (6 + g) * 2 ^ (58 - g) = ap (λ (n : ℕ). 2 ^ n) (sym (sixty_four g le)) ∙ (pow-add 2 (58 - g) (6 + g) ∙ mul_comm (2 ^ (58 - g)) (2 ^ (6 + g))) in
    let low : x < 2 ^ (6 + g) * 2 ^ (58 - g) = subst (λ (n : ℕ). x < n) two small in
    subst (λ (n : ℕ). x / 2 ^ (58 - g) < n) (sym (cells_are g)) ((div-lt_iff_lt-mul (pow_pos (58 - g))).1 low)

-- the first cell of a walk
pub spot_first : (g k : ℕ) → g ≤ 17 → home g k ≡ spot g k 0
unfolding spot
spot_first g k le =
    let h : ℕ = home g k in
    let n : ℕ = cells_of g in
    let e : (h + 0) % n ≡ h % n = ap (λ (x : ℕ). x % n) (add-zero h) in
    sym (e ∙ mod-eq_of_lt (home_small g k le))

next_mod : (m n : ℕ) → 0 < n → (m % n + 1) % n ≡ (m + 1) % n
next_mod m n pos = mod-add-mod m n 1

-- and the next
pub spot_next : (g k d i : ℕ) → i ≡ spot g k d → i + 1 < cells_of g → i + 1 ≡ spot g k (d + 1)
unfolding spot
spot_next g k d i is small =
    let n : ℕ = cells_of g in
    let h : ℕ = home g k in
    let e : (h + d) + 1 ≡ h + (d + 1) = omega arith in
    sym (ap (λ (x : ℕ). x % n) (sym e) ∙ (sym (next_mod (h + d) n (cells_pos g)) ∙ (ap (λ (x : ℕ). (x + 1) % n) (sym is) ∙ mod-eq_of_lt small)))

pub spot_wraps : (g k d i : ℕ) → i ≡ spot g k d → i + 1 ≡ cells_of g → 0 ≡ spot g k (d + 1)
unfolding spot
spot_wraps g k d i is whole =
    let n : ℕ = cells_of g in
    let h : ℕ = home g k in
    let e : (h + d) + 1 ≡ h + (d + 1) = omega arith in
    let self : n % n ≡ 0 = Rattle.std.proofs.Math.Nat.mod_self n in
    sym (ap (λ (x : ℕ). x % n) (sym e) ∙ (sym (next_mod (h + d) n (cells_pos g)) ∙ (ap (λ (x : ℕ). (x + 1) % n) (sym is) ∙ (ap (λ (x : ℕ). x % n) whole ∙ self))))

-- a walk of the key k in generation g has come to step d, at cell i
pub record Walked (fits : List ℕ → ℕ → ℕ → Type 0) (g k d i : ℕ) (v w : View) : Type 0 where
  pub walks : Walks fits v w
  pub steps : d ≤ cells_of g
  pub index : i ≡ spot g k d
  pub passed : Passed w.layout (look w.known) g k d

pub closed_more : (v w : View) (g k : ℕ) → StepFrame v w → ClosedTo v g k → 0 < k → ClosedTo w g k
closed_more v w g k s c pos =
    record {
      from = c.from;
      current = ap (λ (x : List ℕ). is_in c.from x) s.currents ∙ c.current;
      low = c.low;
      closed = λ h a b. subst (λ (x : Layout). IsClosed x (look w.known) h k) (sym s.layout) (closed_on v.layout (look v.known) (look w.known) s.seen h k pos (c.closed h a b));
    }

module _ (fits : List ℕ → ℕ → ℕ → Type 0) (g k : ℕ) where
  -- a walk begins
  pub walk_starts : (i : ℕ) (v : View) → PassFacts fits v → g ≤ 17 → i ≡ home g k → Walked fits g k 0 i v v
  walk_starts i v facts low is = record { walks = walks_same fits v facts; steps = omega arith; index = is ∙ spot_first g k low; passed = record { others = λ j h. absurd (omega arith) } }

  -- and goes on at the next cell
  pub walk_goes : (d i n : ℕ) (v u w : View) → Walked fits g k d i v u → Walks fits u w → IsWord (look w.known (key_place w.layout g i)) → look w.known (key_place w.layout g i) ≢ k → d < cells_of g → n ≡ spot g k (d + 1) → Walked fits g k (d + 1) n v w
  walk_goes d i n v u w at walks word other low is =
      let p = passed_more u w g k d walks.looks.steps at.passed in
      let word_there : IsWord (look w.known (key_place w.layout g (spot g k d))) = subst (λ (x : ℕ). IsWord (look w.known (key_place w.layout g x))) at.index word in
      let other_there : look w.known (key_place w.layout g (spot g k d)) ≢ k = subst (λ (x : ℕ). look w.known (key_place w.layout g x) ≢ k) at.index other in
      record { walks = walks_then fits v u w at.walks walks; steps = omega arith; index = is; passed = passed_one w.layout (look w.known) g k d p word_there other_there }

  pub walk_cell : (d i : ℕ) (v w : View) (l : Layout) → Walked fits g k d i v w → Within l g → IsCell l g i
  walk_cell d i v w l at within = subst (λ (x : ℕ). IsCell l g x) (sym at.index) (spot_cell l g k d within)

  pub walk_reaches : (d i : ℕ) (v w : View) → Walked fits g k d i v w → d < cells_of g → Reaches w.layout (look w.known) g i k
  walk_reaches d i v w at low = record { steps = d; within = low; place = at.index; passed = at.passed }

  -- the next cell is the next step's
  pub walk_next : (d i n cells : ℕ) → i ≡ spot g k d → cells ≡ cells_of g → i < cells → Rattle.std.proofs.Common.MatchBool (i + 1 == cells) (n ≡ 0) ((n ≡ i + 1) × (n < cells)) → n ≡ spot g k (d + 1)
  walk_next d i n cells is whole low next =
      dite (ℕ_discrete (i + 1) cells)
      (λ e. subst (λ (b : Bool). Rattle.std.proofs.Common.MatchBool b (n ≡ 0) ((n ≡ i + 1) × (n < cells))) (eq-eqb (i + 1) cells e) next ∙ spot_wraps g k d i is (e ∙ whole))
      (λ ne.
      let m = subst (λ (b : Bool). Rattle.std.proofs.Common.MatchBool b (n ≡ 0) ((n ≡ i + 1) × (n < cells))) (ne_eqb (i + 1) cells ne) next in
      let small : i + 1 < cells = omega arith in
      m.0 ∙ spot_next g k d i is (subst (λ (x : ℕ). i + 1 < x) whole small))

  -- a walk that met no end: the key is closed
  pub walk_past : (d i : ℕ) (v w : View) → Walked fits g k d i v w → cells_of g ≤ d → IsPast g k w
  walk_past d i v w at whole =
      let s = at.steps in
      let e : d ≡ cells_of g = omega arith in
      let passed : Passed w.layout (look w.known) g k (cells_of g) = subst (λ (x : ℕ). Passed w.layout (look w.known) g k x) e at.passed in
      record { closed = record { steps = cells_of g; within = omega arith; passed = passed; end = inl refl }; full = λ last. passed }

-- where the walk of a key comes to a sealed cell, or to its own cell with a closed value, it is closed
module _ (g i k : ℕ) (w : View) (walk : Reaches w.layout (look w.known) g i k) (low : g ≢ w.layout.last) where
  pub shut_sealed : look w.known (key_place w.layout g i) ≡ greatest → IsShut g k w
  shut_sealed sealed =
      let lt = walk.within in
      record {
        closed = record {
          steps = walk.steps;
          within = omega arith;
          passed = walk.passed;
          end = inr (inl (subst (λ (x : ℕ). look w.known (key_place w.layout g x) ≡ greatest) walk.place sealed));
        };
        low = low;
      }

  pub shut_value : look w.known (key_place w.layout g i) ≡ k → look w.known (value_place w.layout g i) ≡ greatest → IsShut g k w
  shut_value key closed =
      let lt = walk.within in
      record {
        closed = record {
          steps = walk.steps;
          within = omega arith;
          passed = walk.passed;
          end = inr (inr (
            subst (λ (x : ℕ). look w.known (key_place w.layout g x) ≡ k) walk.place key,
            subst (λ (x : ℕ). look w.known (value_place w.layout g x) ≡ greatest) walk.place closed,
          ));
        };
        low = low;
      }

pub shut_past : (g k : ℕ) (w : View) → IsShut g k w → IsPast g k w
shut_past g k w s = record { closed = s.closed; full = λ last. absurd (s.low last) }

-- what a load of a word tells, by the pass's new sizes
pub not_last : (g : ℕ) (v w : View) → StepFrame v w → (g ≡ v.layout.last → greatest < greatest) → g ≢ w.layout.last
not_last g v w s open_there e = let lt = open_there (e ∙ ap (λ (l : Layout). l.last) s.layout) in omega arith

-- what is seen closed or published stays so
pub closed_view : (v w : View) (g k : ℕ) → StepFrame v w → 0 < k → IsClosed v.layout (look v.known) g k → IsClosed w.layout (look w.known) g k
closed_view v w g k s pos c = subst (λ (l : Layout). IsClosed l (look w.known) g k) (sym s.layout) (closed_on v.layout (look v.known) (look w.known) s.seen g k pos c)

pub published_view : (v w : View) (h k x : ℕ) → StepFrame v w → IsPublished v.layout (look v.known) h k x → IsPublished w.layout (look w.known) h k x
published_view v w h k x s p = subst (λ (l : Layout). IsPublished l (look w.known) h k x) (sym s.layout) (published_on v.layout (look v.known) (look w.known) s.seen h k x p)

pub settled_more : (v w : View) (g k : ℕ) → StepFrame v w → 0 < k → SettledTo v g k → SettledTo w g k
settled_more v w g k s pos c =
    record {
      from = c.from;
      current = ap (λ (x : List ℕ). is_in c.from x) s.currents ∙ c.current;
      low = c.low;
      settled = λ h a b. subst (λ (l : Layout). IsSettled l (look w.known) h k) (sym s.layout) (settled_on v.layout (look v.known) (look w.known) s.seen h k pos (c.settled h a b));
    }

pub may_more : (fits : List ℕ → ℕ → ℕ → Type 0) (v w : View) (g k x : ℕ) → StepFrame v w → 0 < k → MayPublish fits g k x v → MayPublish fits g k x w
may_more fits v w g k x s pos = ⊎_elim
    (λ (p : (h : ℕ) × IsPublished v.layout (look v.known) h k x). inl (p.0, published_view v w p.0 k x s p.1))
    (λ (p : fits v.tag k x × ClosedTo v g k). inr (subst (λ (t : List ℕ). fits t k x) (sym s.tag) p.0, closed_more v w g k s p.1 pos))

-- a walk of the key k from generation g upwards has come to the generation here
pub record Upto (fits : List ℕ → ℕ → ℕ → Type 0) (g k here : ℕ) (v w : View) : Type 0 where
  pub walks : Walks fits v w
  pub low : g ≤ here
  pub high : here ≤ w.layout.last + 1
  pub closed : (h : ℕ) → g ≤ h → h < here → IsClosed w.layout (look w.known) h k
  pub full : w.layout.last < here → Passed w.layout (look w.known) w.layout.last k (cells_of w.layout.last)

module _ (fits : List ℕ → ℕ → ℕ → Type 0) (g k : ℕ) (word : IsWord k) where
  pub upto_starts : (v : View) → PassFacts fits v → g ≤ v.layout.last → Upto fits g k g v v
  upto_starts v facts le =
      record {
        walks = walks_same fits v facts;
        low = omega arith;
        high = omega arith;
        closed = λ h a b. absurd (omega arith);
        full = λ more. absurd (omega arith);
      }

  -- the key was closed in this generation
  pub upto_goes : (here : ℕ) (v u w : View) → Upto fits g k here v u → Walks fits u w → IsPast here k w → here ≤ w.layout.last → Upto fits g k (here + 1) v w
  upto_goes here v u w at walks past le =
      record {
        walks = walks_then fits v u w at.walks walks;
        low = let a = at.low in omega arith;
        high = omega arith;
        closed = λ h a b. dite (ℕ_discrete h here)
            (λ e. subst (λ (x : ℕ). IsClosed w.layout (look w.known) x k) (sym e) past.closed)
            (λ ne. closed_view u w h k walks.looks.steps word.0 (at.closed h a (omega arith)));
        full = λ more.
            let e : here ≡ w.layout.last = omega arith in
            subst (λ (x : ℕ). Passed w.layout (look w.known) x k (cells_of x)) e (past.full e);
      }

  -- what was seen closed below the start is so below this generation
  pub upto_closed : (here : ℕ) (v w : View) → Upto fits g k here v w → ClosedTo v g k → ClosedTo w here k
  upto_closed here v w at c =
      let s = at.walks.looks.steps in
      record {
        from = c.from;
        current = ap (λ (x : List ℕ). is_in c.from x) s.currents ∙ c.current;
        low = let a = at.low in let b = c.low in omega arith;
        closed = λ h a b. dite (dec_lt h g)
            (λ below. closed_view v w h k s word.0 (c.closed h a below))
            (λ above. at.closed h (omega arith) b);
      }

  -- behind the last generation: the front lacks the key and is full
  pub upto_ends : (here : ℕ) (v w : View) → Upto fits g k here v w → w.layout.last < here → is_in g v.currents ≡ true → value_in w.front k ≡ None
  upto_ends here v w at more current =
      let current' : is_in g w.currents ≡ true = ap (λ (x : List ℕ). is_in g x) at.walks.looks.steps.currents ∙ current in
      at.walks.facts.ends g k word current' (λ h a b. at.closed h a (omega arith)) (at.full more)

  -- and what a put wants
  pub may_here : (here x : ℕ) (v u : View) → Upto fits g k here v u → MayPut fits g k x v → MayPublish fits here k x u × SettledTo u here k
  may_here here x v u at = ⊎_elim
      (λ (e : fits v.tag k x × (is_in g v.currents ≡ true)).
      let c = upto_closed here v u at (closed_here v g k e.1) in
      (inr (subst (λ (t : List ℕ). fits t k x) (sym at.walks.looks.steps.tag) e.0, c), settled_closed u here k c))
      (λ (e : (c : ℕ) × (c + 1 ≡ g) × (is_in c v.currents ≡ true) × IsPublished v.layout (look v.known) c k x).
      let s = at.walks.looks.steps in
      let p = published_view v u e.0 k x s e.3 in
      let up = e.1 in
      let lo = at.low in (
        inl (e.0, p),
        record {
          from = e.0;
          current = ap (λ (y : List ℕ). is_in e.0 y) s.currents ∙ e.2;
          low = omega arith;
          settled = λ h a b. dite (ℕ_discrete h e.0)
              (λ q. inr (x, subst (λ (y : ℕ). IsPublished u.layout (look u.known) y k x) (sym q) p))
              (λ ne. inl (at.closed h (omega arith) b));
        },
      ))
