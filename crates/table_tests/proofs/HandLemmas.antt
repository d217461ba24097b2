-- Single steps of a pass on the cells of generation 0, and the walk of a key that finds other keys.
use Rattle.std.proofs.Common.{◌≡◌, ◌≢◌, ℕ, ◌+◌, ◌-◌, ◌*◌, ◌/◌, ◌%◌, ◌^◌, ◌<◌, ◌≤◌, true, List, length, [], ◌++◌, ◌∷◌, None, Fits, w64, refl, ap, subst, inr, length-append, mod-lt, ◌∙◌, arith}
use Rattle.map_core.specs.declared.entry.Entry.{Entry}
use Rattle.map_core.specs.declared.layout.Layout.{Layout}
use Rattle.map_core.specs.declared.view.View.{View}
use Rattle.map_core.specs.Sizes.{cells_of}
use Rattle.map_core.specs.History.{is_in}
use Rattle.map_core.specs.Places.{home, spot, key_place, IsCell}
use Rattle.map_core.specs.Machine.{IsWord, Passed, Reaches, IsPublished}
use Rattle.map_core.specs.Events.{entry}
use Rattle.map_core.specs.Passes.{look}
use Rattle.map_core.specs.Knowing.{all_but_first}
use Rattle.map_core.proofs.SizeLemmas.{cells_least, cells_small}
use Rattle.map_core.proofs.PlaceLemmas.{up_to_last}
use Rattle.map_core.proofs.TurnLemmas.{drop_own}
use Rattle.map_cells.specs.Seen.{CellsView, PassView, IsOf}
use Rattle.map_cells.specs.Steps.{StepFrame, KeySeen, KeyTried, SettledTo, ValueTried, IsPlaced, CountRaised}
use Rattle.map_cells.proofs.WalkLemmas.{home_small, looks_same, steps_then, passed_more, passed_one}
use Rattle.map_cells.proofs.PutLemmas.{holds_other}
use Rattle.block_moves.specs.Moved.{HoldsWord, HoldsValue}
use Rattle.table_tests.specs.States.{SeesFirst, HasClaimed}

-- generation 0 has 64 cells
pub first_cell : (l : Layout) (i : ℕ) → i < 64 → IsCell l 0 i
unfolding cells_of
first_cell l i low = (up_to_last l 0 (omega arith), low)

pub walk_fits : (g k d : ℕ) → g ≤ 17 → d ≤ 64 → Fits w64 (k * 11400714819323198485 % 18446744073709551616 / 2 ^ (58 - g) + d)
unfolding home
walk_fits g k d low few =
    let h : ℕ = home g k in
    let n : ℕ = cells_of g in
    let a : h < n = home_small g k low in
    let b : n ≤ 8388608 = cells_small g low in
    let goal : Fits w64 (h + d) = omega arith in goal

pub spot_is : (g k d n : ℕ) → n ≡ cells_of g → (k * 11400714819323198485 % 18446744073709551616 / 2 ^ (58 - g) + d) % n ≡ spot g k d
unfolding home spot
spot_is g k d n is = ap (λ (x : ℕ). (home g k + d) % x) is

-- a step that leaves a pass at rest
pub sees_on : (c : CellsView) (p q : PassView) → SeesFirst c p → IsOf c q → StepFrame p.knows q.knows → q.knows.claim ≡ p.knows.claim → q.knows.uncounted ≡ p.knows.uncounted → SeesFirst c q
sees_on c p q s of frame claim uncounted =
    record {
      idle = record { of_table = of; rest = record { claim = claim ∙ s.idle.rest.claim; uncounted = uncounted ∙ s.idle.rest.uncounted } };
      current = ap (λ (x : List ℕ). is_in 0 x) frame.currents ∙ s.current;
      below = s.below;
    }

-- a walk of the key k in generation g has come to step d
pub record WalkedTo (c : CellsView) (g k d : ℕ) (v : View) (p : PassView) : Type 0 where
  pub sees : SeesFirst c p
  pub frame : StepFrame v p.knows
  pub passed : Passed p.knows.layout (look p.knows.known) g k d

pub walk_starts : (c : CellsView) (g k : ℕ) (p : PassView) → SeesFirst c p → WalkedTo c g k 0 p.knows p
walk_starts c g k p s = record { sees = s; frame = (looks_same p.knows).steps; passed = record { others = λ j h. absurd (omega arith) } }

module _ {fits : List ℕ → ℕ → ℕ → Type 0} (c : CellsView) (g k d i n : ℕ) (v : View) (p q : PassView) (at : WalkedTo c g k d v p) (is : i ≡ spot g k d) (of : IsOf c q) (seen : KeySeen fits g i n p.knows q.knows) where
  pub seen_sees : SeesFirst c q
  seen_sees = sees_on c p q at.sees of seen.looks.steps seen.claim seen.uncounted

  pub seen_frame : StepFrame v q.knows
  seen_frame = steps_then v p.knows q.knows at.frame seen.looks.steps

  pub seen_reaches : d < 64 → Reaches q.knows.layout (look q.knows.known) g i k
  seen_reaches low =
      let most : 64 ≤ cells_of g = cells_least g in
      record { steps = d; within = omega arith; place = is; passed = passed_more p.knows q.knows g k d seen.looks.steps at.passed }

  pub walk_goes : IsWord n → n ≢ k → WalkedTo c g k (d + 1) v q
  walk_goes word other =
      let h = holds_other fits g i k n p.knows q.knows seen.looks.steps seen.word word other in
      let l : Layout = q.knows.layout in
      record {
        sees = seen_sees;
        frame = seen_frame;
        passed = passed_one l (look q.knows.known) g k d (passed_more p.knows q.knows g k d seen.looks.steps at.passed)
            (subst (λ (x : ℕ). IsWord (look q.knows.known (key_place l g x))) is h.key)
            (subst (λ (x : ℕ). look q.knows.known (key_place l g x) ≢ k) is h.other);
      }

-- a pair that was seen in generation 0
pub pair_in_first : (i k x : ℕ) (v : View) → i < 64 → HoldsWord 0 i k v → HoldsValue 0 i x v → IsPublished v.layout (look v.known) 0 k x
pair_in_first i k x v low key value = record { index = i; cell = first_cell v.layout i low; key_is = key.seen; value_is = value.seen; key = key.word; value = value.word }

pub settled_above : (k x : ℕ) (v : View) → is_in 0 v.currents ≡ true → IsPublished v.layout (look v.known) 0 k x → SettledTo v 1 k
settled_above k x v current p =
    record {
      from = 0;
      current = current;
      low = omega arith;
      settled = λ h a b. let e : 0 ≡ h = omega arith in inr (x, subst (λ (g : ℕ). IsPublished v.layout (look v.known) g k x) e p);
    }

-- a pair that was carried is no new entry, and the claim of its cell ends
pub carried_sees : {fits : List ℕ → ℕ → ℕ → Type 0} (c : CellsView) (g i h k x : ℕ) (p q : PassView) → HasClaimed c g i k p → IsOf c q → ValueTried fits g i k x 0 p.knows q.knows → IsPublished p.knows.layout (look p.knows.known) h k x → SeesFirst c q
carried_sees c g i h k x p q has of tried pair =
    record {
      idle = record {
        of_table = of;
        rest = record { claim = tried.claim ∙ drop_own p.knows.claim g i (inr has.claim); uncounted = (tried.kept refl h pair).uncounted ∙ has.uncounted };
      };
      current = ap (λ (x : List ℕ). is_in 0 x) tried.steps.currents ∙ has.current;
      below = has.below;
    }

-- a new entry isn't counted yet
pub placed_uncounted : {fits : List ℕ → ℕ → ℕ → Type 0} (k x : ℕ) (v w : View) → IsPlaced fits k x v w → 0 < length w.uncounted
placed_uncounted k x v w p =
    let n : ℕ = length v.uncounted in
    let sum : length (v.uncounted ++ entry v.number k x ∷ []) ≡ n + 1 = length-append v.uncounted (entry v.number k x ∷ []) in
    let all : length w.uncounted ≡ length (v.uncounted ++ entry v.number k x ∷ []) = ap (λ (es : List Entry). length es) p.uncounted in
    omega arith

-- and once it is, the pass is at rest
pub counted_sees : {fits : List ℕ → ℕ → ℕ → Type 0} (c : CellsView) (k x n : ℕ) (p q r : PassView) → SeesFirst c p → IsOf c r → StepFrame p.knows q.knows → q.knows.claim ≡ None → IsPlaced fits k x p.knows q.knows → CountRaised fits n q.knows r.knows → SeesFirst c r
counted_sees c k x n p q r s of frame free placed raised =
    record {
      idle = record {
        of_table = of;
        rest = record {
          claim = raised.claim ∙ free;
          uncounted = raised.uncounted ∙ ap all_but_first (placed.uncounted ∙ ap (λ (es : List Entry). es ++ entry p.knows.number k x ∷ []) s.idle.rest.uncounted);
        };
      };
      current = ap (λ (x : List ℕ). is_in 0 x) (raised.looks.steps.currents ∙ frame.currents) ∙ s.current;
      below = s.below;
    }

-- generation 0 is one block
pub one_block : (b : ℕ) → b < cells_of 0 / 64 → 0 ≡ b
unfolding cells_of
one_block b low = let e : b < 1 = low in omega arith

pub first_full : (n m : ℕ) → 48 ≤ n → m ≡ n → 3 * cells_of 0 ≤ 4 * m
unfolding cells_of
first_full n m most is = let goal : 3 * 64 ≤ 4 * m = omega arith in goal

-- the home cell of a key in generation 0
pub home_low : (k : ℕ) → spot 0 k 0 < 64
unfolding spot cells_of
home_low k = mod-lt (home 0 k + 0) (omega arith)

pub home_reached : (k : ℕ) (v : View) → Reaches v.layout (look v.known) 0 (spot 0 k 0) k
home_reached k v =
    let most : 64 ≤ cells_of 0 = cells_least 0 in
    record { steps = 0; within = omega arith; place = refl; passed = record { others = λ j h. absurd (omega arith) } }

-- the cell is claimed now
pub claimed_now : {fits : List ℕ → ℕ → ℕ → Type 0} (c : CellsView) (g i k : ℕ) (p q : PassView) → SeesFirst c p → IsCell c.layout g i → IsOf c q → KeyTried fits g i k 0 p.knows q.knows → HasClaimed c g i k q
claimed_now c g i k p q s cell of tried =
    let won = tried.won refl in
    record {
      of_table = of;
      current = ap (λ (x : List ℕ). is_in 0 x) tried.looks.steps.currents ∙ s.current;
      below = s.below;
      claim = won.0;
      uncounted = tried.uncounted ∙ s.idle.rest.uncounted;
      place = cell;
      key = ap (λ (l : Layout). look q.knows.known (key_place l g i)) tried.looks.steps.layout ∙ won.1;
    }
