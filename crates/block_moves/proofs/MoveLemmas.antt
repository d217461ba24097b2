-- What a helper sees of cells and blocks, as it sees more.
use Rattle.std.proofs.Common.{◌≡◌, ◌≢◌, ◌⊎◌, ℕ, ◌+◌, ◌-◌, ◌*◌, ◌/◌, ◌<◌, ◌≤◌, true, List, length, Option, refl, sym, ap, subst, ◌∙◌, inl, inr, ⊎_elim, arith}
use mathlib.Core.Logic.{dite}
use native.Mathlib.Decide.{ℕ_discrete}
use Rattle.map_core.specs.declared.cell.Cell.{Cell}
use Rattle.map_core.specs.declared.entry.Entry.{Entry}
use Rattle.map_core.specs.declared.layout.Layout.{Layout}
use Rattle.map_core.specs.declared.view.View.{View}
use Rattle.map_core.specs.Sizes.{cells_of}
use Rattle.map_core.specs.Calls.{own}
use Rattle.map_core.specs.History.{is_in}
use Rattle.map_core.specs.Places.{key_place, value_place, finish_place, Within, IsCell, IsBlock}
use Rattle.map_core.specs.Machine.{IsWord, IsPublished, CellMoved, BlockMoved}
use Rattle.map_core.specs.Passes.{look, drop_claim, AtRest, PassFacts}
use Rattle.map_core.proofs.SizeLemmas.{blocks_whole}
use Rattle.map_core.proofs.MovedLemmas.{cell_moved_on}
use Rattle.map_cells.specs.Steps.{StepFrame, Rises, LeavesClaim, CurrentSeen, CountSeen, ValueSealed}
use Rattle.map_cells.specs.Walks.{Walks}
use Rattle.map_cells.specs.Puts.{IsSeenFrom, MayPut, PutsNew, PutsFound}
use Rattle.map_cells.proofs.WalkLemmas.{walks_same, walks_then, walks_rise, rises_then, count_walks}
use Rattle.block_moves.specs.Moved.{HoldsWord, HoldsValue, IsSealed, IsClosedAt, SeenMoved, SeenFinished, HelpsNothing, HelpsSwitched}

-- what was seen stays so
pub word_on : (g i k : ℕ) (v w : View) → StepFrame v w → HoldsWord g i k v → HoldsWord g i k w
word_on g i k v w s h =
    record {
      word = h.word;
      seen = ap (λ (l : Layout). look w.known (key_place l g i)) s.layout ∙ (s.seen (key_place v.layout g i) (subst (λ (n : ℕ). 0 < n) (sym h.seen) h.word.0) ∙ h.seen);
    }

pub value_on : (g i x : ℕ) (v w : View) → StepFrame v w → HoldsValue g i x v → HoldsValue g i x w
value_on g i x v w s h =
    record {
      word = h.word;
      seen = ap (λ (l : Layout). look w.known (value_place l g i)) s.layout ∙ (s.seen (value_place v.layout g i) (subst (λ (n : ℕ). 0 < n) (sym h.seen) h.word.0) ∙ h.seen);
    }

pub moved_on : (g i : ℕ) (v w : View) → StepFrame v w → SeenMoved g i v → SeenMoved g i w
moved_on g i v w s m = subst (λ (l : Layout). CellMoved l (look w.known) g i) (sym s.layout) (cell_moved_on v.layout (look v.known) (look w.known) s.seen g i m)

pub finished_on : (g b : ℕ) (v w : View) → StepFrame v w → SeenFinished g b v → SeenFinished g b w
finished_on g b v w s f =
    ap (λ (l : Layout). look w.known (finish_place l g b)) s.layout ∙ (s.seen (finish_place v.layout g b) (subst (λ (n : ℕ). 0 < n) (sym f) (omega arith)) ∙ f)

-- the word of a cell, by the pass's new sizes
pub key_by : (g i n : ℕ) (v w : View) → StepFrame v w → look w.known (key_place v.layout g i) ≡ n → look w.known (key_place w.layout g i) ≡ n
key_by g i n v w s e = ap (λ (l : Layout). look w.known (key_place l g i)) s.layout ∙ e

pub value_by : (g i n : ℕ) (v w : View) → StepFrame v w → look w.known (value_place v.layout g i) ≡ n → look w.known (value_place w.layout g i) ≡ n
value_by g i n v w s e = ap (λ (l : Layout). look w.known (value_place l g i)) s.layout ∙ e

pub finish_by : (g b n : ℕ) (v w : View) → StepFrame v w → look w.known (finish_place v.layout g b) ≡ n → look w.known (finish_place w.layout g b) ≡ n
finish_by g b n v w s e = ap (λ (l : Layout). look w.known (finish_place l g b)) s.layout ∙ e

pub current_on : (g : ℕ) (v w : View) → StepFrame v w → is_in g v.currents ≡ true → is_in g w.currents ≡ true
current_on g v w s h = ap (λ (x : List ℕ). is_in g x) s.currents ∙ h

module _ (fits : List ℕ → ℕ → ℕ → Type 0) where
  pub leaves_walks : (v w : View) → LeavesClaim fits v w → Walks fits v w
  leaves_walks v w a = record { looks = a.looks; facts = a.facts; claim = λ e. a.claim ∙ e; uncounted = a.uncounted; counted = a.counted }

  pub sealed_walks : (g i n : ℕ) (v w : View) → ValueSealed fits g i n v w → Walks fits v w
  sealed_walks g i n v w a =
      record {
        looks = a.looks;
        facts = a.facts;
        claim = λ e. a.claim ∙ ap (λ (o : Option Cell). drop_claim o g i) e;
        uncounted = a.uncounted;
        counted = a.counted;
      }

  -- the pair of a cell, as a publication
  pub pair_here : (g i k x : ℕ) (v : View) → IsCell v.layout g i → HoldsWord g i k v → HoldsValue g i x v → IsPublished v.layout (look v.known) g k x
  pair_here g i k x v a key value = record { index = i; cell = a; key_is = key.seen; value_is = value.seen; key = key.word; value = value.word }

  pub may_carry : (g i k x : ℕ) (v : View) → IsCell v.layout g i → is_in g v.currents ≡ true → HoldsWord g i k v → HoldsValue g i x v → MayPut fits (g + 1) k x v
  may_carry g i k x v a current key value = inr (g, refl, current, pair_here g i k x v a key value)

  -- a cell with no key to come, or no value
  pub moved_sealed : (g i : ℕ) (w : View) → IsSealed g i w → SeenMoved g i w
  moved_sealed g i w e = record { how = inl e }

  pub moved_closed : (g i k : ℕ) (w : View) → HoldsWord g i k w → IsClosedAt g i w → SeenMoved g i w
  moved_closed g i k w key e = record { how = inr (subst IsWord (sym key.seen) key.word, inl e) }

  -- or with a pair that is seen above
  pub moved_up : (g i k x : ℕ) (w : View) → HoldsWord g i k w → HoldsValue g i x w → IsSeenFrom (g + 1) k x w → SeenMoved g i w
  moved_up g i k x w key value s =
      let from = s.from in
      let above : g < s.generation = omega arith in
      record {
        how = inr (
          subst IsWord (sym key.seen) key.word,
          inr (s.generation, above, subst (λ (p : ℕ × ℕ). IsPublished w.layout (look w.known) s.generation p.0 p.1) (λ t. (sym key.seen t, sym value.seen t)) s.published),
        );
      }

  module _ (g i k x : ℕ) (v w : View) (a : IsCell v.layout g i) (key : HoldsWord g i k v) (value : HoldsValue g i x v) where
    pub placed_walks : PutsNew fits (g + 1) k x v w → Walks fits v w
    placed_walks p =
        let q = p.kept g (pair_here g i k x v a key value) in
        record { looks = q.looks; facts = p.facts; claim = λ e. p.claim; uncounted = q.uncounted; counted = p.counted }

    pub placed_moved : PutsNew fits (g + 1) k x v w → SeenMoved g i w
    placed_moved p = moved_up g i k x w (word_on g i k v w p.steps key) (value_on g i x v w p.steps value) p.seen

    pub found_moved : (y : ℕ) → PutsFound fits (g + 1) k x y v w → SeenMoved g i w
    found_moved y p =
        let s = p.walks.looks.steps in
        let same : y ≡ x = p.same g (pair_here g i k x v a key value) in
        moved_up g i k x w (word_on g i k v w s key) (value_on g i x v w s value) (subst (λ (n : ℕ). IsSeenFrom (g + 1) k n w) same p.seen)

  -- the cells of a block up to a step are moved
  pub record BlockUpto (g start step : ℕ) (v w : View) : Type 0 where
    pub walks : Walks fits v w
    pub few : step ≤ 64
    pub moved : (j : ℕ) → j < step → SeenMoved g (start + j) w

  pub block_starts : (g start : ℕ) (v : View) → PassFacts fits v → BlockUpto g start 0 v v
  block_starts g start v facts = record { walks = walks_same fits v facts; few = omega arith; moved = λ j lt. absurd (omega arith) }

  pub block_goes : (g start step : ℕ) (v u w : View) → BlockUpto g start step v u → step < 64 → Walks fits u w → SeenMoved g (start + step) w → BlockUpto g start (step + 1) v w
  block_goes g start step v u w at more walks moved =
      record {
        walks = walks_then fits v u w at.walks walks;
        few = omega arith;
        moved = λ j lt. dite (ℕ_discrete j step)
            (λ e. subst (λ (n : ℕ). SeenMoved g (start + n) w) (sym e) moved)
            (λ ne. moved_on g (start + j) u w walks.looks.steps (at.moved j (omega arith)));
      }

  -- all of them: the block is moved
  pub block_ends : (g b start : ℕ) (v w : View) → start ≡ 64 * b → BlockUpto g start 64 v w → BlockMoved w.layout (look w.known) g b
  block_ends g b start v w is at =
      record {
        cells = λ i a same.
            let j : ℕ = i - start in
            let lt : j < 64 = omega arith in
            let whole : start + j ≡ i = omega arith in
            subst (λ (n : ℕ). SeenMoved g n w) whole (at.moved j lt);
      }

  -- the blocks up to one are finished
  pub record BlocksUpto (g block : ℕ) (v w : View) : Type 0 where
    pub walks : Walks fits v w
    pub finished : (b : ℕ) → b < block → SeenFinished g b w

  pub blocks_start : (g : ℕ) (v : View) → PassFacts fits v → BlocksUpto g 0 v v
  blocks_start g v facts = record { walks = walks_same fits v facts; finished = λ b lt. absurd (omega arith) }

  pub blocks_go : (g block : ℕ) (v u w : View) → BlocksUpto g block v u → Walks fits u w → SeenFinished g block w → BlocksUpto g (block + 1) v w
  blocks_go g block v u w at walks finished =
      record {
        walks = walks_then fits v u w at.walks walks;
        finished = λ b lt. dite (ℕ_discrete b block)
            (λ e. subst (λ (n : ℕ). SeenFinished g n w) (sym e) finished)
            (λ ne. finished_on g b u w walks.looks.steps (at.finished b (omega arith)));
      }

-- no move is due by the count that was loaded, nor by the pass's own entries
module _ (fits : List ℕ → ℕ → ℕ → Type 0) (n m : ℕ) (v u w : View) (a : CurrentSeen fits n v u) (b : CountSeen fits m u w) where
  pub in_generation : w.generation ≡ n
  in_generation = b.looks.steps.generation ∙ a.generation

  pub loaded_rise : Rises v w
  loaded_rise = rises_then v u w a.rises (walks_rise fits u w (count_walks fits m u w b))

  pub helps_nothing : AtRest v → (4 * m < 3 * cells_of n) ⊎ (n ≡ w.layout.last) → HelpsNothing w
  helps_nothing rest = ⊎_elim
      (λ (early : 4 * m < 3 * cells_of n).
      let c : ℕ = cells_of n in
      let d : ℕ = cells_of w.generation in
      let same : d ≡ c = ap cells_of in_generation in
      let o : ℕ = length (own w) in
      let k : ℕ = length w.uncounted in
      let none_left : k ≡ 0 = ap (λ (es : List Entry). length es) (loaded_rise.uncounted ∙ rest.uncounted) in
      let low : o ≤ m + k = b.low in
      let seen : w.count_seen ≡ m = b.seen in
      let early' : 4 * m < 3 * c = early in
      let loaded : 4 * w.count_seen < 3 * d = omega arith in
      let few : 4 * o < 3 * d = omega arith in
      record { loaded = inl loaded; few = inl few })
      (λ (last : n ≡ w.layout.last). record { loaded = inr (in_generation ∙ last); few = inr (in_generation ∙ last) })

  pub helps_switched : (z : View) → n ≢ w.layout.last → 3 * cells_of n ≤ 4 * m → Rises w z → n + 1 ≤ z.generation → HelpsSwitched (n + 1) v z
  helps_switched z not_last due r reached =
      let c : ℕ = cells_of n in
      let d : ℕ = cells_of ((n + 1) - 1) in
      let one_less : (n + 1) - 1 ≡ n = omega arith in
      let same : d ≡ c = ap cells_of one_less in
      let seen : w.count_seen ≡ m = b.seen in
      let more : w.count_seen ≤ z.count_seen = r.count_seen in
      let due' : 3 * c ≤ 4 * m = due in
      let within : Within w.layout w.generation = b.facts.currents w.generation b.facts.generation in
      let hi : w.generation ≤ w.layout.last = within.1 in
      let here : w.generation ≡ n = in_generation in
      let last : z.layout.last ≡ w.layout.last = ap (λ (l : Layout). l.last) r.layout in
      let low : v.generation ≤ w.generation = loaded_rise.generation in
      let goal : 3 * d ≤ 4 * z.count_seen = omega arith in
      record { due = goal; below = omega arith; above = omega arith; reached = reached }

-- a step within a block is a cell
pub block_cell : (l : Layout) (g b step : ℕ) → IsBlock l g b → step < 64 → IsCell l g (64 * b + step)
block_cell l g b step a lt =
    let n : ℕ = cells_of g in
    let whole : 64 * (n / 64) ≡ n = blocks_whole g in
    let small : b < n / 64 = a.1 in
    let goal : 64 * b + step < n = omega arith in (a.0, goal)
