-- The rule of the windows' words, and what each atomic step on them tells.
use Rattle.std.specs.Prelude.{◌≡◌, ◌≤◌, ℕ, ◌+◌, ◌-◌, ◌*◌, ◌/◌, ◌%◌, ◌<◌, ◌⊎◌, List, [], length, slice_index, sum_by, nat_lt, if◌then◌else◌}
use mathlib.Core.Option.{some}
use lib.ListN.{get_elem?}
use Rattle.atomic_table.specs.Table.{State, Me, Step}
use Rattle.unit_draws.specs.declared.view.AboutDraws.{AboutDraws}
use Rattle.unit_draws.specs.declared.view.DrawSizes.{DrawSizes}
use Rattle.unit_draws.specs.declared.view.DrawView.{DrawView}
use Rattle.unit_draws.specs.declared.view.TheConstants.{MOST_SEATS}
use Rattle.unit_draws.specs.declared.windows.TheConstants.{WINDOW}
use Rattle.unit_draws.specs.Windows.{window_count, window_length}
use Rattle.unit_draws.specs.Seats.{occurrences, first_seat, with_unit, with_ended, with_lowered, HasEverySeat, HasDrawnWindow, places_ahead}

-- # Seats

-- the view at this place is of a seat that no other took in
pub record IsSeatAt (sizes : DrawSizes) (place : ℕ) (v : DrawView) : Type 0 where
  pub units : v.units ≡ sizes.units
  pub seats : v.seats ≡ sizes.seats
  pub number : v.number ≡ place
  pub spare : 0 < place → v.spare ≡ 0
  pub some : 0 < length v.numbers

-- the view is of a seat that another took in
pub record IsJoinedAway (v : DrawView) : Type 0 where
  pub numbers : v.numbers ≡ []
  pub drawn : v.drawn ≡ []
  pub ended : v.ended ≡ []
  pub lowered : v.lowered ≡ []

-- the first seat is never taken in, and its spare numbers are those that no seat has
pub record HasFirstSeat (sizes : DrawSizes) (views : List DrawView) : Type 0 where
  pub view : DrawView
  pub at : get_elem? views 0 ≡ some view
  pub seat : IsSeatAt sizes 0 view
  pub made : length views + view.spare ≡ sizes.seats

-- the view of the first seat at the start
abbrev pub first_of : AboutDraws → DrawView
first_of about = first_seat about.sizes about.tag.numbers

-- # The next-unit words

-- it is one where this is so, and else zero
pub record IsOneWhere (so : Type 0) (n : ℕ) : Type 0 where
  pub one : so → n ≡ 1
  pub none : ¬ so → n ≡ 0

-- the next-unit word of the unit's window has passed the unit's number within the window
pub record IsPassed (units : ℕ) (words : List ℕ) (unit : ℕ) : Type 0 where
  pub counted : unit < units
  pub passed : unit % WINDOW < slice_index words (unit / WINDOW)

-- how many seats, with those joined into them, a seat stands for that saw the window end
abbrev pub ended_seats : ℕ → DrawView → ℕ
ended_seats window v = if nat_lt 0 (occurrences window v.ended) then length v.numbers else 0

-- what is so of the next-unit words between any two steps
pub record DrawRuleHolds (sizes : DrawSizes) (s : State (Unit {0}) DrawView) : Type 0 where
  pub few : sizes.seats ≤ MOST_SEATS
  pub size : length s.words ≡ window_count sizes.units + window_count sizes.units
  pub first : HasFirstSeat sizes s.views
  pub seats : (i : ℕ) (v : DrawView) → get_elem? s.views i ≡ some v → IsSeatAt sizes i v ⊎ IsJoinedAway v
  -- each number of a seat that was made is with one seat
  pub numbers : sum_by (λ v. length v.numbers) s.views ≡ length s.views
  pub apart : (n : ℕ) → IsOneWhere (n < length s.views) (sum_by (λ v. occurrences n v.numbers) s.views)
  -- each unit that its window's word has passed was drawn once, and no other was drawn
  pub drawn : (u : ℕ) → IsOneWhere (IsPassed sizes.units s.words u) (sum_by (λ v. occurrences u v.drawn) s.views)
  -- where a seat saw a window end, the window's word has passed all its units
  pub ended : (i : ℕ) (v : DrawView) → get_elem? s.views i ≡ some v → (w : ℕ) → 0 < occurrences w v.ended → window_length sizes.units w ≤ slice_index s.words w
  -- a window's word is at most the window's length and one more for each seat that saw it end
  pub bound : (w : ℕ) → w < window_count sizes.units → slice_index s.words w ≤ window_length sizes.units w + sum_by (ended_seats w) s.views

-- # The least words

module _ (refuses : List ℕ → ℕ → Type 0) where
  -- it is the window's length, or the number within the window of a refused unit
  pub record IsLeastWord (units : ℕ) (tag : List ℕ) (window n : ℕ) : Type 0 where
    pub most : n ≤ window_length units window
    pub refused : n < window_length units window → refuses tag (WINDOW * window + n)

  -- what is so of the least words between any two steps
  pub record LeastRuleHolds (units : ℕ) (tag : List ℕ) (s : State (Unit {0}) DrawView) : Type 0 where
    pub tags : (i : ℕ) (v : DrawView) → get_elem? s.views i ≡ some v → 0 < length v.numbers → v.tag ≡ tag
    pub least : (w : ℕ) → w < window_count units → IsLeastWord units tag w (slice_index s.words (window_count units + w))
    -- a window's least word is at most the number of each unit of it that a seat told of
    pub lowered : (i : ℕ) (v : DrawView) → get_elem? s.views i ≡ some v → (u : ℕ) → u < units → 0 < occurrences u v.lowered
        → slice_index s.words (window_count units + u / WINDOW) ≤ u % WINDOW

  -- what is so between any two steps
  pub record RuleHolds (about : AboutDraws) (s : State (Unit {0}) DrawView) : Type 0 where
    pub draws : DrawRuleHolds about.sizes s
    pub least : LeastRuleHolds about.sizes.units about.tag.numbers s

-- # What a step tells

-- the seat drew a unit
pub record DrawsUnit (v : DrawView) (window unit : ℕ) (v' : DrawView) : Type 0 where
  pub fresh : occurrences unit v.drawn ≡ 0
  pub fewer : places_ahead window (with_unit v unit) < places_ahead window v
  pub drawn : v' ≡ with_unit v unit

-- the seat saw the window end
pub record EndsWindow (v : DrawView) (window : ℕ) (v' : DrawView) : Type 0 where
  pub ended : v' ≡ with_ended v window
  pub whole : HasEverySeat v → HasDrawnWindow v window

-- the number that a seat found in a window's word, and added 1 to
pub record DrawsNumber (st : Step (Unit {0})) (m : Me (Unit {0}) DrawView) (n : ℕ) (m' : Me (Unit {0}) DrawView) : Type 0 where
  pub slots : m'.1 ≡ m.1
  pub tag : m'.0.tag ≡ m.0.tag
  pub lowered : m'.0.lowered ≡ m.0.lowered
  pub unit : n < window_length m.0.units st.word → DrawsUnit m.0 st.word (WINDOW * st.word + n) m'.0
  pub none : window_length m.0.units st.word ≤ n → EndsWindow m.0 st.word m'.0

-- a seat learned what the rule says of what it has drawn
pub record LearnsOfDrawn (st : Step (Unit {0})) (m : Me (Unit {0}) DrawView) (n : ℕ) (m' : Me (Unit {0}) DrawView) : Type 0 where
  pub same : m' ≡ m
  pub once : (u : ℕ) → occurrences u m.0.drawn ≤ 1
  pub whole : HasEverySeat m.0 → (w : ℕ) → 0 < occurrences w m.0.ended → HasDrawnWindow m.0 w

-- the seat told of the unit whose number is the operand, in the window of the least word
pub record LowersUnit (st : Step (Unit {0})) (m : Me (Unit {0}) DrawView) (n : ℕ) (m' : Me (Unit {0}) DrawView) : Type 0 where
  pub slots : m'.1 ≡ m.1
  pub lowered : m'.0 ≡ with_lowered m.0 (WINDOW * (st.word - window_count m.0.units) + st.first)

-- what a window's least word tells
pub record TellsLeast (refuses : List ℕ → ℕ → Type 0) (st : Step (Unit {0})) (m : Me (Unit {0}) DrawView) (n : ℕ) (m' : Me (Unit {0}) DrawView) : Type 0 where
  pub same : m' ≡ m
  pub word : IsLeastWord refuses m.0.units m.0.tag (st.word - window_count m.0.units) n
  pub most : (u : ℕ) → u < m.0.units → 0 < occurrences u m.0.lowered → u / WINDOW ≡ st.word - window_count m.0.units → n ≤ u % WINDOW
