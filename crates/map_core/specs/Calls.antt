-- What a call of the table answers, at one point of one history.
-- A call takes a pass from v to w. It stands at a front C, which its answer fixes: w's front, or for an insert that
-- placed its entry the beginning of w's front that ends with the last of w's own entries.
use Rattle.std.specs.Prelude.{◌≡◌, ◌≢◌, ℕ, ◌+◌, ◌≤◌, true, false, List, [], ◌∷◌, ◌++◌, length, Option, Some, None, IfSome}
use Rattle.map_core.specs.declared.entry.Entry.{Entry}
use Rattle.map_core.specs.declared.view.View.{View}
use Rattle.map_core.specs.PlainMap.{plain_get}
use Rattle.map_core.specs.History.{plain_map, value_in, IsLegalHistory, is_in, by_any, StartsWith, StartsWithOwn}
use Rattle.map_core.specs.Events.{entry}

-- the entries of the pass's front that it, or a pass joined into it, has made
abbrev pub own : View → List Entry
own v = by_any v.numbers v.front

-- what a find and an insert keep of a pass, whatever they answer
pub record SamePass (v w : View) : Type 0 where
  pub number : w.number ≡ v.number
  pub numbers : w.numbers ≡ v.numbers
  pub spare : w.spare ≡ v.spare
  pub tag : w.tag ≡ v.tag

-- C lies between the two fronts, and both are legal
pub record IsPoint (fits : ℕ → ℕ → Type 0) (v w : View) (C : List Entry) : Type 0 where
  pub after : StartsWith v.front C
  pub before : StartsWith C w.front
  pub legal_here : IsLegalHistory fits C
  pub legal : IsLegalHistory fits w.front

module _ (fits : ℕ → ℕ → Type 0) (v w : View) where
  -- a find answers what the map of the front has
  pub record FindsAt (key : ℕ) (answer : Option ℕ) : Type 0 where
    pub point : IsPoint fits v w w.front
    pub value : answer ≡ plain_get (plain_map w.front) key
    pub value_fits : IfSome answer (λ x. fits key x)
    pub own : own w ≡ own v

  -- an insert has placed its entry: it is the last of C, and its key was not there before
  pub record PlacesAt (key value : ℕ) : Type 0 where
    pub lower : List Entry
    pub point : IsPoint fits v w (lower ++ entry v.number key value ∷ [])
    pub last : StartsWithOwn w.numbers (lower ++ entry v.number key value ∷ []) w.front
    pub front : StartsWith v.front lower
    pub lacks : plain_get (plain_map lower) key ≡ None
    pub stands : plain_get (plain_map w.front) key ≡ Some value
    pub own : own w ≡ own v ++ entry v.number key value ∷ []

  -- an insert has found a value, and adds nothing
  pub record FoundAt (key found : ℕ) : Type 0 where
    pub point : IsPoint fits v w w.front
    pub value : plain_get (plain_map w.front) key ≡ Some found
    pub value_fits : fits key found
    pub own : own w ≡ own v

  -- an insert has found no room, and adds nothing
  pub record FullAt (capacity key : ℕ) : Type 0 where
    pub point : IsPoint fits v w w.front
    pub lacks : plain_get (plain_map w.front) key ≡ None
    pub full : capacity ≤ length w.front
    pub own : own w ≡ own v

-- a split leaves the pass its front and its numbers. One of the spare numbers goes to the new pass
pub record SplitsAt (v w : View) : Type 0 where
  pub front : w.front ≡ v.front
  pub number : w.number ≡ v.number
  pub numbers : w.numbers ≡ v.numbers
  pub spare : w.spare + 1 ≡ v.spare
  pub tag : w.tag ≡ v.tag

-- the pass u was joined into v, which became w. Both fronts begin the new one, and what follows each is
-- by other passes than its own
pub record JoinsAt (fits : ℕ → ℕ → Type 0) (v u w : View) : Type 0 where
  pub legal : IsLegalHistory fits w.front
  pub mine : StartsWithOwn v.numbers v.front w.front
  pub theirs : StartsWithOwn u.numbers u.front w.front
  pub apart : (n : ℕ) → is_in n v.numbers ≡ true → is_in n u.numbers ≡ false
  pub all : length (own w) ≡ length (own v) + length (own u)
  pub number : w.number ≡ v.number
  pub numbers : w.numbers ≡ v.numbers ++ u.numbers
  pub spare : w.spare ≡ v.spare
  pub tag : w.tag ≡ v.tag

-- a call with its answer
pub data Call : Type 0 where
  finds : ℕ → Option ℕ → Call  -- key, answer
  places : ℕ → ℕ → Call  -- key, value
  meets : ℕ → ℕ → Call  -- key, the value found
  is_full : ℕ → Call  -- key
  splits : Call
  joins : View → Call  -- the pass that is taken in

module _ (fits : ℕ → ℕ → Type 0) (capacity : ℕ) where
  abbrev pub CallAt : Call → View → View → Type 0
  CallAt (finds key answer) v w = SamePass v w × FindsAt fits v w key answer
  CallAt (places key value) v w = SamePass v w × PlacesAt fits v w key value
  CallAt (meets key found) v w = SamePass v w × FoundAt fits v w key found
  CallAt (is_full key) v w = SamePass v w × FullAt fits v w capacity key
  CallAt splits v w = SplitsAt v w
  CallAt (joins u) v w = JoinsAt fits v u w

  -- the point of a call
  abbrev pub point_of : (c : Call) (v w : View) → CallAt c v w → List Entry
  point_of (finds key answer) v w at = w.front
  point_of (places key value) v w at = at.1.lower ++ entry v.number key value ∷ []
  point_of (meets key found) v w at = w.front
  point_of (is_full key) v w at = w.front
  point_of splits v w at = w.front
  point_of (joins u) v w at = w.front

  -- calls through one pass, one after another
  pub data CallsInOrder : List Call → View → View → Type 0 where
    no_calls : (v : View) → CallsInOrder [] v v
    call_then : (c : Call) (cs : List Call) (v u w : View)
        → CallAt c v u → CallsInOrder cs u w → CallsInOrder (c ∷ cs) v w

  abbrev pub points_of : (cs : List Call) (v w : View) → CallsInOrder cs v w → List (List Entry)
  points_of _ _ _ (no_calls v) = []
  points_of _ _ _ (call_then c cs v u w at rest) = point_of c v u at ∷ points_of cs u w rest

-- each front begins the next
abbrev pub Ascends : List Entry → List (List Entry) → List Entry → Type 0
Ascends from [] to = StartsWith from to
Ascends from (C ∷ Cs) to = StartsWith from C × Ascends C Cs to

-- one entry for each insert that placed, in order
abbrev pub placed_by : ℕ → List Call → List Entry
placed_by who [] = []
placed_by who (finds key answer ∷ cs) = placed_by who cs
placed_by who (places key value ∷ cs) = entry who key value ∷ placed_by who cs
placed_by who (meets key found ∷ cs) = placed_by who cs
placed_by who (is_full key ∷ cs) = placed_by who cs
placed_by who (splits ∷ cs) = placed_by who cs
placed_by who (joins u ∷ cs) = placed_by who cs

-- the passes that were taken in
abbrev pub taken_in : List Call → List View
taken_in [] = []
taken_in (finds key answer ∷ cs) = taken_in cs
taken_in (places key value ∷ cs) = taken_in cs
taken_in (meets key found ∷ cs) = taken_in cs
taken_in (is_full key ∷ cs) = taken_in cs
taken_in (splits ∷ cs) = taken_in cs
taken_in (joins u ∷ cs) = u ∷ taken_in cs

-- how many passes were split off
abbrev pub split_count : List Call → ℕ
split_count [] = 0
split_count (finds key answer ∷ cs) = split_count cs
split_count (places key value ∷ cs) = split_count cs
split_count (meets key found ∷ cs) = split_count cs
split_count (is_full key ∷ cs) = split_count cs
split_count (splits ∷ cs) = 1 + split_count cs
split_count (joins u ∷ cs) = split_count cs

-- the numbers of these passes, and how many entries are theirs
abbrev pub numbers_of : List View → List ℕ
numbers_of [] = []
numbers_of (u ∷ us) = u.numbers ++ numbers_of us

abbrev pub own_count : List View → ℕ
own_count [] = 0
own_count (u ∷ us) = length (own u) + own_count us

-- what the front has by each of these passes is what each had placed
abbrev pub KeepsOwn : List Entry → List View → Type 0
KeepsOwn front [] = Unit {0}
KeepsOwn front (u ∷ us) = (by_any u.numbers front ≡ own u) × KeepsOwn front us

-- Each call with this key answers this value: a find finds it, an insert meets it, and no insert places
-- another or finds no room
abbrev pub AllMeet : ℕ → ℕ → List Call → Type 0
AllMeet key value [] = Unit {0}
AllMeet key value (finds k answer ∷ cs) = (k ≡ key → answer ≡ Some value) × AllMeet key value cs
AllMeet key value (places k x ∷ cs) = (k ≢ key) × AllMeet key value cs
AllMeet key value (meets k found ∷ cs) = (k ≡ key → found ≡ value) × AllMeet key value cs
AllMeet key value (is_full k ∷ cs) = (k ≢ key) × AllMeet key value cs
AllMeet key value (splits ∷ cs) = AllMeet key value cs
AllMeet key value (joins u ∷ cs) = AllMeet key value cs

-- the calls after a join meet what the pass that was taken in had in its front
abbrev pub AllMeetTaken : List Call → Type 0
AllMeetTaken [] = Unit {0}
AllMeetTaken (finds k answer ∷ cs) = AllMeetTaken cs
AllMeetTaken (places k x ∷ cs) = AllMeetTaken cs
AllMeetTaken (meets k found ∷ cs) = AllMeetTaken cs
AllMeetTaken (is_full k ∷ cs) = AllMeetTaken cs
AllMeetTaken (splits ∷ cs) = AllMeetTaken cs
AllMeetTaken (joins u ∷ cs) =
    ((key value : ℕ) → value_in u.front key ≡ Some value → AllMeet key value cs) × AllMeetTaken cs

-- What calls in order come to
pub record HoldCallsOnce (capacity : ℕ) (fits : ℕ → ℕ → Type 0) (cs : List Call) (v w : View)
    (calls : CallsInOrder fits capacity cs v w) : Type 0 where
  -- the points ascend from the first front to the last
  pub ascend : Ascends v.front (points_of fits capacity cs v w calls) w.front
  -- by the pass's first numbers are the entries that it had, followed by one for each insert that placed
  pub placed : by_any v.numbers w.front ≡ own v ++ placed_by v.number cs
  -- by those of a pass that was taken in are that pass's entries
  pub taken : KeepsOwn w.front (taken_in cs)
  -- the pass's own entries are these and no others, each once
  pub numbers : w.numbers ≡ v.numbers ++ numbers_of (taken_in cs)
  pub all : length (own w)
      ≡ length (own v) + (own_count (taken_in cs) + length (placed_by v.number cs))
  -- where none was taken in, they are so in this order
  pub alone : taken_in cs ≡ [] → own w ≡ own v ++ placed_by v.number cs
  pub number : w.number ≡ v.number
  pub spare : w.spare + split_count cs ≡ v.spare
  pub tag : w.tag ≡ v.tag
  -- a key that the first front has is met by every call, with the same value, and the last front has it
  pub meet : (key value : ℕ) → value_in v.front key ≡ Some value → AllMeet key value cs
  pub meet_taken : AllMeetTaken cs
  pub stays : (key value : ℕ)
      → value_in v.front key ≡ Some value → value_in w.front key ≡ Some value
