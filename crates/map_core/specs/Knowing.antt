-- What a pass knows after each of its steps. The history is log as the step is made.
use Rattle.std.specs.Prelude.{ℕ, ◌+◌, ◌-◌, true, false, List, [], ◌∷◌, ◌++◌, Some, None, if◌then◌else◌, ◌==◌}
use Rattle.std.proofs.Common.{lit≤, not-suc-le-zero}
use Rattle.map_core.specs.Sizes.{cells_of, IsLastFor}
use Rattle.map_core.specs.declared.entry.Entry.{Entry}
use Rattle.map_core.specs.declared.layout.Layout.{Layout}
use Rattle.map_core.specs.declared.view.View.{View}
use Rattle.map_core.specs.Places.{lowest, key_place, value_place}
use Rattle.map_core.specs.Passes.{cell, drop_claim, all_numbers}

abbrev pub all_but_first : List Entry → List Entry
all_but_first [] = []
all_but_first (e ∷ es) = es

-- the first pass of a table at the start
abbrev pub first_view : Layout → List ℕ → View
first_view l mark = record {
  live = true;
  layout = l;
  tag = mark;
  number = 0;
  numbers = 0 ∷ [];
  spare = l.passes - 1;
  front = [];
  beside = [];
  beside_numbers = [];
  generation = lowest l;
  claim = None;
  uncounted = [];
  counted = 0;
  known = [];
  count_seen = 0;
  currents = lowest l ∷ [];
}

-- the word n was found at the place q
abbrev pub sees : View → List Entry → ℕ → ℕ → View
sees v log q n = record v { front = log; known = (q, n) ∷ v.known }

-- the value word n was found in a cell. A claim of it ends where it is set
abbrev pub reads : Layout → View → List Entry → ℕ → ℕ → ℕ → View
reads l v log g i n = record v { front = log; known = (value_place l g i, n) ∷ v.known; claim = if n == 0 then v.claim else drop_claim v.claim g i }

-- a cell was claimed for the key k
abbrev pub grabs : Layout → View → List Entry → ℕ → ℕ → ℕ → View
grabs l v log g i k = record v { front = log; known = (key_place l g i, k) ∷ v.known; claim = Some (cell g i) }

-- the value x was published in a cell, and the entry e is new in the history
abbrev pub places : Layout → View → List Entry → ℕ → ℕ → ℕ → Entry → View
places l v log g i x e = record v {
  front = log;
  known = (value_place l g i, x) ∷ v.known;
  claim = drop_claim v.claim g i;
  uncounted = v.uncounted ++ e ∷ [];
}

-- generation g was current
abbrev pub rises : View → List Entry → ℕ → View
rises v log g = record v { front = log; generation = g; currents = g ∷ v.currents }

-- a step was made that tells no more than the history
abbrev pub passes_by : View → List Entry → View
passes_by v log = record v { front = log }

-- the count was n
abbrev pub counts_seen : View → List Entry → ℕ → View
counts_seen v log n = record v { front = log; count_seen = n }

-- one entry was counted, and the count became n
abbrev pub tallies : View → List Entry → ℕ → View
tallies v log n = record v { front = log; counted = v.counted + 1; uncounted = all_but_first v.uncounted; count_seen = n }

-- the two parts of a split
abbrev pub halved : View → View
halved v = record v { spare = v.spare - 1 }

abbrev pub newcomer : View → View
newcomer v = record v {
  number = v.layout.passes - v.spare;
  numbers = (v.layout.passes - v.spare) ∷ [];
  spare = 0;
  claim = None;
  uncounted = [];
  counted = 0;
}

-- the first step of a join: the other's front and numbers stand beside
abbrev pub put_together : View → View → View
put_together v u = record v {
  beside = u.front;
  beside_numbers = u.numbers;
  uncounted = v.uncounted ++ u.uncounted;
  counted = v.counted + u.counted;
}

-- and the second: a load of word 0
abbrev pub settles : View → List Entry → View
settles v log = record v { front = log; numbers = all_numbers v; beside = []; beside_numbers = [] }

-- one generation is enough for one entry and one pass
pub smallest : IsLastFor 1 1 0
unfolding cells_of
smallest = (lit≤ tt, λ g below. absurd (not-suc-le-zero below))

-- what a pass leaves that was joined into another
abbrev pub gone : View
gone = record {
  live = false;
  layout = record { capacity = 1; passes = 1; last = 0; capacity_fits = (lit≤ tt, lit≤ tt); passes_fit = (lit≤ tt, lit≤ tt); last_fits = smallest };
  tag = [];
  number = 0;
  numbers = [];
  spare = 0;
  front = [];
  beside = [];
  beside_numbers = [];
  generation = 0;
  claim = None;
  uncounted = [];
  counted = 0;
  known = [];
  count_seen = 0;
  currents = [];
}
