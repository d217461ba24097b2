-- What the passes of a table know, and the facts that tie it to the table's words and history.
use Rattle.std.specs.Prelude.{◌≡◌, ◌≢◌, ◌⊎◌, ℕ, ◌+◌, ◌-◌, ◌*◌, ◌<◌, ◌≤◌, true, false, List, [], ◌∷◌, ◌++◌, length, Option, Some, None, if◌then◌else◌, ◌==◌, ◌&&◌}
use mathlib.Core.Option.{some}
use lib.ListN.{get_elem?}
use Rattle.map_core.specs.declared.cell.Cell.{Cell}
use Rattle.map_core.specs.declared.entry.Entry.{Entry}
use Rattle.map_core.specs.declared.layout.Layout.{Layout}
use Rattle.map_core.specs.declared.view.View.{View}
use Rattle.map_core.specs.Sizes.{cells_of}
use Rattle.map_core.specs.History.{value_in, IsLegalHistory, is_in, by_any, StartsWithOwn}
use Rattle.map_core.specs.Places.{lowest, word_count, key_place, value_place, Within, IsCell}
use Rattle.map_core.specs.Machine.{IsWord, Keeps, State, Passed, IsClosed, IsUnset}

-- the word that was seen at a place, or 0
abbrev pub look : List (ℕ × ℕ) → ℕ → ℕ
look [] q = 0
look (p ∷ ps) q = if p.0 == q then p.1 else look ps q

abbrev pub cell : ℕ → ℕ → Cell
cell g i = record { generation = g; index = i }

-- an open claim ends at its own cell
abbrev pub drop_claim : Option Cell → ℕ → ℕ → Option Cell
drop_claim None g i = None
drop_claim (Some c) g i = if (c.generation == g) && (c.index == i) then None else Some c

-- the numbers of a pass, and of one that is being joined into it
abbrev pub all_numbers : View → List ℕ
all_numbers v = v.numbers ++ v.beside_numbers

-- how many entries a pass has placed
abbrev pub placed : View → ℕ
placed v = v.counted + length v.uncounted

-- no open claim, and no entry that is not counted
pub record AtRest (v : View) : Type 0 where
  pub claim : v.claim ≡ None
  pub uncounted : v.uncounted ≡ []

abbrev pub total : (View → ℕ) → List View → ℕ
total f [] = 0
total f (v ∷ vs) = f v + total f vs

-- a generation above the lowest, where a front fills three quarters of the one below it
abbrev pub HasFilled : Layout → ℕ → List Entry → Type 0
HasFilled l g front = (g ≡ lowest l) ⊎ (3 * cells_of (g - 1) ≤ 4 * length front)

-- every entry is by a pass below n
abbrev pub WhoBelow : ℕ → List Entry → Type 0
WhoBelow n [] = Unit {0}
WhoBelow n (e ∷ es) = (e.who < n) × WhoBelow n es

-- every entry is by the pass i
abbrev pub AllBy : ℕ → List Entry → Type 0
AllBy i [] = Unit {0}
AllBy i (e ∷ es) = (e.who ≡ i) × AllBy i es

abbrev pub Distinct : List ℕ → Type 0
Distinct [] = Unit {0}
Distinct (n ∷ ns) = (is_in n ns ≡ false) × Distinct ns

module _ (l : Layout) (mark : List ℕ) (s : State) where
  -- what is true of the pass i, whose view is v: its front and the one beside it are beginnings of the history, which has the entries that it placed and no others of it. What it has seen is so
  pub record PassAt (i : ℕ) (v : View) : Type 0 where
    pub number : v.number ≡ i
    pub layout : v.layout ≡ l
    pub tag : v.tag ≡ mark
    pub front : StartsWithOwn v.numbers v.front s.history
    pub beside : StartsWithOwn v.beside_numbers v.beside s.history
    pub knows : Keeps (look v.known) s.cells
    pub own : is_in v.number v.numbers ≡ true
    pub tally : length (by_any (all_numbers v) s.history) ≡ placed v
    pub spare : 0 < i → v.spare ≡ 0
    pub distinct : Distinct (all_numbers v)
    pub count_seen : v.count_seen ≤ s.count
    pub generation : is_in v.generation v.currents ≡ true
    pub currents : (c : ℕ) → is_in c v.currents ≡ true → (lowest l ≤ c) × (c ≤ s.current)
    pub filled : HasFilled l v.generation v.front

  -- the first pass and its spare: the number of passes made is that of the views
  pub record HasFirst (views : List View) : Type 0 where
    pub view : View
    pub at : get_elem? views 0 ≡ some view
    pub live : view.live ≡ true
    pub made : length views + view.spare ≡ l.passes

  -- a pass that has seen all of the history. Between the two steps of a join that may be in the front beside its own
  pub record SeesAll (views : List View) : Type 0 where
    pub who : ℕ
    pub view : View
    pub at : get_elem? views who ≡ some view
    pub live : view.live ≡ true
    pub front : (view.front ≡ s.history) ⊎ (view.beside ≡ s.history)

  -- The passes share one history: what each knows of it is so, one of them has seen all of it, their numbers are disjoint, and each entry is by one of them
  pub record FrontsOfOneHistory (views : List View) : Type 0 where
    pub each : (i : ℕ) (v : View) → get_elem? views i ≡ some v → v.live ≡ true → PassAt i v
    pub spent : (i : ℕ) (v : View) → get_elem? views i ≡ some v → v.live ≡ false → (all_numbers v ≡ []) × (placed v ≡ 0) × (v.counted ≡ 0) × (v.claim ≡ None)
    pub apart : (i j : ℕ) (v w : View) → get_elem? views i ≡ some v → get_elem? views j ≡ some w → i ≢ j → (n : ℕ) → is_in n (all_numbers v) ≡ true → is_in n (all_numbers w) ≡ false
    pub below : (i : ℕ) (v : View) → get_elem? views i ≡ some v → (n : ℕ) → is_in n (all_numbers v) ≡ true → n < length views
    pub who : WhoBelow (length views) s.history
    pub first : HasFirst views
    pub whole : SeesAll views

  -- The count is the number of entries that their passes have counted, and the history has as many as were placed
  pub record CountIsHonest (views : List View) : Type 0 where
    pub counted : total (λ v. v.counted) views ≡ s.count
    pub placed : total placed views ≡ length s.history

  -- a pass that has claimed this cell
  pub record HasClaim (views : List View) (g i : ℕ) : Type 0 where
    pub who : ℕ
    pub view : View
    pub at : get_elem? views who ≡ some view
    pub claim : view.claim ≡ Some (cell g i)

  -- A cell with a key and no value is the open claim of a pass
  pub record OpenClaims (views : List View) : Type 0 where
    pub claimed : (g i : ℕ) → IsCell l g i → IsUnset l s.cells g i → HasClaim views g i

  -- the facts on the passes, all together
  pub record Together (views : List View) : Type 0 where
    pub fronts : FrontsOfOneHistory views
    pub count : CountIsHonest views
    pub claims : OpenClaims views

-- one pass goes from v to w while the table goes from s to t: what is owed
pub record Turn (l : Layout) (mark : List ℕ) (s t : State) (i : ℕ) (v w : View) : Type 0 where
  pub keeps : Keeps s.cells t.cells
  pub current : s.current ≤ t.current
  pub count : s.count ≤ t.count
  pub added : List Entry
  pub grows : s.history ++ added ≡ t.history
  pub mine : AllBy i added
  pub live : (v.live ≡ true) × (w.live ≡ true)
  pub numbers : all_numbers w ≡ all_numbers v
  pub spare : w.spare ≡ v.spare
  pub at : PassAt l mark t i w
  pub whole : w.front ≡ t.history
  pub counted : w.counted + s.count ≡ v.counted + t.count
  pub placed : placed w + length s.history ≡ placed v + length t.history
  pub claims : (g j : ℕ) → IsCell l g j → IsUnset l t.cells g j → (w.claim ≡ Some (cell g j)) ⊎ (IsUnset l s.cells g j × (v.claim ≢ Some (cell g j)))

-- What is true of a pass by itself after every step: its front is legal, and what it has seen published is in it
pub record PassFacts (fits : List ℕ → ℕ → ℕ → Type 0) (v : View) : Type 0 where
  pub live : v.live ≡ true
  pub alone : (v.beside ≡ []) × (v.beside_numbers ≡ [])
  pub own : is_in v.number v.numbers ≡ true
  pub distinct : Distinct v.numbers
  pub number : v.number < v.layout.passes
  pub spare : v.spare < v.layout.passes
  pub others : 0 < v.number → v.spare ≡ 0
  pub legal : IsLegalHistory (fits v.tag) v.front
  pub tally : length (by_any v.numbers v.front) ≡ placed v
  -- the first pass knows how many passes were made. Where it has all their numbers, the whole front is its own
  pub made : v.number ≡ 0 → WhoBelow (v.layout.passes - v.spare) v.front
  pub few : v.number ≡ 0 → length v.numbers ≤ v.layout.passes - v.spare
  pub whole : v.number ≡ 0 → length v.numbers ≡ v.layout.passes - v.spare → by_any v.numbers v.front ≡ v.front
  pub generation : is_in v.generation v.currents ≡ true
  pub currents : (c : ℕ) → is_in c v.currents ≡ true → Within v.layout c
  -- the pass's generation is the lowest, or its front fills three quarters of the one below
  pub filled : HasFilled v.layout v.generation v.front
  pub seen : (g i : ℕ) → IsCell v.layout g i → IsWord (look v.known (key_place v.layout g i)) → IsWord (look v.known (value_place v.layout g i))
      → value_in v.front (look v.known (key_place v.layout g i)) ≡ Some (look v.known (value_place v.layout g i))
  -- where the key is seen closed from a current generation up to the last, and the last is seen full of other keys,
  -- the front lacks the key
  pub ends : (c k : ℕ) → IsWord k → is_in c v.currents ≡ true
      → ((h : ℕ) → c ≤ h → h < v.layout.last → IsClosed v.layout (look v.known) h k)
      → Passed v.layout (look v.known) v.layout.last k (cells_of v.layout.last) → value_in v.front k ≡ None
  -- and it has at least the capacity's entries
  pub full : (k : ℕ) → Passed v.layout (look v.known) v.layout.last k (cells_of v.layout.last)
      → v.layout.capacity ≤ length v.front
  -- no count that it has seen is above its front's entries
  pub count_seen : v.count_seen ≤ length v.front
  pub small : length v.front ≤ word_count v.layout
