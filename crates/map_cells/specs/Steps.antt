-- What each step call tells: of what the pass knew before, v, and what it knows after, w. The step found the number n in a word.
use Rattle.std.specs.Prelude.{◌≡◌, ◌≢◌, ◌⊎◌, ℕ, ◌+◌, ◌<◌, ◌≤◌, List, [], ◌∷◌, ◌++◌, length, Some, None, if◌then◌else◌, ◌==◌, true}
use Rattle.map_core.specs.declared.entry.Entry.{Entry}
use Rattle.map_core.specs.declared.view.View.{View}
use Rattle.map_core.specs.History.{value_in, is_in, StartsWith, StartsWithOwn}
use Rattle.map_core.specs.Places.{key_place, value_place, finish_place}
use Rattle.map_core.specs.Machine.{greatest, IsWord, Reaches, IsClosed, IsPublished, IsSettled}
use Rattle.map_core.specs.Events.{claims, publishes, seals_key, seals_value, counts, takes, finishes, switches, entry}
use Rattle.map_core.specs.Calls.{own}
use Rattle.map_core.specs.Passes.{look, cell, drop_claim, PassFacts}
use Rattle.map_core.specs.Knowing.{all_but_first}
use Rattle.map_cells.specs.Whole.{MakesStep, MakesLoad, WasCurrent}

-- the key is seen closed in each generation from a current one up to below g
pub record ClosedTo (v : View) (g k : ℕ) : Type 0 where
  pub from : ℕ
  pub current : is_in from v.currents ≡ true
  pub low : from ≤ g
  pub closed : (h : ℕ) → from ≤ h → h < g → IsClosed v.layout (look v.known) h k

-- and the same, where it may also be seen published
pub record SettledTo (v : View) (g k : ℕ) : Type 0 where
  pub from : ℕ
  pub current : is_in from v.currents ≡ true
  pub low : from ≤ g
  pub settled : (h : ℕ) → from ≤ h → h < g → IsSettled v.layout (look v.known) h k

-- what every step keeps, and what it may only add to
pub record StepFrame (v w : View) : Type 0 where
  pub layout : w.layout ≡ v.layout
  pub tag : w.tag ≡ v.tag
  pub number : w.number ≡ v.number
  pub numbers : w.numbers ≡ v.numbers
  pub spare : w.spare ≡ v.spare
  pub generation : w.generation ≡ v.generation
  pub currents : w.currents ≡ v.currents
  pub front : StartsWith v.front w.front
  pub seen : (q : ℕ) → 0 < look v.known q → look w.known q ≡ look v.known q
  pub count_seen : v.count_seen ≤ w.count_seen

-- a step that adds no entry: what follows the old front is by others
pub record Looks (v w : View) : Type 0 where
  pub steps : StepFrame v w
  pub mine : StartsWithOwn v.numbers v.front w.front
  pub own : own w ≡ own v

-- what every call keeps that adds no entry, also where it saw a later generation current
pub record Rises (v w : View) : Type 0 where
  pub layout : w.layout ≡ v.layout
  pub tag : w.tag ≡ v.tag
  pub number : w.number ≡ v.number
  pub numbers : w.numbers ≡ v.numbers
  pub spare : w.spare ≡ v.spare
  pub generation : v.generation ≤ w.generation
  pub currents : (c : ℕ) → is_in c v.currents ≡ true → is_in c w.currents ≡ true
  pub front : StartsWith v.front w.front
  pub seen : (q : ℕ) → 0 < look v.known q → look w.known q ≡ look v.known q
  pub count_seen : v.count_seen ≤ w.count_seen
  pub mine : StartsWithOwn v.numbers v.front w.front
  pub own : own w ≡ own v
  pub claim : v.claim ≡ None → w.claim ≡ None
  pub uncounted : w.uncounted ≡ v.uncounted
  pub counted : w.counted ≡ v.counted

module _ (fits : List ℕ → ℕ → ℕ → Type 0) where
  -- a step that changes no claim and adds and counts no entry
  pub record LeavesClaim (v w : View) : Type 0 where
    pub looks : Looks v w
    pub facts : PassFacts fits w
    pub claim : w.claim ≡ v.claim
    pub uncounted : w.uncounted ≡ v.uncounted
    pub counted : w.counted ≡ v.counted
    pub same_count : w.count_seen ≡ v.count_seen

  -- a load of word 0, which found generation n current at its moment
  pub record CurrentSeen (n : ℕ) (v w : View) : Type 0 where
    pub rises : Rises v w
    pub facts : PassFacts fits w
    pub claim : w.claim ≡ v.claim
    pub same_count : w.count_seen ≡ v.count_seen
    pub generation : w.generation ≡ n
    pub moment : WasCurrent fits n w

  -- a load of the finish word of a block
  pub record BlockSeen (g b n : ℕ) (v w : View) : Type 0 where
    pub leaves : LeavesClaim v w
    pub word : look w.known (finish_place v.layout g b) ≡ n

  -- a load of the key word of a cell
  pub record KeySeen (g i n : ℕ) (v w : View) : Type 0 where
    pub looks : Looks v w
    pub facts : PassFacts fits w
    pub claim : w.claim ≡ v.claim
    pub uncounted : w.uncounted ≡ v.uncounted
    pub counted : w.counted ≡ v.counted
    pub same_count : w.count_seen ≡ v.count_seen
    pub word : look w.known (key_place v.layout g i) ≡ n
    pub unsealed : g ≡ v.layout.last → n < greatest
    -- an empty word at the end of a key's walk: the front lacks the key
    pub absent : (k : ℕ) → IsWord k → n ≡ 0 → Reaches v.layout (look v.known) g i k → ClosedTo v g k
        → value_in w.front k ≡ None

  -- a load of the value word of a cell
  pub record ValueSeen (g i n : ℕ) (v w : View) : Type 0 where
    pub looks : Looks v w
    pub facts : PassFacts fits w
    pub claim : w.claim ≡ (if n == 0 then v.claim else drop_claim v.claim g i)
    pub uncounted : w.uncounted ≡ v.uncounted
    pub counted : w.counted ≡ v.counted
    pub same_count : w.count_seen ≡ v.count_seen
    pub word : look w.known (value_place v.layout g i) ≡ n
    pub unclosed : g ≡ v.layout.last → n < greatest
    -- an unset value at a key that was seen: the front lacks the key
    pub absent : (k : ℕ) → IsWord k → n ≡ 0 → look v.known (key_place v.layout g i) ≡ k
        → ClosedTo v g k → value_in w.front k ≡ None
    pub present : (k : ℕ) → IsWord k → IsWord n → look v.known (key_place v.layout g i) ≡ k
        → value_in w.front k ≡ Some n

  -- a load of the count
  pub record CountSeen (n : ℕ) (v w : View) : Type 0 where
    pub looks : Looks v w
    pub facts : PassFacts fits w
    pub claim : w.claim ≡ v.claim
    pub uncounted : w.uncounted ≡ v.uncounted
    pub counted : w.counted ≡ v.counted
    pub known : w.known ≡ v.known
    pub seen : w.count_seen ≡ n
    -- it is at least the pass's own entries less the uncounted ones, and at most the front's
    pub low : length (own w) ≤ n + length w.uncounted
    pub high : n ≤ length w.front

  -- a pair may be published in a cell of generation g: it is seen published in some generation, or it fits
  -- and its key is seen closed below g
  abbrev pub MayPublish : ℕ → ℕ → ℕ → View → Type 0
  MayPublish g k x v =
      ((h : ℕ) × IsPublished v.layout (look v.known) h k x) ⊎ (fits v.tag k x × ClosedTo v g k)

  -- an exchange of an empty key word for k
  pub record KeyTried (g i k n : ℕ) (v w : View) : Type 0 where
    pub looks : Looks v w
    pub facts : PassFacts fits w
    pub uncounted : w.uncounted ≡ v.uncounted
    pub counted : w.counted ≡ v.counted
    pub same_count : w.count_seen ≡ v.count_seen
    pub unsealed : g ≡ v.layout.last → n < greatest
    pub won : n ≡ 0 → (w.claim ≡ Some (cell g i)) × (look w.known (key_place v.layout g i) ≡ k)
    pub lost : n ≢ 0 → (w.claim ≡ v.claim) × (look w.known (key_place v.layout g i) ≡ n)
    pub event : n ≡ 0 → MakesStep fits (claims g i k) v w

  -- the entry is the last of the front, and its key was not there before
  pub record IsNewest (e : Entry) (v w : View) : Type 0 where
    pub before : List Entry
    pub front : before ++ e ∷ [] ≡ w.front
    pub old : StartsWith v.front before
    pub lacks : value_in before e.key ≡ None

  -- an exchange of an unset value word for x that was made: the entry is new
  pub record IsPlaced (k x : ℕ) (v w : View) : Type 0 where
    pub newest : IsNewest (entry v.number k x) v w
    pub own : own w ≡ own v ++ entry v.number k x ∷ []
    pub uncounted : w.uncounted ≡ v.uncounted ++ entry v.number k x ∷ []

  -- or the history had the pair, and is as it was
  pub record IsKept (v w : View) : Type 0 where
    pub looks : Looks v w
    pub uncounted : w.uncounted ≡ v.uncounted

  -- and one that was lost
  pub record IsLost (g i n : ℕ) (v w : View) : Type 0 where
    pub looks : Looks v w
    pub uncounted : w.uncounted ≡ v.uncounted
    pub word : look w.known (value_place v.layout g i) ≡ n

  pub record ValueTried (g i k x n : ℕ) (v w : View) : Type 0 where
    pub steps : StepFrame v w
    pub facts : PassFacts fits w
    pub counted : w.counted ≡ v.counted
    pub same_count : w.count_seen ≡ v.count_seen
    pub claim : w.claim ≡ drop_claim v.claim g i
    pub unclosed : g ≡ v.layout.last → n < greatest
    -- the exchange was made: of a pair that fits and whose key is closed below g, or of one seen published
    pub won : n ≡ 0 → fits v.tag k x → ClosedTo v g k → IsPlaced k x v w
    pub kept : n ≡ 0 → (h : ℕ) → IsPublished v.layout (look v.known) h k x → IsKept v w
    pub set : n ≡ 0 → look w.known (value_place v.layout g i) ≡ x
    pub event : n ≡ 0 → MakesStep fits (publishes v.number g i k x) v w
    pub lost : n ≢ 0 → IsLost g i n v w
    pub present : IsWord n → value_in w.front k ≡ Some n
    -- where both hold of the pair, its value word is found set
    pub both : (h : ℕ) → IsPublished v.layout (look v.known) h k x
        → fits v.tag k x → ClosedTo v g k → n ≢ 0

  -- an exchange of an empty key word for the greatest number
  pub record KeySealed (g i n : ℕ) (v w : View) : Type 0 where
    pub leaves : LeavesClaim v w
    pub won : n ≡ 0 → look w.known (key_place v.layout g i) ≡ greatest
    pub event : n ≡ 0 → MakesStep fits (seals_key g i) v w
    pub lost : n ≢ 0 → look w.known (key_place v.layout g i) ≡ n

  -- an exchange of an unset value word for the greatest number. An open claim of the cell ends
  pub record ValueSealed (g i n : ℕ) (v w : View) : Type 0 where
    pub looks : Looks v w
    pub facts : PassFacts fits w
    pub claim : w.claim ≡ drop_claim v.claim g i
    pub uncounted : w.uncounted ≡ v.uncounted
    pub counted : w.counted ≡ v.counted
    pub same_count : w.count_seen ≡ v.count_seen
    pub won : n ≡ 0 → look w.known (value_place v.layout g i) ≡ greatest
    pub event : n ≡ 0 → MakesStep fits (seals_value g i) v w
    pub lost : n ≢ 0 → look w.known (value_place v.layout g i) ≡ n

  -- an addition of 1 to a generation's take word
  pub record BlockTaken (g : ℕ) (v w : View) : Type 0 where
    pub leaves : LeavesClaim v w
    pub event : MakesStep fits (takes g) v w

  -- an exchange of a finish word from 0 to 1, which is 1 afterwards. One that was lost is a load
  pub record BlockFinished (g b : ℕ) (v w : View) : Type 0 where
    pub leaves : LeavesClaim v w
    pub word : look w.known (finish_place v.layout g b) ≡ 1
    pub event : MakesStep fits (finishes g b) v w ⊎ MakesLoad fits v w

  -- an exchange of word 0 from g to the next generation. The generation n is current afterwards, and g is left. One
  -- that was lost is a load
  pub record Switched (g n : ℕ) (v w : View) : Type 0 where
    pub seen : CurrentSeen n v w
    pub left : n ≢ g
    pub event : MakesStep fits switches v w ⊎ MakesLoad fits v w

  -- an addition of 1 to the count, which is n afterwards
  pub record CountRaised (n : ℕ) (v w : View) : Type 0 where
    pub looks : Looks v w
    pub facts : PassFacts fits w
    pub claim : w.claim ≡ v.claim
    pub uncounted : w.uncounted ≡ all_but_first v.uncounted
    pub counted : w.counted ≡ v.counted + 1
    pub known : w.known ≡ v.known
    pub seen : w.count_seen ≡ n
    pub low : length (own w) ≤ n + length w.uncounted
    pub high : n ≤ length w.front
    pub event : MakesStep fits counts v w
