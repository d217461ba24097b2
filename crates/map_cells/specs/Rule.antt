-- The rule of a table's words, and what each atomic step tells of it.
use Rattle.std.specs.Prelude.{◌≡◌, ℕ, ◌+◌, List, ◌==◌}
use prog.Atomic.{either}
use Rattle.atomic_table.specs.Table.{State, Me, Step}
use Rattle.map_core.specs.declared.view.View.{View}
use Rattle.map_core.specs.Places.{offset, take_word, key_place, value_place, finish_place, Within, IsCell, IsBlock}
use Rattle.map_core.specs.Machine.{IsWord}
use Rattle.map_core.specs.Passes.{look}
use Rattle.map_core.specs.Knowing.{first_view}
use Rattle.map_cells.specs.declared.about.About.{About}
use Rattle.map_cells.specs.Steps.{CurrentSeen, BlockSeen, KeySeen, ValueSeen, CountSeen, KeyTried, ValueTried, KeySealed, ValueSealed, BlockTaken, BlockFinished, Switched, CountRaised}
use Rattle.map_cells.specs.Passing.{Settles}
use Rattle.map_cells.specs.Whole.{WholeTable}

abbrev pub first_of : About → View
first_of a = first_view a.layout a.tag.numbers

abbrev pub TableHolds : (List ℕ → ℕ → ℕ → Type 0) → About → State (Unit {0}) View → Type 0
TableHolds fits a s = WholeTable fits a.layout a.tag.numbers s.words s.views

module _ (fits : List ℕ → ℕ → ℕ → Type 0) (st : Step (Unit {0})) (m : Me (Unit {0}) View) (n : ℕ) (m' : Me (Unit {0}) View) where
  pub record CurrentLooked : Type 0 where
    pub slots : m'.1 ≡ m.1
    pub seen : CurrentSeen fits n m.0 m'.0

  pub record BlockLooked : Type 0 where
    pub slots : m'.1 ≡ m.1
    pub seen : (g b : ℕ) → IsBlock m.0.layout g b → st.word ≡ finish_place m.0.layout g b + offset m.0.layout → BlockSeen fits g b n m.0 m'.0

  pub record KeyLooked : Type 0 where
    pub slots : m'.1 ≡ m.1
    pub seen : (g i : ℕ) → IsCell m.0.layout g i → st.word ≡ key_place m.0.layout g i + offset m.0.layout → KeySeen fits g i n m.0 m'.0

  pub record ValueLooked : Type 0 where
    pub slots : m'.1 ≡ m.1
    pub seen : (g i : ℕ) → IsCell m.0.layout g i → st.word ≡ value_place m.0.layout g i + offset m.0.layout → ValueSeen fits g i n m.0 m'.0

  pub record CountLooked : Type 0 where
    pub slots : m'.1 ≡ m.1
    pub seen : CountSeen fits n m.0 m'.0

  pub record Claimed : Type 0 where
    pub slots : m'.1 ≡ m.1
    pub tried : (g i : ℕ) → IsCell m.0.layout g i → st.word ≡ key_place m.0.layout g i + offset m.0.layout → KeyTried fits g i st.second n m.0 m'.0

  pub record Published : Type 0 where
    pub slots : m'.1 ≡ m.1
    pub tried : (g i k : ℕ) → IsCell m.0.layout g i → st.word ≡ value_place m.0.layout g i + offset m.0.layout → IsWord k → look m.0.known (key_place m.0.layout g i) ≡ k
        → ValueTried fits g i k st.second n m.0 m'.0

  pub record KeyShut : Type 0 where
    pub slots : m'.1 ≡ m.1
    pub sealed : (g i : ℕ) → IsCell m.0.layout g i → st.word ≡ key_place m.0.layout g i + offset m.0.layout → KeySealed fits g i n m.0 m'.0

  pub record ValueShut : Type 0 where
    pub slots : m'.1 ≡ m.1
    pub sealed : (g i : ℕ) → IsCell m.0.layout g i → st.word ≡ value_place m.0.layout g i + offset m.0.layout → ValueSealed fits g i n m.0 m'.0

  pub record Took : Type 0 where
    pub slots : m'.1 ≡ m.1
    pub taken : (g : ℕ) → Within m.0.layout g → st.word ≡ take_word g → BlockTaken fits g m.0 m'.0

  pub record Ended : Type 0 where
    pub slots : m'.1 ≡ m.1
    pub finished : (g b : ℕ) → IsBlock m.0.layout g b → st.word ≡ finish_place m.0.layout g b + offset m.0.layout → BlockFinished fits g b m.0 m'.0

  pub record Left : Type 0 where
    pub slots : m'.1 ≡ m.1
    pub switched : Switched fits st.first (either (n == st.first) st.second n) m.0 m'.0

  pub record Counted : Type 0 where
    pub slots : m'.1 ≡ m.1
    pub raised : CountRaised fits (n + 1) m.0 m'.0

  pub record Settled : Type 0 where
    pub slots : m'.1 ≡ m.1
    pub settles : Settles fits m.0 m'.0
