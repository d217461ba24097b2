-- What steps one after another leave of a pass, where they add no entry.
use Rattle.std.specs.Prelude.{◌≡◌, ◌⊎◌, ℕ, List, Some, None}
use Rattle.map_core.specs.declared.view.View.{View}
use Rattle.map_core.specs.Passes.{cell, PassFacts}
use Rattle.map_cells.specs.Steps.{Looks}

-- no cell but this one is the pass's open claim
abbrev pub ClaimsAtMost : ℕ → ℕ → View → Type 0
ClaimsAtMost g i v = (v.claim ≡ None) ⊎ (v.claim ≡ Some (cell g i))

module _ (fits : List ℕ → ℕ → ℕ → Type 0) where
  -- a pass without an open claim has none afterwards
  pub record Walks (v w : View) : Type 0 where
    pub looks : Looks v w
    pub facts : PassFacts fits w
    pub claim : v.claim ≡ None → w.claim ≡ None
    pub uncounted : w.uncounted ≡ v.uncounted
    pub counted : w.counted ≡ v.counted

  -- the same, but the cell may have become the pass's open claim
  pub record WalksToClaim (g i : ℕ) (v w : View) : Type 0 where
    pub looks : Looks v w
    pub facts : PassFacts fits w
    pub claim : ClaimsAtMost g i w
    pub uncounted : w.uncounted ≡ v.uncounted
    pub counted : w.counted ≡ v.counted
