-- What contracts see of a declaration.
use Rattle.std.specs.Prelude.{ℕ, Bool, List}
use Rattle.abbrev_decl.specs.declared.pairs.AttrSpec.{AttrSpec}

-- An abbreviation declaration: its code, the tag and children of entries that use it, where it
-- begins in `.debug_abbrev`, and its pairs in their order.
pub record DeclView : Type 0 where
  pub code : ℕ
  pub tag : ℕ
  pub children : Bool
  pub place : ℕ
  pub pairs : List AttrSpec
