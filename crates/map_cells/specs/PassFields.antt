-- What the fields of a pass say of its view.
use Rattle.std.specs.Prelude.{◌≡◌, ℕ, List, []}
use Rattle.atomic_table.specs.Table.{Me}
use Rattle.map_core.specs.declared.view.View.{View}
use Rattle.map_core.specs.Passes.{PassFacts}

pub record FieldsAgree (fits : List ℕ → ℕ → ℕ → Type 0) (me : Me (Unit {0}) View)
    (i left own most now : ℕ) : Type 0 where
  pub slots : me.1 ≡ []
  pub number : i ≡ me.0.number
  pub spare : left ≡ me.0.spare
  pub entries : own ≡ me.0.counted
  pub count_seen : most ≡ me.0.count_seen
  pub generation : now ≡ me.0.generation
  pub facts : PassFacts fits me.0
