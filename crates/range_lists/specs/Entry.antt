-- What an entry of a list says, by the unit's version.
use Rattle.std.specs.Prelude.{ℕ, Option, if◌then◌else◌}
use Rattle.dw_fields.specs.Span.{at}
use Rattle.dw_fields.specs.Reading.{Reader, ◌>>=◌}
use Rattle.range_lists.specs.declared.kinds.Kind.{Kind}
use Rattle.range_lists.specs.declared.operands.Operands.{Operands}
use Rattle.range_lists.specs.Context.{Context, has_pairs}
use Rattle.range_lists.specs.Kinds.{list_kind_at}
use Rattle.range_lists.specs.Operands.{operands_at}
use Rattle.range_lists.specs.Pairs.{pair_at}

-- a kind, by the numbers of its section, and its operands
unfoldable pub kind_and_operands_at : (ℕ → Option Kind) → Context → ℕ → Reader Operands
kind_and_operands_at kinds c base s = do
  kind ← list_kind_at kinds s
  operands_at c base kind.0 s.place (at s kind.1)

-- a pair in version 4, else a kind and its operands
unfoldable pub entry_operands_at : (ℕ → Option Kind) → Context → ℕ → Reader Operands
entry_operands_at kinds c base s =
    if has_pairs c.version then pair_at c base s else kind_and_operands_at kinds c base s
