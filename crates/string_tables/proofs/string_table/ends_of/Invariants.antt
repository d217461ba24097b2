use Rattle.std.proofs.Common.{◌≡◌, ◌-◌, ◌*◌, map}
use Rattle.std.specs.List.{range_with_len}
use Rattle.string_tables.specs.StringTables.{end_from}
use Rattle.string_tables.proofs.string_table.ends_of.Given as goal

abbrev pub invariant-loop-block : goal.invariant-loop-block
invariant-loop-block l = record {
  before : l.end ≡ end_from l.bytes ((l.block - 1) * 128);
  ends : l.ends.items ≡ map (λ block. end_from l.bytes (block * 128)) (range_with_len 1 (l.block - 1));
}
