use Rattle.std.proofs.Common.{◌+◌, ◌-◌, ◌<◌, ◌≤◌, List, ℕ, length, Result}
use Rattle.std.specs.declared.alloc.AllocError.{AllocError}
use Rattle.dw_fields.specs.declared.fault_code.Fault.{Fault}
use Rattle.unit_text.specs.Tables.{AddsTo, table_from, table_from_start}
use Rattle.unit_text.proofs.tables.push_table.Given as goal

abbrev pub invariant-declarations : goal.invariant-declarations
invariant-declarations l = record {
  most : ℕ;
  enough : length l.section < l.place + most;
  forward : l.table ≤ l.place;
  inside : l.place ≤ length l.section;
  later : (r : Result (Result ℕ Fault) AllocError) (new : List ℕ) → AddsTo r l.out.items new (table_from most l.section l.place) → AddsTo r l.fn.out.items new (table_from_start l.section l.table);
}

abbrev pub decreases-declarations : goal.decreases-declarations
decreases-declarations l = length l.section - l.place
