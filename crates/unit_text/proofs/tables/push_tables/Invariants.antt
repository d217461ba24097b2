use Rattle.std.proofs.Common.{◌+◌, ◌-◌, ◌<◌, ◌≤◌, List, ℕ, length, Option, Result}
use Rattle.std.specs.declared.alloc.AllocError.{AllocError}
use Rattle.dw_fields.specs.declared.fault_code.Fault.{Fault}
use Rattle.unit_text.specs.Tables.{AddsTo, tables_from, tables_text}
use Rattle.unit_text.proofs.tables.push_tables.Given as goal

abbrev pub invariant-loop-table : goal.invariant-loop-table
invariant-loop-table l = record {
  most : ℕ;
  enough : length l.section < l.table + most;
  inside : l.table ≤ length l.section;
  later : (r : Result (Option Fault) AllocError) (new : List ℕ) → AddsTo r l.out.items new (tables_from most l.section l.table) → AddsTo r l.fn.out.items new (tables_text l.section);
}

abbrev pub decreases-loop-table : goal.decreases-loop-table
decreases-loop-table l = length l.section - l.table
