-- What a whole dump tells, in numbers.
use Rattle.std.specs.Prelude.{ℕ, List, codes}
use Rattle.dump_workers.specs.declared.ends.DumpFault.{DumpFault}
use Rattle.dump_workers.specs.declared.ends.DumpFault.TheVariants as dump_faults

-- the units and entries of the file, and the workers that read them
pub record WholeView : Type 0 where
  pub units : ℕ
  pub entries : ℕ
  pub workers : ℕ

-- the same, and how many of the file's keys the table has
pub record PublishedView : Type 0 where
  pub number : ℕ
  pub units : ℕ
  pub entries : ℕ
  pub workers : ℕ

-- the words of a fault that ends a dump
abbrev pub dump_fault_message : DumpFault → List ℕ
dump_fault_message dump_faults.WriteFault = codes "the text could not be written"
dump_fault_message dump_faults.OutOfMemory = codes "out of memory"
