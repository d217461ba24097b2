-- The line machine, one step by cases of the operation: DWARF 5, sections 6.2.2 and 6.2.5.
use Rattle.std.specs.Prelude.{ℕ, true, false, not, ◌+◌, ◌-◌, ◌*◌, ◌/◌, ◌%◌, ◌^◌, ◌<◌, Option, Some, None}
use Rattle.std.specs.Int.{cast_unsigned, w64}
use Rattle.dw_fields.specs.Reading.{IsAddressSize, wrapped_address}
use Rattle.line_machine.specs.declared.registers.Row.{Row}
use Rattle.line_machine.specs.declared.registers.Program.{Program}
use Rattle.line_machine.specs.declared.operations.Operation.{Operation}
use Rattle.line_machine.specs.declared.operations.Operation.TheVariants as ops

-- A program that the machine can run: it divides by the greatest number of operations and by the
-- range of lines.
pub record IsRunnable (h : Program) : Type 0 where
  pub size : IsAddressSize h.address_size
  pub ops : 0 < h.max_ops
  pub range : 0 < h.line_range

-- The registers at the start of a sequence.
unfoldable pub fresh : Program → Row
fresh h = record {
  address = 0;
  op_index = 0;
  file = 1;
  line = 1;
  column = 0;
  isa = 0;
  discriminator = 0;
  stmt = h.default_stmt;
  block = false;
  prologue_end = false;
  epilogue_begin = false;
  end = false;
}

-- The registers behind a row that copy or a special opcode appended.
unfoldable pub cleared : Row → Row
cleared r = record r {
  discriminator = 0;
  block = false;
  prologue_end = false;
  epilogue_begin = false;
}

-- The operation advance. Its sums are unbounded.
unfoldable pub advanced : Program → Row → ℕ → Row
advanced h r n = record r {
  address = wrapped_address h.address_size (r.address + h.min_length * ((r.op_index + n) / h.max_ops));
  op_index = (r.op_index + n) % h.max_ops;
}

-- An advance of the address alone, in bytes.
unfoldable pub moved : Program → Row → ℕ → Row
moved h r n = record r { address = wrapped_address h.address_size (r.address + n); op_index = 0 }

-- The row of the special opcode that is `a` above the first.
unfoldable pub special : Program → Row → ℕ → Row
special h r a =
    let line = ((r.line + cast_unsigned w64 h.line_base) % 2 ^ 64 + a % h.line_range) % 2 ^ 64 in
    advanced h (record r { line = line }) (a / h.line_range)

-- No row is appended, or one is.
abbrev pub quiet : Row → Row × Option Row
quiet r = (r, None)

abbrev pub appended : Row → Row → Row × Option Row
appended r row = (r, Some row)

-- A step of the machine: the registers behind it, and the row that it appends.
unfoldable pub line_step : Program → Row → Operation → Row × Option Row
line_step h r ops.Copy = appended (cleared r) r
line_step h r (ops.AdvancePc n) = quiet (advanced h r n)
line_step h r (ops.AdvanceLine n) =
    quiet (record r { line = (r.line + cast_unsigned w64 n) % 2 ^ 64 })
line_step h r (ops.SetFile n) = quiet (record r { file = n })
line_step h r (ops.SetColumn n) = quiet (record r { column = n })
line_step h r ops.NegateStmt = quiet (record r { stmt = not r.stmt })
line_step h r ops.SetBasicBlock = quiet (record r { block = true })
line_step h r ops.ConstAddPc = quiet (advanced h r ((255 - h.opcode_base) / h.line_range))
line_step h r (ops.FixedAdvancePc n) = quiet (moved h r n)
line_step h r ops.SetPrologueEnd = quiet (record r { prologue_end = true })
line_step h r ops.SetEpilogueBegin = quiet (record r { epilogue_begin = true })
line_step h r (ops.SetIsa n) = quiet (record r { isa = n })
line_step h r ops.EndSequence = appended (fresh h) (record r { end = true })
line_step h r (ops.SetAddress n) =
    quiet (record r { address = wrapped_address h.address_size n; op_index = 0 })
line_step h r (ops.SetDiscriminator n) = quiet (record r { discriminator = n })
line_step h r (ops.Special a) = appended (cleared (special h r a)) (special h r a)
line_step h r ops.DefineFile = quiet r
line_step h r ops.Nothing = quiet r
