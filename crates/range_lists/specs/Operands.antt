-- The operands of each kind of entry (DWARF 5, sections 2.6.2 and 2.17.3).
use Rattle.std.specs.Prelude.{ℕ, ◌+◌, Some, None, Result, Ok, Err}
use Rattle.dw_fields.specs.declared.fault_code.Fault.{Fault}
use Rattle.dw_fields.specs.declared.fault_code.Code.TheVariants.{Truncated, ListTruncated}
use Rattle.dw_fields.specs.Span.{at}
use Rattle.dw_fields.specs.Reading.{Reader, ◌>>=◌, number_at, uleb_at, renamed, wrapped_address}
use Rattle.form_values.specs.View.{AddressIndex}
use Rattle.form_values.specs.Resolved.{address_of, refused_at}
use Rattle.range_lists.specs.declared.kinds.Kind.{Kind}
use Rattle.range_lists.specs.declared.kinds.Kind.TheVariants as kinds
use Rattle.range_lists.specs.declared.operands.Operands.{Operands}
use Rattle.range_lists.specs.declared.operands.Operands.TheVariants.{End, Base, Bounds}
use Rattle.range_lists.specs.Context.{Context}

-- An operand that passes the section's end is refused as ListTruncated.
abbrev pub in_list : {X : Type 0} → Result X Fault → Result X Fault
in_list read = renamed Truncated ListTruncated read

-- a number
unfoldable pub number_operand_at : Reader ℕ
number_operand_at s = in_list (uleb_at s)

-- an address
unfoldable pub address_operand_at : Context → Reader ℕ
address_operand_at c s = in_list (number_at c.size s)

-- the address of an index in .debug_addr
unfoldable pub index_at : Context → ℕ → Reader ℕ
index_at c place s = do
  index ← number_operand_at s
  address ← refused_at place (address_of (AddressIndex index.0) c.size c.sections c.bases)
  Ok (address, index.1)

abbrev pub between : ℕ → ℕ → Operands
between low high = Bounds (Some (record { low = low; high = high }))

unfoldable pub startx_endx_at : Context → ℕ → Reader Operands
startx_endx_at c place s = do
  low ← index_at c place s
  high ← index_at c place (at s low.1)
  Ok (between low.0 high.0, high.1)

unfoldable pub startx_length_at : Context → ℕ → Reader Operands
startx_length_at c place s = do
  low ← index_at c place s
  size ← number_operand_at (at s low.1)
  Ok (between low.0 (wrapped_address c.size (low.0 + size.0)), size.1)

unfoldable pub offset_pair_at : Context → ℕ → Reader Operands
offset_pair_at c base s = do
  first ← number_operand_at s
  second ← number_operand_at (at s first.1)
  Ok (
    between (wrapped_address c.size (base + first.0))
        (wrapped_address c.size (base + second.0)),
    second.1,
  )

unfoldable pub start_end_at : Context → Reader Operands
start_end_at c s = do
  low ← address_operand_at c s
  high ← address_operand_at c (at s low.1)
  Ok (between low.0 high.0, high.1)

unfoldable pub start_length_at : Context → Reader Operands
start_length_at c s = do
  low ← address_operand_at c s
  size ← number_operand_at (at s low.1)
  Ok (between low.0 (wrapped_address c.size (low.0 + size.0)), size.1)

-- a base that was read
abbrev pub based : Result (ℕ × ℕ) Fault → Result (Operands × ℕ) Fault
based (Ok r) = Ok (Base r.0, r.1)
based (Err f) = Err f

-- what the operands of an entry say, whose kind stands at `place` and whose offsets count from `base`
unfoldable pub operands_at : Context → ℕ → Kind → ℕ → Reader Operands
operands_at c base kinds.EndOfList place s = Ok (End, s.place)
operands_at c base kinds.BaseAddressx place s = based (index_at c place s)
operands_at c base kinds.StartxEndx place s = startx_endx_at c place s
operands_at c base kinds.StartxLength place s = startx_length_at c place s
operands_at c base kinds.OffsetPair place s = offset_pair_at c base s
operands_at c base kinds.DefaultLocation place s = Ok (Bounds None, s.place)
operands_at c base kinds.BaseAddress place s = based (address_operand_at c s)
operands_at c base kinds.StartEnd place s = start_end_at c s
operands_at c base kinds.StartLength place s = start_length_at c s
