-- The front of a line program's header, up to the lengths of the standard opcodes: of version 5 (DWARF
-- 5, section 6.2.4) and of version 4 (DWARF 4, section 6.2.4).
use Rattle.std.specs.Prelude.{ℕ, Bool, not, if◌then◌else◌, ◌||◌, ◌+◌, ◌==◌, nat_lt, nat_le, List, length, Result, Ok}
use Rattle.std.specs.Int.{cast_signed, w8}
use Rattle.dw_fields.specs.declared.byte_order.Order.{Order}
use Rattle.dw_fields.specs.declared.fault_code.Fault.{Fault}
use Rattle.dw_fields.specs.declared.fault_code.Code.TheVariants.{Truncated, TextUnended, LineVersion, LineRange, MaxOps, LineTruncated}
use Rattle.dw_fields.specs.Codes.{fault}
use Rattle.dw_fields.specs.Span.{at}
use Rattle.dw_fields.specs.Reading.{Reader, ◌>>=◌, ◌>>◌, refuse, renamed, length_at, number_at, offset_at}
use Rattle.line_programs.specs.declared.front.Bounds.{Bounds}
use Rattle.line_programs.specs.declared.front.InstructionFields.{InstructionFields}
use Rattle.line_programs.specs.declared.front.SpecialOpcodes.{SpecialOpcodes}
use Rattle.line_programs.specs.declared.front.Start.{Start}

-- A field or a text of the header that passes the header's end.
abbrev pub in_header : {X : Type 0} → Result X Fault → Result X Fault
in_header read = renamed TextUnended LineTruncated (renamed Truncated LineTruncated read)

-- Where the program at an offset lies: behind its length, up to the end that the length gives.
unfoldable pub bounds_at : List ℕ → Order → ℕ → Result Bounds Fault
bounds_at section order offset = do
  refuse (nat_le (length section) offset) (fault LineTruncated (length section))
  size ← in_header (length_at (record {
    bytes = section;
    place = offset;
    end = length section;
    order = order;
  }))
  refuse (nat_lt (length section) (size.1 + size.0.value)) (fault LineTruncated offset)
  Ok (record { place = size.1; end = size.1 + size.0.value; wide = size.0.wide })

-- The versions whose headers are read.
abbrev pub is_line_version : ℕ → Bool
is_line_version version = version == 4 || version == 5

-- A version, and behind version 5 the sizes of addresses and segments, which aren't used.
unfoldable pub sizes_passed_at : ℕ → Reader ℕ
sizes_passed_at version s =
    if version == 4 then Ok (version, s.place)
    else (do
      address ← in_header (number_at 1 s)
      segment ← in_header (number_at 1 (at s address.1))
      Ok (version, segment.1))

-- The version, with the sizes that its header has.
unfoldable pub line_version_at : Reader ℕ
line_version_at s = do
  version ← in_header (number_at 2 s)
  refuse (not (is_line_version version.0)) (fault LineVersion s.place)
  sizes_passed_at version.0 (at s version.1)

-- What stands before the fields of the machine: the version, and how many bytes of the header are left
-- behind it.
unfoldable pub start_at : Bool → Reader Start
start_at wide s = do
  version ← line_version_at s
  size ← in_header (offset_at wide (at s version.1))
  refuse (nat_lt s.end (size.1 + size.0)) (fault LineTruncated version.1)
  Ok (record { version = version.0; size = size.0 }, size.1)

-- The size of an instruction, its greatest number of operations, and stmt at the start.
unfoldable pub instruction_fields_at : Reader InstructionFields
instruction_fields_at s = do
  least ← in_header (number_at 1 s)
  most ← in_header (number_at 1 (at s least.1))
  refuse (most.0 == 0) (fault MaxOps least.1)
  stmt ← in_header (number_at 1 (at s most.1))
  Ok (record { min_length = least.0; max_ops = most.0; default_stmt = not (stmt.0 == 0) }, stmt.1)

-- The least advance of the line, the number of such advances, and the first special opcode.
unfoldable pub special_opcodes_at : Reader SpecialOpcodes
special_opcodes_at s = do
  base ← in_header (number_at 1 s)
  range ← in_header (number_at 1 (at s base.1))
  refuse (range.0 == 0) (fault LineRange base.1)
  opcodes ← in_header (number_at 1 (at s range.1))
  refuse (opcodes.0 == 0) (fault LineRange range.1)
  Ok (
    record {
      line_base = cast_signed w8 base.0;
      line_range = range.0;
      opcode_base = opcodes.0;
    },
    opcodes.1,
  )
