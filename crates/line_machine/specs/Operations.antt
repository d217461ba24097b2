-- The operations of a line program as they stand in its bytes: DWARF 5, sections 6.2.5.1 to 6.2.5.3,
-- and for define_file, which version 4 alone has, DWARF 4, section 6.2.5.3.
use Rattle.std.specs.Prelude.{ℕ, zero, suc, ◌+◌, ◌-◌, ◌==◌, ◌||◌, nat_lt, nat_le, List, Result, Ok, Err, if◌then◌else◌, slice_index}
use Rattle.dw_fields.specs.declared.fault_code.Fault.{Fault}
use Rattle.dw_fields.specs.declared.fault_code.Code.TheVariants.{Truncated, TextUnended, LineTruncated, ExtendedLength}
use Rattle.dw_fields.specs.Codes.{fault, is_same_code}
use Rattle.dw_fields.specs.Span.{at, until}
use Rattle.dw_fields.specs.Reading.{Reader, ◌>>=◌, renamed, number_at, uleb_at, sleb_at, text_at}
use Rattle.line_machine.specs.declared.registers.Program.{Program}
use Rattle.line_machine.specs.declared.operations.Operation.{Operation}
use Rattle.line_machine.specs.declared.operations.Operation.TheVariants as ops

-- A field that passes the program's end.
abbrev pub in_program : {X : Type 0} → Result X Fault → Result X Fault
in_program read = renamed Truncated LineTruncated read

-- An operand that passes the length of its extended operation is refused at that length; a LEB128
-- that is too large stays refused where it stands.
abbrev pub overlong : ℕ → Fault → Fault
overlong place f = if is_same_code f.code Truncated then fault ExtendedLength place else f

abbrev pub in_operation : {X : Type 0} → ℕ → Result X Fault → Result X Fault
in_operation place (Ok x) = Ok x
in_operation place (Err f) = Err (overlong place f)

-- An operation by its operand.
abbrev pub with : {X : Type 0} → (X → Operation) → Result (X × ℕ) Fault → Result (Operation × ℕ) Fault
with operation (Ok read) = Ok (operation read.0, read.1)
with operation (Err f) = Err f

-- So many unsigned LEB128 that an unknown standard opcode has: they are passed over.
unfoldable pub passed_over : ℕ → Reader Operation
passed_over zero s = Ok (ops.Nothing, s.place)
passed_over (suc n) s = do
  operand ← uleb_at s
  passed_over n (at s operand.1)

-- A standard opcode with its operands. The table counts for the opcodes 1 to 12, and the header's
-- lengths for those above.
unfoldable pub standard_at : List ℕ → ℕ → Reader Operation
standard_at lengths opcode s =
    if opcode == 1 then Ok (ops.Copy, s.place)
    else (if opcode == 2 then with ops.AdvancePc (uleb_at s)
    else (if opcode == 3 then with ops.AdvanceLine (sleb_at s)
    else (if opcode == 4 then with ops.SetFile (uleb_at s)
    else (if opcode == 5 then with ops.SetColumn (uleb_at s)
    else (if opcode == 6 then Ok (ops.NegateStmt, s.place)
    else (if opcode == 7 then Ok (ops.SetBasicBlock, s.place)
    else (if opcode == 8 then Ok (ops.ConstAddPc, s.place)
    else (if opcode == 9 then with ops.FixedAdvancePc (number_at 2 s)
    else (if opcode == 10 then Ok (ops.SetPrologueEnd, s.place)
    else (if opcode == 11 then Ok (ops.SetEpilogueBegin, s.place)
    else (if opcode == 12 then with ops.SetIsa (uleb_at s)
    else passed_over (slice_index lengths (opcode - 1)) s)))))))))))

-- An address takes all that is left of its operation, whose length stands at `place`.
unfoldable pub set_address_at : ℕ → Reader Operation
set_address_at place s =
    if (s.end - s.place == 2) || (s.end - s.place == 4) || (s.end - s.place == 8)
    then with ops.SetAddress (number_at (s.end - s.place) s)
    else Err (fault ExtendedLength place)

-- The numbers of a file behind its path: of its directory, of its time and of its size. The first is
-- kept.
unfoldable pub file_numbers_at : Reader ℕ
file_numbers_at s = do
  directory ← uleb_at s
  time ← uleb_at (at s directory.1)
  size ← uleb_at (at s time.1)
  Ok (directory.0, size.1)

-- A path and the numbers behind it, which are passed over.
unfoldable pub file_passed_at : Reader ℕ
file_passed_at s = do
  path ← renamed TextUnended Truncated (text_at s)
  file_numbers_at (at s path.1)

-- In a header of version 4 the operation 3 defines a file; in others it isn't known.
unfoldable pub define_file_at : ℕ → ℕ → Reader Operation
define_file_at version place s =
    if version == 4 then in_operation place (with (λ _. ops.DefineFile) (file_passed_at s))
    else Ok (ops.Nothing, s.place)

-- What stands inside an extended operation, whose length stands at `place`.
unfoldable pub within_at : ℕ → ℕ → Reader Operation
within_at version place s = do
  kind ← in_operation place (number_at 1 s)
  (if kind.0 == 1 then Ok (ops.EndSequence, kind.1)
      else (if kind.0 == 2 then set_address_at place (at s kind.1)
      else (if kind.0 == 3 then define_file_at version place (at s kind.1)
      else (if kind.0 == 4 then in_operation place (with ops.SetDiscriminator (uleb_at (at s kind.1)))
      else Ok (ops.Nothing, kind.1)))))

-- An extended operation: its length, then so many bytes. What its operands leave over is passed over.
unfoldable pub extended_at : ℕ → Reader Operation
extended_at version s = do
  count ← in_program (uleb_at s)
  (if count.0 == 0 then Err (fault ExtendedLength s.place)
      else (if nat_lt s.end (count.1 + count.0) then Err (fault LineTruncated count.1)
      else (do
        operation ← within_at version s.place (until (at s count.1) (count.1 + count.0))
        Ok (operation.0, count.1 + count.0))))

-- An operation. A number at or above the opcode base is always special.
unfoldable pub operation_at : Program → List ℕ → Reader Operation
operation_at h lengths s = do
  opcode ← in_program (number_at 1 s)
  (if nat_le h.opcode_base opcode.0 then Ok (ops.Special (opcode.0 - h.opcode_base), opcode.1)
      else (if opcode.0 == 0 then extended_at h.version (at s opcode.1)
      else in_program (standard_at lengths opcode.0 (at s opcode.1))))
