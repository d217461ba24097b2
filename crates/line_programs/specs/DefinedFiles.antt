-- The files that a program of version 4 defines: DWARF 4, section 6.2.5.3.
use Rattle.std.specs.Prelude.{◌≡◌, ◌⊎◌, ◌<◌, ◌≤◌, ℕ, zero, suc, ◌-◌, nat_le, IsErr, if◌then◌else◌, List, [], ◌∷◌, ◌++◌, Result, Ok, Err}
use Rattle.dw_fields.specs.declared.fault_code.Fault.{Fault}
use Rattle.dw_fields.specs.Span.{Span, at}
use Rattle.dw_fields.specs.Reading.{Reader, ◌>>=◌, number_at, text_at, uleb_at}
use Rattle.line_machine.specs.declared.operations.Operation.{Operation}
use Rattle.line_machine.specs.declared.operations.Operation.TheVariants as ops
use Rattle.line_machine.specs.declared.registers.Program.{Program}
use Rattle.line_machine.specs.Operations.{file_numbers_at, operation_at}
use Rattle.line_programs.specs.Shapes.{NameView}

-- The opcode, the length and the number of an extended operation; the last is the answer.
unfoldable pub extended_number_at : Reader ℕ
extended_number_at s = do
  opcode ← number_at 1 s
  size ← uleb_at (at s opcode.1)
  number_at 1 (at s size.1)

-- The file of an operation that defines one: a path, and the numbers behind it.
unfoldable pub defined_file_at : Reader NameView
defined_file_at s = do
  kind ← extended_number_at s
  path ← text_at (at s kind.1)
  directory ← file_numbers_at (at s path.1)
  Ok (record { path = path.0; directory = directory.0 }, directory.1)

abbrev pub file_list : Result (NameView × ℕ) Fault → List NameView
file_list (Ok read) = read.0 ∷ []
file_list (Err f) = []

-- What the operation that was read at a place defines.
abbrev pub defined_by : Operation → Span → List NameView
defined_by ops.DefineFile s = file_list (defined_file_at s)
defined_by _ s = []

-- What an operation defines, and what those behind it do; one that is refused ends them.
abbrev pub defined_then : Result (Operation × ℕ) Fault → Span → (ℕ → List NameView) → List NameView
defined_then (Ok read) s rest = defined_by read.0 s ++ rest read.1
defined_then (Err f) s rest = []

-- The files of so many operations at most.
unfoldable pub defined_from : ℕ → Program → List ℕ → Span → List NameView
defined_from zero h lengths s = []
defined_from (suc most) h lengths s =
    if nat_le s.end s.place then []
    else defined_then (operation_at h lengths s) s
    (λ place. defined_from most h lengths (at s place))

-- The files that the operations of a program define, up to its end or to the first that is refused. An
-- operation has at least one byte.
unfoldable pub defined_files : Program → List ℕ → Span → List NameView
defined_files h lengths s = defined_from (s.end - s.place) h lengths s

-- The same in the standard's words: these operations stand one behind another, each with the place behind
-- it, up to the program's end or to one that is refused, and the files are those that they define.
abbrev pub IsDefinedBy : Program → List ℕ → List (Operation × ℕ) → Span → List NameView → Type 0
IsDefinedBy h lengths [] s files =
    ((s.end ≤ s.place) ⊎ IsErr (operation_at h lengths s)) × (files ≡ [])
IsDefinedBy h lengths (operation ∷ operations) s files =
    (s.place < s.end) × (operation_at h lengths s ≡ Ok (operation.0, operation.1))
    × (rest : List NameView) × (files ≡ defined_by operation.0 s ++ rest)
    × IsDefinedBy h lengths operations (at s operation.1) rest

abbrev pub IsDefined : Program → List ℕ → Span → List NameView → Type 0
IsDefined h lengths s files =
    (operations : List (Operation × ℕ)) × IsDefinedBy h lengths operations s files
