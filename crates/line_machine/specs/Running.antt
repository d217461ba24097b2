-- The rows of a line program: DWARF 5, section 6.2.5. Its operations are done one after another, from
-- its first byte to its end.
use Rattle.std.specs.Prelude.{◌≡◌, ◌<◌, ◌≤◌, ℕ, zero, suc, ◌-◌, List, [], ◌++◌, map, Option, Result, Ok, Err, option_to_list}
use Rattle.dw_fields.specs.declared.fault_code.Fault.{Fault}
use Rattle.dw_fields.specs.Span.{Span, at}
use Rattle.dw_fields.specs.Reading.{Reader, ◌>>=◌}
use Rattle.dw_fields.specs.Walk.{walk}
use Rattle.line_machine.specs.declared.registers.Row.{Row}
use Rattle.line_machine.specs.declared.registers.Program.{Program}
use Rattle.line_machine.specs.Machine.{fresh, line_step}
use Rattle.line_machine.specs.Operations.{operation_at}

-- The registers and the rows of a step.
abbrev pub outcome : Row × Option Row → Row × List Row
outcome made = (made.0, option_to_list made.1)

-- One operation read and done.
unfoldable pub step_at : Program → List ℕ → Row → Reader (Row × List Row)
step_at h lengths registers s = do
  operation ← operation_at h lengths s
  Ok (outcome (line_step h registers operation.0), operation.1)

-- The rows of the program from a span's place to its end, or the first refusal. An operation has at
-- least one byte.
unfoldable pub line_rows : Program → List ℕ → Span → Result (List Row) Fault
line_rows h lengths s = walk (step_at h lengths) (s.end - s.place) (fresh h) s

-- What a caller keeps of the rows.
abbrev pub kept_rows : {K : Type 0} → (Row → K) → Result (List Row) Fault → Result (List K) Fault
kept_rows kept (Ok rows) = Ok (map kept rows)
kept_rows kept (Err f) = Err f

-- The same in the words of the standard: so many operations are read and done one behind another, each
-- begun before the end, and append these rows.
abbrev pub StepsStand : Program → List ℕ → ℕ → Row → Span → List Row → Row → Span → Type 0
StepsStand h lengths zero registers s rows last rest =
    (rows ≡ []) × (last ≡ registers) × (rest ≡ s)
StepsStand h lengths (suc turns) registers s rows last rest =
    (s.place < s.end) × (after : Row) × (next : ℕ) × (made : List Row) × (others : List Row)
    × (step_at h lengths registers s ≡ Ok ((after, made), next)) × (rows ≡ made ++ others)
    × StepsStand h lengths turns after (at s next) others last rest

-- What ends them: the program's end, or an operation that is refused.
abbrev pub RunEnds : Program → List ℕ → Row → Span → List Row → Result (List Row) Fault
    → Type 0
RunEnds h lengths last rest rows (Ok all) = (rest.end ≤ rest.place) × (all ≡ rows)
RunEnds h lengths last rest rows (Err f) =
    (rest.place < rest.end) × (step_at h lengths last rest ≡ Err f)

pub record IsRun (h : Program) (lengths : List ℕ) (registers : Row) (s : Span)
    (answer : Result (List Row) Fault) : Type 0 where
  pub turns : ℕ
  pub rows : List Row
  pub last : Row
  pub rest : Span
  pub stand : StepsStand h lengths turns registers s rows last rest
  pub ends : RunEnds h lengths last rest rows answer
