-- The tables of directories and files in a header of version 4: DWARF 4, section 6.2.4, items 11 and
-- 12. Each is a list of texts, ended by an empty one, whose numbers begin at 1.
use Rattle.std.specs.Prelude.{◌≡◌, ℕ, zero, suc, ◌-◌, ◌==◌, if◌then◌else◌, List, [], ◌∷◌, length, Option, Some, None, Result, Ok, Err}
use Rattle.dw_fields.specs.declared.fault_code.Fault.{Fault}
use Rattle.dw_fields.specs.declared.fault_code.Code.TheVariants.{LineTruncated}
use Rattle.dw_fields.specs.Codes.{fault}
use Rattle.dw_fields.specs.Span.{Span, at}
use Rattle.dw_fields.specs.Reading.{Reader, ◌>>=◌, text_at}
use Rattle.dw_fields.specs.Times.{consed, with_front}
use Rattle.line_machine.specs.Operations.{file_numbers_at}
use Rattle.line_programs.specs.declared.text_tables.TextTable.{TextTable}
use Rattle.line_programs.specs.declared.text_tables.TextTable.TheVariants.{Directories, Files}
use Rattle.line_programs.specs.Front.{in_header}
use Rattle.line_programs.specs.Shapes.{NameView}
use Rattle.line_programs.specs.Names.{nameless}

-- A directory is its path; none is the empty text that ends the table.
unfoldable pub directory_entry_at : Reader (Option NameView)
directory_entry_at s = do
  path ← in_header (text_at s)
  (if length path.0 == 0 then Ok (None, path.1)
      else Ok (Some (record { path = path.0; directory = 0 }), path.1))

-- A file has the number of its directory behind its path, and two numbers that are dropped.
unfoldable pub file_entry_at : Reader (Option NameView)
file_entry_at s = do
  path ← in_header (text_at s)
  (if length path.0 == 0 then Ok (None, path.1)
      else (do
        directory ← in_header (file_numbers_at (at s path.1))
        Ok (Some (record { path = path.0; directory = directory.0 }), directory.1)))

unfoldable pub text_entry_at : TextTable → Reader (Option NameView)
text_entry_at Directories s = directory_entry_at s
text_entry_at Files s = file_entry_at s

-- Behind an entry: the end of the table, or the entry in front of the rest.
abbrev pub tabled : {X : Type 0} → Option X × ℕ → (ℕ → Result (List X × ℕ) Fault)
    → Result (List X × ℕ) Fault
tabled (None, place) rest = Ok ([], place)
tabled (Some x, place) rest = consed x (rest place)

-- The entries of a table in so many at most. Each has a byte at least, so that a table that takes more
-- entries than there are bytes passes the header's end.
unfoldable pub entries_from : {X : Type 0} → Reader (Option X) → ℕ → Reader (List X)
entries_from entry zero s = Err (fault LineTruncated s.end)
entries_from entry (suc most) s = do
  found ← entry s
  tabled found (λ place. entries_from entry most (at s place))

-- A table by its numbers: 0 is an empty text.
unfoldable pub text_table_at : TextTable → Reader (List NameView)
text_table_at table s =
    with_front (nameless ∷ []) (entries_from (text_entry_at table) (s.end - s.place) s)

-- What ends a table: the empty text, or an entry that is refused.
abbrev pub EndsTable : {X : Type 0} → Result (Option X × ℕ) Fault → Result (List X × ℕ) Fault → Type 0
EndsTable (Ok (None, place)) answer = answer ≡ Ok ([], place)
EndsTable (Ok (Some x, place)) answer = ⊥
EndsTable (Err f) answer = answer ≡ Err f

-- The same in the standard's words: the answer is the list of these entries, each with the place behind
-- it, where the next one begins.
abbrev pub IsTableOf : {X : Type 0} → Reader (Option X) → List (X × ℕ) → Span
    → Result (List X × ℕ) Fault → Type 0
IsTableOf entry [] s answer = EndsTable (entry s) answer
IsTableOf {X = X} entry (name ∷ names) s answer =
    (entry s ≡ Ok (Some name.0, name.1))
    × (rest : Result (List X × ℕ) Fault) × (answer ≡ consed name.0 rest)
    × IsTableOf entry names (at s name.1) rest

-- a table of texts is a list of such entries behind the number 0
abbrev pub IsTextTable : TextTable → Span → Result (List NameView × ℕ) Fault → Type 0
IsTextTable table s answer =
    (names : List (NameView × ℕ)) × (rest : Result (List NameView × ℕ) Fault)
    × (answer ≡ with_front (nameless ∷ []) rest) × IsTableOf (text_entry_at table) names s rest
