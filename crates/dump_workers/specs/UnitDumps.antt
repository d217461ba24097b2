-- What a dump has of one unit: its text and how many entries it has. Each unit is read anew, by its definitions.
use Rattle.std.specs.Prelude.{ℕ, zero, suc, ◌+◌, List, Result}
use Rattle.dw_fields.specs.declared.fault_code.Fault.{Fault}
use Rattle.dw_fields.specs.Reading.{◌>>=◌}
use Rattle.elf_sections.specs.Shapes.{SectionsView}
use Rattle.unit_headers.specs.Headers.{unit_count}
use Rattle.entry_tree.specs.Units.{unit_header, facts_of, entries_of}
use Rattle.entry_tree.specs.Views.{EntryView}
use Rattle.unit_text.specs.Pieces.{Text}
use Rattle.unit_text.specs.UnitStreams.{count_of_entries}
use Rattle.unit_text.specs.UnitView.{unit_of}
use Rattle.unit_text.specs.Units.{read_unit_text}

-- The text of a unit, or its first refusal: of its header, of its root, of an entry, or of a value that can't be
-- resolved, in this order.
unfoldable pub unit_dump : SectionsView → ℕ → Text
unit_dump s unit = do
  header ← unit_header s unit
  facts ← facts_of s header
  entries ← entries_of s header
  read_unit_text (unit_of s header facts) entries

-- the entries of a unit, or the refusal that was met in reading them
unfoldable pub unit_entries : SectionsView → ℕ → Result (List EntryView) Fault
unit_entries s unit = do
  header ← unit_header s unit
  entries_of s header

-- how many entries a unit has
unfoldable pub entry_count : SectionsView → ℕ → ℕ
entry_count s unit = count_of_entries (unit_entries s unit)

-- how many entries so many units have, from one on
abbrev pub entries_from : SectionsView → ℕ → ℕ → ℕ
entries_from s unit zero = 0
entries_from s unit (suc n) = entry_count s unit + entries_from s (unit + 1) n

-- how many entries the units of a file have
unfoldable pub file_entries : SectionsView → ℕ
file_entries s = entries_from s 0 (unit_count s.info s.order)
