-- What the commands print of each unit.
use Rattle.std.specs.Prelude.{ℕ, length, Ok}
use Rattle.dw_fields.specs.Reading.{◌>>=◌}
use Rattle.elf_sections.specs.Shapes.{SectionsView}
use Rattle.entry_tree.specs.Units.{facts_of}
use Rattle.line_text.specs.LineTable.{lines_text}
use Rattle.unit_headers.specs.declared.header.UnitHeader.{UnitHeader}
use Rattle.unit_headers.specs.Headers.{header_at, unit_count}
use Rattle.unit_text.specs.Pieces.{Text}
use Rattle.unit_text.specs.UnitLine.{unit_line}
use Rattle.unit_text.specs.UnitStreams.{streamed_lists}
use Rattle.unit_text.specs.UnitView.{unit_of}
use Rattle.dw_run.specs.declared.parts.Part.{Part}
use Rattle.dw_run.specs.declared.parts.Part.TheVariants as parts
use Rattle.dw_run.specs.CommandTexts.{CommandText, units_printed}

-- The line of a unit; its line table, refused at the unit's root or in the line program; its lists, refused at the unit's
-- root, at an entry, or else in a list.
unfoldable pub part_of : Part → SectionsView → UnitHeader → Text
part_of parts.Line s header = Ok (unit_line header)
part_of parts.LineTable s header = do
  facts ← facts_of s header
  lines_text s header facts.line
part_of parts.Lists s header = do
  facts ← facts_of s header
  streamed_lists (unit_of s header facts)

-- a part of the unit with this number, which is refused at its header first
unfoldable pub unit_part : Part → SectionsView → ℕ → Text
unit_part part s i = do
  header ← header_at s.info s.order (length s.«abbrev») i
  part_of part s header

-- a part of each unit of these sections
pub record PartView : Type 0 where
  pub part : Part
  pub sections : SectionsView

-- a part of all units
unfoldable pub part_of_units : Part → SectionsView → CommandText
part_of_units part s = units_printed (unit_part part s) 0 (unit_count s.info s.order)
