-- The tables of directories and files: DWARF 5, section 6.2.4, items 12 to 20.
use Rattle.std.specs.Prelude.{ℕ, not, ◌==◌, ◌&&◌, List, length}
use Rattle.dw_fields.specs.declared.fault_code.Code.TheVariants.{LineForm}
use Rattle.dw_fields.specs.Codes.{fault}
use Rattle.dw_fields.specs.Span.{at}
use Rattle.dw_fields.specs.Reading.{Reader, ◌>>=◌, ◌>>◌, refuse, number_at, uleb_at}
use Rattle.dw_fields.specs.Times.{times}
use Rattle.elf_sections.specs.Shapes.{SectionsView}
use Rattle.form_values.specs.declared.raw.Widths.{Widths}
use Rattle.line_programs.specs.declared.formats.Format.{Format}
use Rattle.line_programs.specs.Front.{in_header}
use Rattle.line_programs.specs.Formats.{format_at}
use Rattle.line_programs.specs.Shapes.{NameView}
use Rattle.line_programs.specs.Names.{name_at}

-- A count of pairs, and the pairs.
unfoldable pub formats_at : Reader (List Format)
formats_at s = do
  count ← in_header (number_at 1 s)
  times count.0 format_at (at s count.1)

-- So many entries of these formats.
unfoldable pub names_at : SectionsView → Widths → List Format → ℕ → Reader (List NameView)
names_at sections widths formats count s = times count (name_at sections widths formats) s

-- An entry format, a count of entries, and the entries. Entries without a format are refused at their
-- count.
unfoldable pub name_table_at : SectionsView → Widths → Reader (List NameView)
name_table_at sections widths s = do
  formats ← formats_at s
  count ← in_header (uleb_at (at s formats.1))
  refuse (not (count.0 == 0) && (length formats.0 == 0)) (fault LineForm formats.1)
  names_at sections widths formats.0 count.0 (at s count.1)
