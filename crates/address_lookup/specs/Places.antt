-- The place of an address in the source: DWARF 5, section 6.2. Nothing is sorted here.
use Rattle.std.specs.Prelude.{ℕ, zero, suc, List, [], ◌∷◌, get_or, slice_get, Option, Some, None, option_map, if◌then◌else◌}
use Rattle.std.specs.Option.{option_or}
use Rattle.elf_sections.specs.Shapes.{SectionsView}
use Rattle.line_machine.specs.declared.registers.Row.{Row}
use Rattle.line_programs.specs.LineTables.{TableView}
use Rattle.line_programs.specs.Shapes.{LineView, NameView}
use Rattle.row_index.specs.Kept.{kept_row}
use Rattle.row_index.specs.Rows.{covers}
use Rattle.unit_headers.specs.Headers.{unit_count}
use Rattle.address_lookup.specs.declared.place.Place.{Place}
use Rattle.address_lookup.specs.Programs.{unit_table}

-- a place, without where its texts lie
pub record PlaceView : Type 0 where
  pub unit : ℕ
  pub line : ℕ
  pub directory : List ℕ
  pub name : Option (List ℕ)

abbrev pub place_view : Place → PlaceView
place_view p = record {
  unit = p.unit;
  line = p.line;
  directory = p.directory.now;
  name = option_map (λ b. b.now) p.name;
}

-- The directory and the name of a file: both are empty where there is no file of that number, and the
-- directory is where it has no entry.
abbrev pub place_in_file : ℕ → ℕ → LineView → Option NameView → PlaceView
place_in_file unit line program (Some file) = record {
  unit = unit;
  line = line;
  directory = get_or program.directories file.directory [];
  name = Some file.path;
}
place_in_file unit line program None =
    record { unit = unit; line = line; directory = []; name = None }

-- The place of a line in the file with this number. Files and directories are numbered from 0.
abbrev pub place_of_line : ℕ → LineView → ℕ → ℕ → PlaceView
place_of_line unit program file line =
    place_in_file unit line program (slice_get program.files file)

-- The first row that covers an address together with the next one.
abbrev pub covering_behind : Row → List Row → ℕ → Option Row
covering_behind row [] a = None
covering_behind row (next ∷ rest) a =
    if covers (kept_row row) (kept_row next) a then Some row else covering_behind next rest a

abbrev pub covering : List Row → ℕ → Option Row
covering [] a = None
covering (row ∷ rest) a = covering_behind row rest a

-- The place of an address in a unit with this table, if it has one.
abbrev pub place_in_unit : ℕ → Option TableView → ℕ → Option PlaceView
place_in_unit unit (Some table) a =
    option_map (λ row. place_of_line unit table.0 row.file row.line) (covering table.1 a)
place_in_unit unit None a = None

-- The place of an address in the first of so many units, from this one on, that has one.
abbrev pub place_from : ℕ → SectionsView → ℕ → ℕ → Option PlaceView
place_from zero s unit a = None
place_from (suc most) s unit a =
    option_or (place_in_unit unit (unit_table s unit) a) (place_from most s (suc unit) a)

-- The place of an address: that of the first pair of neighbouring rows that covers it, in the order of
-- units and rows. A unit without a table is passed over.
unfoldable pub place_of : SectionsView → ℕ → Option PlaceView
place_of s a = place_from (unit_count s.info s.order) s 0 a
