-- What an index keeps of the units that have a line table. These are rules of our own.
use Rattle.std.specs.Prelude.{ℕ, List, [], ◌∷◌, map, slice_get, Option, Some, None, Result, Ok, Err, option_map}
use Rattle.std.specs.Option.{option_or}
use Rattle.dw_fields.specs.declared.fault_code.Fault.{Fault}
use Rattle.line_programs.specs.LineTables.{TableView}
use Rattle.line_programs.specs.Shapes.{LineView}
use Rattle.row_index.specs.declared.rows.KeptRow.{KeptRow}
use Rattle.row_index.specs.Kept.{kept_row}
use Rattle.row_index.specs.Rows.{row_at}
use Rattle.address_lookup.specs.declared.names.UnitNames.{UnitNames}
use Rattle.address_lookup.specs.declared.tables.UnitTable.{UnitTable}
use Rattle.address_lookup.specs.Places.{PlaceView, place_of_line}

-- a table with its rows as they are kept
abbrev pub KeptTable : Type 0
KeptTable = LineView × List KeptRow

abbrev pub kept_table : Result TableView Fault → Result KeptTable Fault
kept_table (Ok table) = Ok (table.0, map kept_row table.1)
kept_table (Err f) = Err f

abbrev pub kept_table_view : UnitTable → KeptTable
kept_table_view table = (table.names.header, table.rows.items)

-- the place of a kept row of a unit
abbrev pub kept_place : UnitNames → KeptRow → PlaceView
kept_place unit row = place_of_line unit.number unit.header row.file row.line

-- The place of a row that was found, with the number of its unit among these.
abbrev pub found_place : List UnitNames → Option (ℕ × KeptRow) → Option PlaceView
found_place units (Some (number, row)) =
    option_map (λ unit. kept_place unit row) (slice_get units number)
found_place units None = None

-- The place of an address in the first of these units that has one, each with its rows.
abbrev pub kept_place_of : List UnitNames → List (List KeptRow) → ℕ → Option PlaceView
kept_place_of [] rows a = None
kept_place_of (unit ∷ units) [] a = None
kept_place_of (unit ∷ units) (rows ∷ others) a =
    option_or (option_map (kept_place unit) (row_at rows a)) (kept_place_of units others a)
