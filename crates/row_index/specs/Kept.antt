-- What an index keeps of a row of the line table: DWARF 5, section 6.2.2.
use Rattle.std.specs.Prelude.{◌-◌, ◌^◌, min}
use Rattle.line_machine.specs.declared.registers.Row.{Row}
use Rattle.row_index.specs.declared.rows.KeptRow.{KeptRow}

-- A number of a file that doesn't fit in 32 bits is the greatest that does.
abbrev pub kept_row : Row → KeptRow
kept_row r = record {
  address = r.address;
  line = r.line;
  file = min r.file (2 ^ 32 - 1);
  end = r.end;
}
