-- What contracts see of a line program's header.
use Rattle.std.specs.Prelude.{ℕ, List, map}
use Rattle.dw_fields.specs.Span.{Span}
use Rattle.line_machine.specs.declared.registers.Program.{Program}
use Rattle.line_programs.specs.declared.header.Machine.{Machine}
use Rattle.line_programs.specs.declared.header.Tables.{Tables}
use Rattle.line_programs.specs.declared.names.FileName.{FileName}

-- The path of a file and the number of its directory.
pub record NameView : Type 0 where
  pub path : List ℕ
  pub directory : ℕ

abbrev pub name_view : FileName → NameView
name_view f = record { path = f.path.now; directory = f.directory }

-- What a header tells its machine, and the lengths of the standard opcodes from 1 on.
pub record MachineView : Type 0 where
  pub program : Program
  pub lengths : List ℕ

abbrev pub machine_view : Machine → MachineView
machine_view m = record { program = m.program; lengths = m.lengths.now }

-- The directories and files of a header by their numbers; a directory is seen as a file of no directory.
pub record TablesView : Type 0 where
  pub directories : List NameView
  pub files : List NameView

abbrev pub tables_view : Tables → TablesView
tables_view t = record {
  directories = map name_view t.directories.items;
  files = map name_view t.files.items;
}

-- A header: what it tells the machine, the lengths of the standard opcodes from 1 on, the bytes of the
-- program, and the directories and files by their numbers.
pub record LineView : Type 0 where
  pub program : Program
  pub lengths : List ℕ
  pub code : Span
  pub directories : List (List ℕ)
  pub files : List NameView
