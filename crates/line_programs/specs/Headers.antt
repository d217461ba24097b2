-- The header of a line program: of version 5 (DWARF 5, section 6.2.4) and of version 4 (DWARF 4,
-- section 6.2.4).
use Rattle.std.specs.Prelude.{ℕ, ◌+◌, ◌-◌, ◌≤◌, ◌==◌, if◌then◌else◌, ◌++◌, List, map, Option, Some, None, Result, Ok, Err, length}
use Rattle.dw_fields.specs.declared.fault_code.Fault.{Fault}
use Rattle.dw_fields.specs.declared.fault_code.Code.TheVariants.{NoSection}
use Rattle.dw_fields.specs.Codes.{fault}
use Rattle.dw_fields.specs.Span.{Span, at}
use Rattle.dw_fields.specs.Reading.{Reader, ◌>>=◌, bytes_at}
use Rattle.elf_sections.specs.Shapes.{SectionsView}
use Rattle.form_values.specs.declared.raw.Widths.{Widths}
use Rattle.line_machine.specs.declared.registers.Program.{Program}
use Rattle.line_machine.specs.Machine.{IsRunnable}
use Rattle.line_programs.specs.declared.front.InstructionFields.{InstructionFields}
use Rattle.line_programs.specs.declared.front.SpecialOpcodes.{SpecialOpcodes}
use Rattle.line_programs.specs.Front.{in_header, bounds_at, start_at, instruction_fields_at, special_opcodes_at}
use Rattle.line_programs.specs.declared.text_tables.TextTable.TheVariants.{Directories, Files}
use Rattle.line_programs.specs.Shapes.{LineView, MachineView, TablesView}
use Rattle.line_programs.specs.Tables.{name_table_at}
use Rattle.line_programs.specs.TextTables.{text_table_at}
use Rattle.line_programs.specs.DefinedFiles.{defined_files}

-- What the machine is told. Its addresses have the unit's size, whatever the header says.
abbrev pub program_of : ℕ → InstructionFields → SpecialOpcodes → ℕ → Program
program_of version instruction special size = record {
  version = version;
  min_length = instruction.min_length;
  max_ops = instruction.max_ops;
  default_stmt = instruction.default_stmt;
  line_base = special.line_base;
  line_range = special.line_range;
  opcode_base = special.opcode_base;
  address_size = size;
}

-- The fields of the machine in their order. The lengths of the standard opcodes count as one field.
unfoldable pub machine_at : ℕ → ℕ → Reader MachineView
machine_at version size s = do
  instruction ← instruction_fields_at s
  special ← special_opcodes_at (at s instruction.1)
  lengths ← in_header (bytes_at (special.0.opcode_base - 1) (at s special.1))
  Ok (
    record {
      program = program_of version instruction.0 special.0 size;
      lengths = lengths.0;
    },
    lengths.1,
  )

-- In version 5 each table has its formats.
unfoldable pub tables_of_version_5 : SectionsView → Widths → Span → Result TablesView Fault
tables_of_version_5 sections widths s = do
  directories ← name_table_at sections widths s
  files ← name_table_at sections widths (at s directories.1)
  Ok (record { directories = directories.0; files = files.0 })

-- In version 4 they are texts, and behind the header's files stand those that the program defines.
unfoldable pub tables_of_version_4 : MachineView → Span → Span → Result TablesView Fault
tables_of_version_4 machine code s = do
  directories ← text_table_at Directories s
  files ← text_table_at Files (at s directories.1)
  Ok (record {
    directories = directories.0;
    files = files.0 ++ defined_files machine.program machine.lengths code;
  })

-- The directories and files, behind the fields of this machine; `code` is the program.
unfoldable pub tables_of : SectionsView → Widths → MachineView → Span → Span
    → Result TablesView Fault
tables_of sections widths machine code s =
    if machine.program.version == 4 then tables_of_version_4 machine code s
    else tables_of_version_5 sections widths s

-- The fields of a header of this version from those of the machine on; `code` is its program.
unfoldable pub fields_of : SectionsView → Widths → ℕ → Span → Span → Result LineView Fault
fields_of sections widths version code s = do
  machine ← machine_at version widths.address_size s
  tables ← tables_of sections widths machine.0 code (at s machine.1)
  Ok (record {
    program = machine.0.program;
    lengths = machine.0.lengths;
    code = code;
    directories = map (λ d. d.path) tables.directories;
    files = tables.files;
  })

-- The section of line programs. Without it no header stands anywhere.
abbrev pub section_of : Option (List ℕ) → Result (List ℕ) Fault
section_of (Some section) = Ok section
section_of None = Err (fault NoSection 0)

-- The header at an offset of `.debug_line`, or the first refusal in the order of reading. The program
-- begins `header_length` bytes behind that field, which no field of the header passes; offsets are
-- those of the header's own length, and addresses have `size` bytes.
unfoldable pub line_header_of : SectionsView → ℕ → ℕ → Result LineView Fault
line_header_of sections size offset = do
  section ← section_of sections.line
  bounds ← bounds_at section sections.order offset
  start ← start_at bounds.wide (record {
    bytes = section;
    place = bounds.place;
    end = bounds.end;
    order = sections.order;
  })
  fields_of sections (record { wide = bounds.wide; address_size = size }) start.0.version
      (record {
        bytes = section;
        place = start.1 + start.0.size;
        end = bounds.end;
        order = sections.order;
      })
      (record {
        bytes = section;
        place = start.1;
        end = start.1 + start.0.size;
        order = sections.order;
      })

-- What holds of every header that was read: its program can be run.
pub record IsLineHeader (program : Program) (lengths : List ℕ) : Type 0 where
  pub runnable : IsRunnable program
  pub known : program.opcode_base ≤ length lengths + 1
