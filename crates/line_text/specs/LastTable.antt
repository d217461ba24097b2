-- What is kept of the line table that was read last.
use Rattle.std.specs.Prelude.{◌≡◌, ℕ, Ok}
use Rattle.elf_sections.specs.Shapes.{SectionsView}
use Rattle.line_programs.specs.LineTables.{TableView, table_of}
use Rattle.line_text.specs.declared.line_tables.LastTable.{LastTable}

abbrev pub table_view : LastTable → TableView
table_view t = (t.program, t.rows.items)

-- it is the table at its offset, for its address size
abbrev pub IsTableOf : SectionsView → LastTable → Type 0
IsTableOf s t = table_of s t.address_size t.offset ≡ Ok (table_view t)

-- it was read for this address size, at this offset
abbrev pub IsReadAt : ℕ → ℕ → LastTable → Type 0
IsReadAt size offset t = (t.address_size ≡ size) × (t.offset ≡ offset)
