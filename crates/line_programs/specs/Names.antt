-- The entries of directories and files by their formats: DWARF 5, section 6.2.4.1.
use Rattle.std.specs.Prelude.{ℕ, pos, ◌≡◌, ◌+◌, ◌-◌, ◌==◌, List, [], ◌∷◌, Result, Ok, Err, if◌then◌else◌}
use Rattle.dw_fields.specs.declared.fault_code.Code.{Code}
use Rattle.dw_fields.specs.declared.fault_code.Fault.{Fault}
use Rattle.dw_fields.specs.Span.{at}
use Rattle.dw_fields.specs.Reading.{Reader, ◌>>=◌}
use Rattle.elf_sections.specs.Shapes.{SectionsView}
use Rattle.form_values.specs.declared.raw.Widths.{Widths}
use Rattle.form_values.specs.View.{RawView, Text, TextOffset, LineTextOffset, Unsigned}
use Rattle.form_values.specs.FormTable.{value_at}
use Rattle.form_values.specs.Resolved.{refused_at, text_in}
use Rattle.line_programs.specs.declared.formats.Format.{Format}
use Rattle.line_programs.specs.Front.{in_header}
use Rattle.line_programs.specs.Shapes.{NameView}

-- The text of a path.
unfoldable pub path_of : SectionsView → RawView → Result (List ℕ) Code
path_of sections (Text text) = Ok text
path_of sections (TextOffset offset) = text_in sections.text offset
path_of sections (LineTextOffset offset) = text_in sections.line_text offset
path_of sections _ = Ok []

-- The number of a directory index.
unfoldable pub index_of : RawView → ℕ
index_of (Unsigned n) = n
index_of _ = 0

-- A path that was resolved, or its refusal at the value.
abbrev pub with_path : NameView → Result (List ℕ) Fault → Result NameView Fault
with_path name (Ok path) = Ok (record name { path = path })
with_path name (Err f) = Err f

-- What a value does to its entry. `left` counts the paths from this format on: only the last one
-- counts, and those before it are dropped without being resolved.
unfoldable pub set_field : SectionsView → ℕ → ℕ → ℕ → RawView → NameView → Result NameView Fault
set_field sections content left place value name =
    if content == 1
    then (if left == 1 then with_path name (refused_at place (path_of sections value)) else Ok name)
    else (if content == 2 then Ok (record name { directory = index_of value }) else Ok name)

-- How many of the formats are paths.
abbrev pub weight : ℕ → ℕ
weight content = if content == 1 then 1 else 0

abbrev pub paths_in : List Format → ℕ
paths_in [] = 0
paths_in (format ∷ formats) = weight format.content + paths_in formats

-- One value by its format.
unfoldable pub field_at : SectionsView → Widths → ℕ → Format → NameView → Reader NameView
field_at sections widths left format name s = do
  value ← in_header (value_at format.form widths (pos 0) s)
  next ← set_field sections format.content left s.place value.0 name
  Ok (next, value.1)

-- The values of one entry in the order of its formats.
abbrev pub fields_at : SectionsView → Widths → ℕ → List Format → NameView → Reader NameView
fields_at sections widths left [] name s = Ok (name, s.place)
fields_at sections widths left (format ∷ formats) name s = do
  next ← field_at sections widths left format name s
  fields_at sections widths (left - weight format.content) formats next.0 (at s next.1)

-- An entry. Without a path it has an empty one, and without a directory the number 0.
abbrev pub nameless : NameView
nameless = record { path = []; directory = 0 }

unfoldable pub name_at : SectionsView → Widths → List Format → Reader NameView
name_at sections widths formats s = fields_at sections widths (paths_in formats) formats nameless s
