-- An entry of a directory or a file in the words of the standard (DWARF 5 section 6.2.4.1): where a
-- content type is repeated, the last value of it counts.
use Rattle.std.specs.Prelude.{◌≡◌, ℕ, pos, ◌==◌, Bool, cond, List, [], ◌∷◌, Option, Some, None, Result, Ok, Err}
use Rattle.dw_fields.specs.Span.{Span, at}
use Rattle.dw_fields.specs.Reading.{Reader, ◌>>=◌}
use Rattle.elf_sections.specs.Shapes.{SectionsView}
use Rattle.form_values.specs.declared.raw.Widths.{Widths}
use Rattle.form_values.specs.View.{RawView}
use Rattle.form_values.specs.FormTable.{value_at}
use Rattle.line_programs.specs.declared.formats.Format.{Format}
use Rattle.line_programs.specs.Front.{in_header}
use Rattle.line_programs.specs.Shapes.{NameView}
use Rattle.line_programs.specs.Names.{index_of, path_of}

-- a value of an entry, and its content type
pub record EntryValue : Type 0 where
  pub content : ℕ
  pub value : RawView

-- the values of an entry in the order of its formats
abbrev pub values_at : Widths → List Format → Reader (List EntryValue)
values_at widths [] s = Ok ([], s.place)
values_at widths (format ∷ formats) s = do
  value ← in_header (value_at format.form widths (pos 0) s)
  others ← values_at widths formats (at s value.1)
  Ok (record { content = format.content; value = value.0 } ∷ others.0, others.1)

-- a value that has the content type or hasn't, before those behind it: the last one stays
abbrev pub later : EntryValue → Bool → Option EntryValue → Option EntryValue
later value has (Some last) = Some last
later value has None = cond has (Some value) None

-- the last value of a content type
abbrev pub last_of : ℕ → List EntryValue → Option EntryValue
last_of content [] = None
last_of content (value ∷ values) = later value (value.content == content) (last_of content values)

-- the path is the text that the value stands for; without a value it is this one
abbrev pub IsPathOf : SectionsView → List ℕ → Option EntryValue → List ℕ → Type 0
IsPathOf sections without None path = path ≡ without
IsPathOf sections without (Some v) path = path_of sections v.value ≡ Ok path

-- the number of the value; without a value it is this one
abbrev pub directory_of : ℕ → Option EntryValue → ℕ
directory_of without None = without
directory_of without (Some v) = index_of v.value

-- The entry that was read has the path that its last path (content type 1) stands for, and the
-- directory that its last directory index (content type 2) names. Without one they are empty and 0.
pub record LastCounts (sections : SectionsView) (widths : Widths) (formats : List Format) (s : Span)
    (name : NameView) (end : ℕ) : Type 0 where
  pub values : List EntryValue
  pub read : values_at widths formats s ≡ Ok (values, end)
  pub path : IsPathOf sections [] (last_of 1 values) name.path
  pub directory : name.directory ≡ directory_of 0 (last_of 2 values)
