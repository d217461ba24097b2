-- What `exercise` prints.
use Rattle.elf_sections.specs.Shapes.{SectionsView}
use Rattle.exercise_dumps.specs.Lines.{exercise_text}
use Rattle.dw_run.specs.CommandTexts.{CommandText, whole}

-- the six lines of two dumps of a file with these sections
unfoldable pub exercise_printed : SectionsView → CommandText
exercise_printed s = whole (exercise_text s)
