-- The lines of a line table's directories and files.
use Rattle.std.specs.Prelude.{ℕ, ◌==◌, if◌then◌else◌, List, [], ◌∷◌, ◌++◌, drop, codes}
use Rattle.dw_text.specs.Added.{labelled}
use Rattle.dw_text.specs.Escapes.{escaped}
use Rattle.dw_text.specs.Numbers.{decimal}
use Rattle.line_programs.specs.Shapes.{NameView}
use Rattle.line_text.specs.Numbered.{numbered}

-- a quoted text, and the end of the line
unfoldable pub quoted_end : List ℕ → List ℕ
quoted_end text = labelled (codes " \"") (escaped text) ++ labelled (34 ∷ 10 ∷ []) []

unfoldable pub directory_line : ℕ → List ℕ → List ℕ
directory_line number path = labelled (codes "dir ") (decimal number) ++ quoted_end path

-- The first number that has a line. In version 4 number 0 stands for nothing.
unfoldable pub first_number : ℕ → ℕ
first_number version = if version == 4 then 1 else 0

abbrev pub directories_text : ℕ → List (List ℕ) → List ℕ
directories_text first paths = numbered directory_line first (drop first paths)

unfoldable pub file_line : ℕ → NameView → List ℕ
file_line number file =
    labelled (codes "file ") (decimal number) ++ labelled (codes " ") (decimal file.directory) ++ quoted_end file.path

abbrev pub files_text : ℕ → List NameView → List ℕ
files_text first files = numbered file_line first (drop first files)
