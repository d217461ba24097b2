-- The six lines of `exercise`. Their form is a choice of our own.
use Rattle.std.specs.Prelude.{ℕ, Bool, true, if◌then◌else◌, List, [], ◌∷◌, ◌++◌, length, codes}
use Rattle.dw_text.specs.Added.{labelled}
use Rattle.dw_text.specs.Numbers.{decimal}
use Rattle.elf_sections.specs.Shapes.{SectionsView}
use Rattle.unit_headers.specs.Headers.{unit_count}
use Rattle.dump_workers.specs.Dumps.{dump_of}
use Rattle.dump_workers.specs.Ends.{PublishedView}
use Rattle.dump_workers.specs.TableKeys.{published_count}
use Rattle.dump_workers.specs.UnitDumps.{file_entries}

-- a word and a number
unfoldable pub number_line : List ℕ → ℕ → List ℕ
number_line word n = labelled word (decimal n) ++ (10 ∷ [])

unfoldable pub equal_line : Bool → List ℕ
equal_line equal = if equal then codes "equal yes\n" else codes "equal no\n"

-- what the first dump tells of the file
unfoldable pub file_lines : ℕ → ℕ → ℕ → List ℕ
file_lines units entries bytes =
    number_line (codes "units ") units ++ number_line (codes "entries ") entries ++ number_line (codes "bytes ") bytes

-- what it left in the table, and what a second one makes of that
unfoldable pub table_lines : ℕ → ℕ → Bool → List ℕ
table_lines published again equal =
    number_line (codes "published ") published ++ number_line (codes "again ") again ++ equal_line equal

-- the lines of two dumps
abbrev pub lines_of : PublishedView → ℕ → ℕ → Bool → List ℕ
lines_of published bytes again equal =
    file_lines published.units published.entries bytes ++ table_lines published.number again equal

-- the lines of the sections of a file of which no unit is refused, and whose keys its table has room for
abbrev pub exercise_text : SectionsView → List ℕ
exercise_text s =
    file_lines (unit_count s.info s.order) (file_entries s) (length (dump_of s).text) ++ table_lines (published_count s) 0 true
