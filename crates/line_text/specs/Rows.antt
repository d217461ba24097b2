-- The lines of a line table's rows, as our text format has them.
use Rattle.std.specs.Prelude.{ℕ, Bool, ◌==◌, if◌then◌else◌, List, [], ◌∷◌, ◌++◌, codes}
use Rattle.dw_text.specs.Added.{labelled}
use Rattle.dw_text.specs.Numbers.{decimal, hex}
use Rattle.line_machine.specs.declared.registers.Row.{Row}

-- a word, where the flag holds
unfoldable pub flag_word : List ℕ → Bool → List ℕ
flag_word word flag = if flag then word else []

-- a word and a number, where the number isn't 0
unfoldable pub counted_text : List ℕ → ℕ → List ℕ
counted_text word n = if n == 0 then [] else labelled word (decimal n)

-- the address, the file, the line and the column
unfoldable pub row_place : Row → List ℕ
row_place r =
    labelled (codes "0x") (hex r.address) ++ labelled (codes " ") (decimal r.file)
    ++ labelled (codes " ") (decimal r.line) ++ labelled (codes " ") (decimal r.column)

-- what ends or begins at the row
unfoldable pub row_edges : Row → List ℕ
row_edges r =
    flag_word (codes " prologue_end") r.prologue_end
    ++ flag_word (codes " epilogue_begin") r.epilogue_begin ++ flag_word (codes " end") r.end

unfoldable pub row_flags : Row → List ℕ
row_flags r = flag_word (codes " stmt") r.stmt ++ flag_word (codes " block") r.block ++ row_edges r

unfoldable pub row_numbers : Row → List ℕ
row_numbers r =
    counted_text (codes " op ") r.op_index ++ counted_text (codes " isa ") r.isa
    ++ counted_text (codes " discriminator ") r.discriminator

unfoldable pub row_text : Row → List ℕ
row_text r = row_place r ++ row_flags r ++ row_numbers r ++ labelled (10 ∷ []) []

unfoldable pub rows_text : List Row → List ℕ
rows_text [] = []
rows_text (row ∷ rows) = row_text row ++ rows_text rows
