-- The lines of addresses: docs/FORMATS.md, 'Texts'. The place of an address is that of the definition that sorts nothing.
use Rattle.std.specs.Prelude.{◌==◌, Bool, true, false, ℕ, List, [], ◌∷◌, ◌++◌, Option, Some, None, codes, if◌then◌else◌}
use Rattle.std.specs.List.{flat_map}
use Rattle.dw_text.specs.Added.{labelled}
use Rattle.dw_text.specs.Escapes.{escaped}
use Rattle.dw_text.specs.Numbers.{decimal}
use Rattle.elf_sections.specs.Shapes.{SectionsView}
use Rattle.address_lookup.specs.Places.{PlaceView, place_of}
use Rattle.dw_run.specs.CommandTexts.{CommandText, whole}

-- the name of a file stands alone where it begins with `/`, and where its directory is empty
abbrev pub stands_alone : List ℕ → List ℕ → Bool
stands_alone [] name = true
stands_alone (b ∷ directory) [] = false
stands_alone (b ∷ directory) (first ∷ name) = first == 0x2f

-- the path of a file: DIRECTORY/NAME, or the name alone
unfoldable pub path_text : List ℕ → List ℕ → List ℕ
path_text directory name =
    if stands_alone directory name then escaped name
    else escaped directory ++ labelled (codes "/") (escaped name)

-- the path of a place, whose line table may have no such file
abbrev pub path_or_marks : List ℕ → Option (List ℕ) → List ℕ
path_or_marks directory (Some name) = path_text directory name
path_or_marks directory None = codes "??"

unfoldable pub place_path : PlaceView → List ℕ
place_path place = path_or_marks place.directory place.name

-- PATH:LINE
unfoldable pub place_line : PlaceView → List ℕ
place_line place = place_path place ++ labelled (codes ":") (decimal place.line) ++ 10 ∷ []

-- the line of an address with this place, or with none
abbrev pub address_line : Option PlaceView → List ℕ
address_line (Some place) = place_line place
address_line None = codes "??:0\n"

-- a line for each of these addresses, in their order
unfoldable pub address_lines : SectionsView → List ℕ → List ℕ
address_lines s addresses = flat_map (λ a. address_line (place_of s a)) addresses

abbrev pub addresses_printed : List ℕ → SectionsView → CommandText
addresses_printed addresses s = whole (address_lines s addresses)
