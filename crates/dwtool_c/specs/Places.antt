-- The places of addresses (DWARF 5 section 6.2) as a C caller sees them: a row for each address, and the names one behind
-- the other.
use Rattle.std.specs.Prelude.{◌≡◌, ℕ, ◌+◌, List, [], ◌∷◌, ◌++◌, length, map, unwrap_or, Option, Some, None}
use Rattle.std.specs.List.{flat_map}
use Rattle.address_lookup.specs.Places.{PlaceView, place_of}
use Rattle.elf_sections.specs.Names.{elf_of}
use Rattle.elf_sections.specs.Rows.{ElfView}
use Rattle.elf_sections.specs.Shapes.{SectionsView, sections_of}
use Rattle.dwtool_c.specs.declared.places.DwtoolPlace.{DwtoolPlace}
use Rattle.dwtool_c.specs.declared.places.TheConstants.{NO_PLACE, NO_NAME, NAMED}
use Rattle.dwtool_c.specs.Answers.{Answer, done, on_elf}

-- whether the line table of a place has its file
abbrev pub found_of : Option (List ℕ) → ℕ
found_of None = NO_NAME
found_of (Some name) = NAMED

-- the bytes of a name; none where there is none
abbrev pub name_bytes : Option (List ℕ) → List ℕ
name_bytes name = unwrap_or name []

-- the directory and the name of a place
abbrev pub names_in : PlaceView → List ℕ
names_in place = place.directory ++ name_bytes place.name

abbrev pub names_of : Option PlaceView → List ℕ
names_of None = []
names_of (Some place) = names_in place

-- the row of an address with this place, whose names begin at `start`
abbrev pub place_row : ℕ → Option PlaceView → DwtoolPlace
place_row start None = record {
  line = 0;
  start = start;
  directory_size = 0;
  name_size = 0;
  unit = 0;
  found = NO_PLACE;
}
place_row start (Some place) = record {
  line = place.line;
  start = start;
  directory_size = length place.directory;
  name_size = length (name_bytes place.name);
  unit = place.unit;
  found = found_of place.name;
}

-- the rows of addresses with these places, the first of whose names begins at `start`
unfoldable pub place_rows : ℕ → List (Option PlaceView) → List DwtoolPlace
place_rows start [] = []
place_rows start (place ∷ places) = place_row start place ∷ place_rows (start + length (names_of place)) places

-- the names of these places, one behind the other
unfoldable pub place_names : List (Option PlaceView) → List ℕ
place_names places = flat_map names_of places

-- the place of each address
abbrev pub places_of : SectionsView → List ℕ → List (Option PlaceView)
places_of s addresses = map (place_of s) addresses

-- these are the rows and the names of these places
pub record AreTold (places : List (Option PlaceView)) (rows : List DwtoolPlace) (names : List ℕ) : Type 0 where
  pub rows_are : rows ≡ place_rows 0 places
  pub names_are : names ≡ place_names places

abbrev pub rows_of_elf : List ℕ → ElfView → Answer DwtoolPlace
rows_of_elf addresses elf = done (place_rows 0 (places_of (sections_of elf) addresses))

abbrev pub names_of_elf : List ℕ → ElfView → Answer ℕ
names_of_elf addresses elf = done (place_names (places_of (sections_of elf) addresses))

unfoldable pub place_rows_answer : List ℕ → List ℕ → Answer DwtoolPlace
place_rows_answer addresses file = on_elf (rows_of_elf addresses) (elf_of file)

unfoldable pub place_names_answer : List ℕ → List ℕ → Answer ℕ
place_names_answer addresses file = on_elf (names_of_elf addresses) (elf_of file)
