-- What is true of every index of addresses.
use Rattle.std.specs.Prelude.{◌≡◌, ℕ, List, length}
use Rattle.elf_sections.specs.Shapes.{SectionsView}
use Rattle.row_index.specs.declared.rows.KeptRow.{KeptRow}
use Rattle.address_lookup.specs.declared.names.UnitNames.{UnitNames}
use Rattle.address_lookup.specs.Kept.{kept_place_of}
use Rattle.address_lookup.specs.Places.{place_of}

-- Each kept unit has its rows, and they tell the places of these sections.
pub record IsIndexOf (s : SectionsView) (units : List UnitNames) (rows : List (List KeptRow))
    : Type 0 where
  pub sizes : length units ≡ length rows
  pub tells : (a : ℕ) → kept_place_of units rows a ≡ place_of s a
