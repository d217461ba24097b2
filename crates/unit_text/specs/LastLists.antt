-- What is kept of the lists that were read last.
use Rattle.std.specs.Prelude.{◌≡◌, ℕ, None, Ok, map}
use Rattle.elf_sections.specs.Shapes.{SectionsView}
use Rattle.form_values.specs.declared.raw.UnitFacts.{UnitFacts}
use Rattle.range_lists.specs.declared.bounds.Range.{Range}
use Rattle.range_lists.specs.declared.locations.Location.{Location}
use Rattle.range_lists.specs.Locations.{location_view, locations_of}
use Rattle.range_lists.specs.Ranges.{ranges_of}
use Rattle.unit_text.specs.declared.last_lists.ListContext.{ListContext}
use Rattle.unit_text.specs.declared.last_lists.ReadList.{ReadList}

-- what a list at an offset depends on, of a unit of this version with these facts, whose addresses have
-- `size` bytes
abbrev pub context_of : ℕ → ℕ → UnitFacts → ℕ → ListContext
context_of version size facts offset =
    record {
      offset = offset;
      version = version;
      address_size = size;
      bases = facts.bases;
      low_pc = facts.low_pc;
    }

-- the facts of a unit without those that no list depends on
abbrev pub list_facts : ListContext → UnitFacts
list_facts c = record { bases = c.bases; low_pc = c.low_pc; line = None; root_end = None }

-- it is the range list of its context
abbrev pub IsRangeListOf : SectionsView → ReadList Range → Type 0
IsRangeListOf s l =
    ranges_of s l.context.version l.context.address_size (list_facts l.context) l.context.offset
    ≡ Ok l.items.items

-- it is the location list of its context
abbrev pub IsLocationListOf : SectionsView → ReadList Location → Type 0
IsLocationListOf s l =
    locations_of s l.context.version l.context.address_size (list_facts l.context) l.context.offset
    ≡ Ok (map location_view l.items.items)
