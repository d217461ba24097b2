-- The entries and the facts of a unit of some sections.
use Rattle.std.specs.Prelude.{◌≡◌, ℕ, ◌≤◌, List, [], ◌∷◌, length, Option, Some, None, Result, Ok, Err, IfOk}
use Rattle.dw_fields.specs.declared.fault_code.Fault.{Fault}
use Rattle.dw_fields.specs.Span.{Span}
use Rattle.dw_fields.specs.Reading.{IsAddressSize, ◌>>=◌}
use Rattle.elf_sections.specs.Shapes.{SectionsView}
use Rattle.unit_headers.specs.declared.header.UnitHeader.{UnitHeader}
use Rattle.unit_headers.specs.Headers.{HasShape, header_at}
use Rattle.unit_headers.specs.Units.{Units}
use Rattle.form_values.specs.declared.raw.UnitFacts.{UnitFacts}
use Rattle.form_values.specs.View.{widths_of}
use Rattle.entry_tree.specs.declared.first.RootCode.{RootCode}
use Rattle.entry_tree.specs.Views.{EntryView}
use Rattle.entry_tree.specs.Entries.{entries_in, root_in, first_code_in}
use Rattle.entry_tree.specs.Facts.{facts_from}
use Rattle.entry_tree.specs.Tiles.{TileArea}

-- the units of some sections
abbrev pub units_of : SectionsView → Units
units_of s = record { info = s.info; order = s.order; abbrev_length = length s.«abbrev» }

-- the header of a unit of some sections
abbrev pub unit_header : SectionsView → ℕ → Result UnitHeader Fault
unit_header s unit = header_at s.info s.order (length s.«abbrev») unit

-- the unit's entry area: from the header's end to the unit's end
abbrev pub area_of : SectionsView → UnitHeader → Span
area_of sections header =
    record {
      bytes = sections.info;
      place = header.entries;
      end = header.end;
      order = sections.order;
    }

-- Unit entries: all entries of the unit's area, or the first refusal in the order of reading.
abbrev pub entries_of : SectionsView → UnitHeader → Result (List EntryView) Fault
entries_of sections header =
    entries_in sections.«abbrev» header.«abbrev» (widths_of header) (area_of sections header)

-- the first code of the unit's area that isn't 0
abbrev pub root_code_of : SectionsView → UnitHeader → Result (Option RootCode) Fault
root_code_of sections header = first_code_in (area_of sections header)

-- the unit's root, with the place behind it
abbrev pub root_of : SectionsView → UnitHeader → Result (Option (EntryView × ℕ)) Fault
root_of sections header =
    root_in sections.«abbrev» header.«abbrev» (widths_of header) (area_of sections header)

-- Unit facts: what the unit's first entry tells, or the refusal met in reading that entry.
unfoldable pub facts_of : SectionsView → UnitHeader → Result UnitFacts Fault
facts_of sections header =
    facts_from header.address_size sections (root_of sections header)

-- the facts of a unit of some sections: the refusal of its header, or what its root tells
unfoldable pub unit_facts : SectionsView → ℕ → Result UnitFacts Fault
unit_facts s unit = unit_header s unit >>= facts_of s

-- The entries in the words of the format: they tile the unit's area, up to its end or up to what is
-- refused.
abbrev pub EntriesTileUnit : SectionsView → UnitHeader → Type 0
EntriesTileUnit sections header =
    TileArea sections.«abbrev» header.«abbrev» (widths_of header) (area_of sections header)
    (entries_of sections header)

-- A list that begins with an entry.
pub record BeginsWith (entry : EntryView) (entries : List EntryView) : Type 0 where
  pub others : List EntryView
  pub is : entries ≡ entry ∷ others

-- The root is the first of the entries: without a root there is no entry, and a refused root is the
-- refusal of the entries.
abbrev pub IsFirstEntry : Result (Option (EntryView × ℕ)) Fault → Result (List EntryView) Fault
    → Type 0
IsFirstEntry (Ok None) entries = entries ≡ Ok []
IsFirstEntry (Ok (Some root)) entries = IfOk entries (BeginsWith root.0)
IsFirstEntry (Err f) entries = entries ≡ Err f

-- The header is that of a unit of these sections: its area lies in .debug_info, its declarations begin
-- in .debug_abbrev, and its address size is one that is read.
pub record IsUnitOf (sections : SectionsView) (header : UnitHeader) : Type 0 where
  pub address : IsAddressSize header.address_size
  pub declarations : header.«abbrev» ≤ length sections.«abbrev»
  pub inside : header.entries ≤ header.end
  pub ends : header.end ≤ length sections.info

-- what a header that was read says of itself is enough
pub unit_of_shape : (sections : SectionsView) (header : UnitHeader) (number : ℕ)
    → HasShape (length sections.info) (length sections.«abbrev») number header
    → IsUnitOf sections header
unit_of_shape sections header number shape = record {
  address = shape.address;
  declarations = shape.declarations;
  inside = shape.inside;
  ends = shape.ends;
}
