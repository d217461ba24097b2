-- What is shown of the entries of a file (DWARF 5 sections 2.1 to 2.3 and 2.15).
use Rattle.std.specs.Prelude.{ℕ, Bool, ◌==◌, if◌then◌else◌, List, [], ◌∷◌, map, Option, Some, None, option_map, Result, Ok, Err}
use Rattle.std.specs.List.{find, flat_map, range_with_len}
use Rattle.dw_fields.specs.declared.fault_code.Fault.{Fault}
use Rattle.dw_fields.specs.Reading.{◌>>=◌}
use Rattle.dw_numbers.specs.declared.attribute.TheConstants.{NAME}
use Rattle.elf_sections.specs.Shapes.{SectionsView}
use Rattle.unit_headers.specs.declared.header.UnitHeader.{UnitHeader}
use Rattle.unit_headers.specs.Headers.{unit_count}
use Rattle.form_values.specs.declared.raw.Bases.{Bases}
use Rattle.form_values.specs.View.{is_text}
use Rattle.form_values.specs.Resolved.{refused_at, text_of}
use Rattle.entry_tree.specs.Views as entries
use Rattle.entry_tree.specs.Views.{AttrView}
use Rattle.entry_tree.specs.Units.{entries_of, facts_of, unit_header}
use Rattle.visit_queries.specs.declared.visitor.EntryView.{EntryView}

-- an entry as a visitor is shown it
pub record ShownEntry : Type 0 where
  pub unit : ℕ
  pub place : ℕ
  pub depth : ℕ
  pub tag : ℕ
  pub name : Option (List ℕ)

abbrev pub shown_entry : EntryView → ShownEntry
shown_entry e = record {
  unit = e.unit;
  place = e.place;
  depth = e.depth;
  tag = e.tag;
  name = option_map (λ name. name.now) e.name;
}

-- the bytes of a text that was resolved
abbrev pub some_text : Result (List ℕ) Fault → Result (Option (List ℕ)) Fault
some_text (Ok text) = Ok (Some text)
some_text (Err f) = Err f

-- What an attribute names its entry: the text that its value stands for; nothing where the value is no text. It is
-- refused at the attribute's place.
unfoldable pub name_in : SectionsView → UnitHeader → Bases → Option AttrView → Result (Option (List ℕ)) Fault
name_in s header bases None = Ok None
name_in s header bases (Some a) =
    if is_text a.raw then some_text (refused_at a.place (text_of a.raw header.wide s bases)) else Ok None

-- the attributes that may name an entry
unfoldable pub is_name : ℕ → Bool
is_name name = name == NAME

-- the name of an entry is that of its first attribute DW_AT_name
unfoldable pub name_of : SectionsView → UnitHeader → Bases → List AttrView → Result (Option (List ℕ)) Fault
name_of s header bases attrs = name_in s header bases (find (λ a. a.name == NAME) attrs)

module _ (s : SectionsView) (unit : ℕ) (header : UnitHeader) (bases : Bases) where
  -- an entry with its name
  unfoldable pub named_entry : entries.EntryView → Result ShownEntry Fault
  named_entry e = do
    name ← name_of s header bases e.attrs
    Ok (record { unit = unit; place = e.place; depth = e.depth; tag = e.tag; name = name })

  -- the entries with their names, refused at the first name that can't be resolved
  unfoldable pub named_entries : List entries.EntryView → Result (List ShownEntry) Fault
  named_entries [] = Ok []
  named_entries (e ∷ es) = do
    first ← named_entry e
    others ← named_entries es
    Ok (first ∷ others)

-- the entries of the unit of a header, with their names
unfoldable pub header_entries : SectionsView → ℕ → UnitHeader → Bases → Result (List ShownEntry) Fault
header_entries s unit header bases = do
  entries ← entries_of s header
  named_entries s unit header bases entries

-- What is shown of a unit: its entries in their order. It is refused at its header, at its root, at one of its entries,
-- or at the name of one of its entries, in this order.
unfoldable pub unit_entries : SectionsView → ℕ → Result (List ShownEntry) Fault
unit_entries s unit = do
  header ← unit_header s unit
  facts ← facts_of s header
  entries ← entries_of s header
  named_entries s unit header facts.bases entries

-- a unit that is refused
pub record RefusedUnit : Type 0 where
  pub unit : ℕ
  pub fault : Fault

-- what a walk meets: an entry, or a refused unit
abbrev pub Met : Type 0
Met = Result ShownEntry RefusedUnit

-- entries of which none is refused
abbrev pub met_shown : List ShownEntry → List Met
met_shown entries = map (λ e. Ok e) entries

abbrev pub met_entries : ℕ → Result (List ShownEntry) Fault → List Met
met_entries unit (Ok entries) = met_shown entries
met_entries unit (Err f) = Err (record { unit = unit; fault = f }) ∷ []

-- the entries of a unit, or in their place its refusal
abbrev pub met_in_unit : SectionsView → ℕ → List Met
met_in_unit s unit = met_entries unit (unit_entries s unit)

-- what is met in all units of a file, one unit after another
unfoldable pub met_in : SectionsView → List Met
met_in s = flat_map (met_in_unit s) (range_with_len 0 (unit_count s.info s.order))
