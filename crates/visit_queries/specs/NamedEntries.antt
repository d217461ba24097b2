-- Entries of a unit that get their names as they are read.
use Rattle.std.specs.Prelude.{◌≡◌, ◌==◌, ◌++◌, List, map, Option, Some, None, option_map, Result, Ok, Err}
use Rattle.std.specs.List.{find}
use Rattle.dw_fields.specs.declared.fault_code.Fault.{Fault}
use Rattle.dw_fields.specs.Reading.{◌>>=◌}
use Rattle.dw_numbers.specs.declared.attribute.TheConstants.{NAME}
use Rattle.elf_sections.specs.Shapes.{sections_view}
use Rattle.entry_tree.specs.declared.entry.EntryHead.{EntryHead}
use Rattle.entry_tree.specs.Views as entries
use Rattle.entry_tree.specs.Views.{AttrView, attr_view}
use Rattle.visit_queries.specs.declared.names.NamedUnit.{NamedUnit}
use Rattle.visit_queries.specs.declared.named_entries.NamedEntries.{NamedEntries}
use Rattle.visit_queries.specs.Shown.{ShownEntry, name_in, named_entries, shown_entry}

-- an entry with its name, which is that of the attribute
unfoldable pub named_head : NamedUnit → EntryHead → Option AttrView → Result ShownEntry Fault
named_head u head attr = do
  name ← name_in (sections_view u.sections) u.header u.bases attr
  Ok (record { unit = u.number; place = head.place; depth = head.depth; tag = head.tag; name = name })

-- the entries of a unit with their names
abbrev pub named_in : NamedUnit → List entries.EntryView → Result (List ShownEntry) Fault
named_in u taken = named_entries (sections_view u.sections) u.number u.header u.bases taken

-- what is shown where nothing was refused
abbrev pub unless_refused : Option Fault → List ShownEntry → Result (List ShownEntry) Fault
unless_refused None shown = Ok shown
unless_refused (Some fault) shown = Err fault

-- the entries so far with their names, or the first refusal of a name
abbrev pub shown_so_far : NamedEntries → Result (List ShownEntry) Fault
shown_so_far n = unless_refused n.refused (map shown_entry n.views.items)

-- entries behind others; the first refusal is the answer
abbrev pub shown_behind : Result (List ShownEntry) Fault → Result (List ShownEntry) Fault
    → Result (List ShownEntry) Fault
shown_behind shown more = do
  first ← shown
  others ← more
  Ok (first ++ others)

-- Entries were taken: they stand behind those that were there, with their names.
pub record TookNamed (old new : NamedEntries) (taken : List entries.EntryView) : Type 0 where
  pub unit : new.unit ≡ old.unit
  pub shown : shown_so_far new ≡ shown_behind (shown_so_far old) (named_in old.unit taken)

-- An entry was begun: its head is kept, and the first of its attributes that names it.
pub record BeganNamed (old new : NamedEntries) (e : entries.EntryView) : Type 0 where
  pub unit : new.unit ≡ old.unit
  pub shown : shown_so_far new ≡ shown_so_far old
  pub place : new.head.place ≡ e.place
  pub depth : new.head.depth ≡ e.depth
  pub tag : new.head.tag ≡ e.tag
  pub name : option_map attr_view new.name ≡ find (λ (a : AttrView). a.name == NAME) e.attrs
