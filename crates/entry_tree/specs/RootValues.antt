-- How the values of a root's attributes are gathered, one attribute after another.
use Rattle.std.specs.Prelude.{ℕ, ◌==◌, List, Option, Some, None, option_map, Result, Ok, Err, if◌then◌else◌}
use Rattle.dw_fields.specs.declared.fault_code.Fault.{Fault}
use Rattle.dw_numbers.specs.declared.attribute.TheConstants.{STR_OFFSETS_BASE, ADDR_BASE, RNGLISTS_BASE, LOCLISTS_BASE, LOW_PC, STMT_LIST}
use Rattle.form_values.specs.View.{RawView, raw_view}
use Rattle.entry_tree.specs.declared.root_values.RootValues.{RootValues}
use Rattle.entry_tree.specs.Views.{AttrView, EntryView}
use Rattle.entry_tree.specs.Facts.{RootValuesView, first_named, root_values_in}

abbrev pub root_values_view : RootValues → RootValuesView
root_values_view t = record {
  text = option_map raw_view t.text;
  address = option_map raw_view t.address;
  ranges = option_map raw_view t.ranges;
  locations = option_map raw_view t.locations;
  low_pc = option_map raw_view t.low_pc;
  line = option_map raw_view t.line;
}

-- the first of the two that is there
abbrev pub or_else : Option RawView → Option RawView → Option RawView
or_else (Some raw) other = Some raw
or_else None other = other

-- a value that was gathered, or that of the next attribute, if this has the name
abbrev pub first_value : ℕ → Option RawView → AttrView → Option RawView
first_value name (Some raw) a = Some raw
first_value name None a = if a.name == name then Some a.raw else None

unfoldable pub values_with : RootValuesView → AttrView → RootValuesView
values_with values a = record {
  text = first_value STR_OFFSETS_BASE values.text a;
  address = first_value ADDR_BASE values.address a;
  ranges = first_value RNGLISTS_BASE values.ranges a;
  locations = first_value LOCLISTS_BASE values.locations a;
  low_pc = first_value LOW_PC values.low_pc a;
  line = first_value STMT_LIST values.line a;
}

abbrev pub values_then : RootValuesView → List AttrView → RootValuesView
values_then values attrs = record {
  text = or_else values.text (first_named STR_OFFSETS_BASE attrs);
  address = or_else values.address (first_named ADDR_BASE attrs);
  ranges = or_else values.ranges (first_named RNGLISTS_BASE attrs);
  locations = or_else values.locations (first_named LOCLISTS_BASE attrs);
  low_pc = or_else values.low_pc (first_named LOW_PC attrs);
  line = or_else values.line (first_named STMT_LIST attrs);
}

-- what was gathered, and what the attributes that are left add to it
abbrev pub gathered_with : RootValuesView → Result (List AttrView × ℕ) Fault
    → Result (RootValuesView × ℕ) Fault
gathered_with values (Ok read) = Ok (values_then values read.0, read.1)
gathered_with values (Err f) = Err f

abbrev pub no_values : RootValuesView
no_values =
    record {
      text = None;
      address = None;
      ranges = None;
      locations = None;
      low_pc = None;
      line = None;
    }

-- what an entry tells
abbrev pub values_of_entry : {X : Type 0} → Result ((X × EntryView) × ℕ) Fault
    → Result (RootValuesView × ℕ) Fault
values_of_entry (Ok read) = Ok (root_values_in read.0.1.attrs, read.1)
values_of_entry (Err f) = Err f
