-- What the root of a unit says of the unit (DWARF 5 section 3.1.1).
use Rattle.std.specs.Prelude.{ℕ, ◌==◌, ◌^◌, ◌<◌, ◌≤◌, IfSome, min, List, [], ◌∷◌, Option, Some, None, Result, Ok, Err, if◌then◌else◌}
use Rattle.std.specs.Result.{result_ok}
use Rattle.dw_fields.specs.declared.fault_code.Fault.{Fault}
use Rattle.elf_sections.specs.Shapes.{SectionsView}
use Rattle.dw_numbers.specs.declared.attribute.TheConstants.{STR_OFFSETS_BASE, ADDR_BASE, RNGLISTS_BASE, LOCLISTS_BASE, LOW_PC, STMT_LIST}
use Rattle.form_values.specs.declared.raw.Bases.{Bases}
use Rattle.form_values.specs.declared.raw.UnitFacts.{UnitFacts}
use Rattle.form_values.specs.View.{RawView, Unsigned, Offset, is_address}
use Rattle.form_values.specs.Resolved.{address_of}
use Rattle.entry_tree.specs.Views.{AttrView, EntryView}

-- the value of the first attribute of that name
abbrev pub first_named : ℕ → List AttrView → Option RawView
first_named name [] = None
first_named name (a ∷ attrs) = if a.name == name then Some a.raw else first_named name attrs

-- the values from which the facts are taken
pub record RootValuesView : Type 0 where
  pub text : Option RawView
  pub address : Option RawView
  pub ranges : Option RawView
  pub locations : Option RawView
  pub low_pc : Option RawView
  pub line : Option RawView

-- DW_AT_str_offsets_base, DW_AT_addr_base, DW_AT_rnglists_base, DW_AT_loclists_base, DW_AT_low_pc and
-- DW_AT_stmt_list: of each the first
abbrev pub root_values_in : List AttrView → RootValuesView
root_values_in attrs = record {
  text = first_named STR_OFFSETS_BASE attrs;
  address = first_named ADDR_BASE attrs;
  ranges = first_named RNGLISTS_BASE attrs;
  locations = first_named LOCLISTS_BASE attrs;
  low_pc = first_named LOW_PC attrs;
  line = first_named STMT_LIST attrs;
}

-- An offset into a section, at most 2^40, which lies past every section; none of another kind of value.
unfoldable pub base_of : Option RawView → Option ℕ
base_of (Some (Offset n)) = Some (min n (2 ^ 40))
base_of (Some (Unsigned n)) = Some (min n (2 ^ 40))
base_of _ = None

unfoldable pub bases_of : RootValuesView → Bases
bases_of values = record {
  text = base_of values.text;
  address = base_of values.address;
  ranges = base_of values.ranges;
  locations = base_of values.locations;
}

-- an address, if the value is one that can be resolved
unfoldable pub low_pc_of : Option RawView → ℕ → SectionsView → Bases → Option ℕ
low_pc_of (Some raw) size sections bases =
    if is_address raw then result_ok (address_of raw size sections bases) else None
low_pc_of None size sections bases = None

-- the facts that the root's values tell, with the place behind the root
unfoldable pub facts_of_values : RootValuesView → ℕ → ℕ → SectionsView → UnitFacts
facts_of_values values end size sections = record {
  bases = bases_of values;
  low_pc = low_pc_of values.low_pc size sections (bases_of values);
  line = base_of values.line;
  root_end = Some end;
}

-- the facts of a unit without a root
abbrev pub no_facts : UnitFacts
no_facts =
    record {
      bases = record { text = None; address = None; ranges = None; locations = None };
      low_pc = None;
      line = None;
      root_end = None;
    }

abbrev pub facts_from : ℕ → SectionsView → Result (Option (EntryView × ℕ)) Fault
    → Result UnitFacts Fault
facts_from size sections (Ok (Some root)) =
    Ok (facts_of_values (root_values_in root.0.attrs) root.1 size sections)
facts_from size sections (Ok None) = Ok no_facts
facts_from size sections (Err f) = Err f

-- Bases and facts are small: a base is a place of at most 2^40.
abbrev pub IsBase : Option ℕ → Type 0
IsBase base = IfSome base (λ n. n ≤ 2 ^ 40)

pub record BasesFit (bases : Bases) : Type 0 where
  pub text : IsBase bases.text
  pub address : IsBase bases.address
  pub ranges : IsBase bases.ranges
  pub locations : IsBase bases.locations

pub record FactsFit (end : ℕ) (facts : UnitFacts) : Type 0 where
  pub bases : BasesFit facts.bases
  pub low_pc : IfSome facts.low_pc (λ n. n < 2 ^ 64)
  pub line : IsBase facts.line
  pub root_end : IfSome facts.root_end (λ n. n ≤ end)
