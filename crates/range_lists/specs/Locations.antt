-- Location lists (DWARF 5, section 2.6.2; DWARF 4, section 2.6.2).
use Rattle.std.specs.Prelude.{ℕ, List, Option, Some, None, Result, Ok, if◌then◌else◌, unwrap_or}
use Rattle.dw_fields.specs.declared.fault_code.Fault.{Fault}
use Rattle.dw_fields.specs.Span.{at}
use Rattle.dw_fields.specs.Reading.{Reader, ◌>>=◌, bytes_at, number_at}
use Rattle.elf_sections.specs.Shapes.{SectionsView}
use Rattle.form_values.specs.declared.raw.UnitFacts.{UnitFacts}
use Rattle.range_lists.specs.declared.bounds.Range.{Range}
use Rattle.range_lists.specs.declared.operands.Operands.{Operands}
use Rattle.range_lists.specs.declared.operands.Operands.TheVariants.{End, Base, Bounds}
use Rattle.range_lists.specs.declared.locations.Location.{Location}
use Rattle.range_lists.specs.declared.list_step.ListStep.{ListStep}
use Rattle.range_lists.specs.Kinds.{location_kind}
use Rattle.range_lists.specs.Context.{Context, context, has_pairs}
use Rattle.range_lists.specs.Entry.{entry_operands_at}
use Rattle.range_lists.specs.Operands.{in_list, number_operand_at}
use Rattle.range_lists.specs.ListSteps.{list_at, span_from, needed_section}

-- a location, without where its expression lies; no range is the default location
pub record LocationView : Type 0 where
  pub range : Option Range
  pub expression : List ℕ

abbrev pub location_view : Location → LocationView
location_view l = record { range = l.range; expression = l.expression.now }

-- the number of an expression's bytes: of 2 bytes in version 4
unfoldable pub count_at : Context → Reader ℕ
count_at c s = if has_pairs c.version then in_list (number_at 2 s) else number_operand_at s

-- a count and that many bytes
unfoldable pub expression_at : Context → Reader (List ℕ)
expression_at c s = do
  count ← count_at c s
  in_list (bytes_at count.0 (at s count.1))

-- what an entry with these operands leaves, where the base was `base`: behind bounds stands the
-- expression
unfoldable pub located : Context → ℕ → Operands → Reader (Option (ListStep LocationView))
located c base End s = Ok (None, s.place)
located c base (Base address) s = Ok (Some (record { base = address; listed = None }), s.place)
located c base (Bounds range) s = do
  expression ← expression_at c s
  Ok (
    Some (record {
      base = base;
      listed = Some (record { range = range; expression = expression.0 });
    }),
    expression.1,
  )

-- one entry; none is the end of the list
unfoldable pub location_entry_at : Context → ℕ → Reader (Option (ListStep LocationView))
location_entry_at c base s = do
  operands ← entry_operands_at location_kind c base s
  located c base operands.0 (at s operands.1)

-- .debug_loc in version 4, else .debug_loclists
unfoldable pub location_section : SectionsView → ℕ → Option (List ℕ)
location_section sections version =
    if has_pairs version then sections.locations else sections.location_lists

-- The location list at an offset of the section of its unit's version, or the first refusal in the
-- order of reading.
unfoldable pub locations_of : SectionsView → ℕ → ℕ → UnitFacts → ℕ
    → Result (List LocationView) Fault
locations_of sections version size facts offset = do
  section ← needed_section (location_section sections version)
  list_at (location_entry_at (context sections version size facts.bases))
      (unwrap_or facts.low_pc 0) (span_from section sections.order offset)
