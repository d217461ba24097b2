-- Range lists (DWARF 5, section 2.17.3; DWARF 4, section 2.17.3).
use Rattle.std.specs.Prelude.{ℕ, List, Option, Some, None, Result, Ok, if◌then◌else◌, unwrap_or}
use Rattle.dw_fields.specs.declared.fault_code.Fault.{Fault}
use Rattle.dw_fields.specs.Reading.{Reader, ◌>>=◌}
use Rattle.elf_sections.specs.Shapes.{SectionsView}
use Rattle.form_values.specs.declared.raw.UnitFacts.{UnitFacts}
use Rattle.range_lists.specs.declared.bounds.Range.{Range}
use Rattle.range_lists.specs.declared.operands.Operands.{Operands}
use Rattle.range_lists.specs.declared.operands.Operands.TheVariants.{End, Base, Bounds}
use Rattle.range_lists.specs.declared.list_step.ListStep.{ListStep}
use Rattle.range_lists.specs.Kinds.{range_kind}
use Rattle.range_lists.specs.Context.{Context, context, has_pairs}
use Rattle.range_lists.specs.Entry.{entry_operands_at}
use Rattle.range_lists.specs.ListSteps.{list_at, span_from, needed_section}

-- what an entry with these operands leaves, where the base was `base`
abbrev pub step_behind : ℕ → Operands → Option (ListStep Range)
step_behind base End = None
step_behind base (Base address) = Some (record { base = address; listed = None })
step_behind base (Bounds range) = Some (record { base = base; listed = range })

-- one entry; none is the end of the list
unfoldable pub range_entry_at : Context → ℕ → Reader (Option (ListStep Range))
range_entry_at c base s = do
  operands ← entry_operands_at range_kind c base s
  Ok (step_behind base operands.0, operands.1)

-- .debug_ranges in version 4, else .debug_rnglists
unfoldable pub range_section : SectionsView → ℕ → Option (List ℕ)
range_section sections version =
    if has_pairs version then sections.ranges else sections.range_lists

-- The range list at an offset of the section of its unit's version, or the first refusal in the order
-- of reading. The unit's lowest address is the first base, or 0 where it has none.
unfoldable pub ranges_of : SectionsView → ℕ → ℕ → UnitFacts → ℕ → Result (List Range) Fault
ranges_of sections version size facts offset = do
  section ← needed_section (range_section sections version)
  list_at (range_entry_at (context sections version size facts.bases)) (unwrap_or facts.low_pc 0)
      (span_from section sections.order offset)
