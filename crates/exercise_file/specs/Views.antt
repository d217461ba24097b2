-- What readers find in the generated file.
use Rattle.std.specs.Prelude.{ℕ, Some, None}
use Rattle.dw_fields.specs.declared.byte_order.Order.TheVariants.{Little}
use Rattle.elf_sections.specs.Shapes.{SectionsView}
use Rattle.exercise_file.specs.Generated.{declarations, info, names, range_lists, texts}

-- its sections with debugging data
abbrev pub generated_sections : ℕ → SectionsView
generated_sections units = record {
  order = Little;
  info = info units;
  «abbrev» = declarations units;
  text = Some texts;
  line_text = Some (names units);
  text_offsets = None;
  address = None;
  range_lists = Some (range_lists units);
  location_lists = None;
  line = None;
  ranges = None;
  locations = None;
  frame = None;
}
