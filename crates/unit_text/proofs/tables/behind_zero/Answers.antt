use Rattle.std.proofs.Common.{ap, sym, ◌∙◌}
use Rattle.dw_fields.specs.Reading.{uleb_at}
use Rattle.unit_text.proofs.TableLaws.{zero_is_read}
use Rattle.unit_text.proofs.tables.behind_zero.Goals as goal

pub unreachable-requires : goal.unreachable-requires
unreachable-requires c = zero_is_read c.args.section.now c.args.place c.in-Err.field-0 c.requires.zero (ap uleb_at (sym c.new-cut.ensures) ∙ c.in-Err.ensures.field.0)
