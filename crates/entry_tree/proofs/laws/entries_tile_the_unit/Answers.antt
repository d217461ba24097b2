use Rattle.elf_sections.specs.Shapes.{sections_view}
use Rattle.form_values.specs.View.{widths_of}
use Rattle.entry_tree.specs.Units.{area_of}
use Rattle.entry_tree.proofs.TileLaws.{tile_law}
use Rattle.entry_tree.proofs.laws.entries_tile_the_unit.Goals as goal

pub returns : goal.returns
returns c =
    tile_law (sections_view c.args.sections.now).«abbrev» c.args.header.now.«abbrev» (widths_of c.args.header.now)
    (area_of (sections_view c.args.sections.now) c.args.header.now)
