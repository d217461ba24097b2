use Rattle.std.proofs.Common.{◌+◌, ◌-◌, ◌∙◌, sym, arith}
use Rattle.elf_sections.specs.Headers.{section_header_of}
use Rattle.elf_sections.specs.Names.{is_out_of_bounds, has_no_name, null_row, row_of}
use Rattle.elf_sections.proofs.First.{first_next, first_here, none_inside}
use Rattle.elf_sections.proofs.Rows.{no_name_here, name_here, row_here, name_refused, rows_more}
use Rattle.elf_sections.proofs.reading.named_sections.Goals as goal

pub returns-in-None : goal.returns-in-None
returns-in-None c =
    name_refused c.args.layout c.args.table c.args.file.now c.args.names.now c.loop-number.number
    (sym c.loop-number.invariant.first
    ∙ first_here (has_no_name c.args.names.now) (section_header_of c.args.layout c.args.table c.args.file.now) c.loop-number.number
    (c.args.table.count - c.loop-number.number) (c.args.table.count - (c.loop-number.number + 1)) (omega arith)
    (no_name_here _ _ _ c.section_header_of-header.ensures c.in-None.ensures))

pub contents_of-requires : goal.contents_of-requires
contents_of-requires c =
    rw c.section_header_of-header.ensures (none_inside (is_out_of_bounds c.args.file.now) (section_header_of c.args.layout c.args.table c.args.file.now)
    (c.args.table.count - 1) 1 c.loop-number.number c.requires.bounds (omega arith) (omega arith))

pub loop-number-preserved : goal.loop-number-preserved
loop-number-preserved c = record {
  first = first_next (has_no_name c.args.names.now) (section_header_of c.args.layout c.args.table c.args.file.now) c.loop-number.number
      (c.args.table.count - c.loop-number.number) (c.args.table.count - (c.loop-number.number + 1)) (omega arith)
      (name_here _ _ _ _ c.section_header_of-header.ensures c.in-Some.ensures)
      ∙ c.loop-number.invariant.first;
  rows = rows_more (row_of c.args.file.now c.args.names.now) (section_header_of c.args.layout c.args.table c.args.file.now) null_row
      c.loop-number.number _ _ _ (omega arith) c.loop-number.invariant.rows c.in_ok-add-2.ensures.added
      (row_here c.args.file.now c.args.names.now _ _ _ _ c.section_header_of-header.ensures c.in-Some.ensures c.contents_of.ensures);
}
