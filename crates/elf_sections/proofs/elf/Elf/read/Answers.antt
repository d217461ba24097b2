use Rattle.elf_sections.specs.Laws.{rows_short}
use Rattle.elf_sections.proofs.elf.Elf.read.Goals as goal

pub invariant_of-result-2 : goal.invariant_of-result-2
invariant_of-result-2 c =
    rows_short c.in_ok-layout.layout c.in_ok-table.table c.args.file.now _
    c.in_ok-layout.ensures.most c.in_ok-read_sections.ensures

pub returns-clause-short : goal.returns-clause-short
returns-clause-short c =
    rows_short c.in_ok-layout.layout c.in_ok-table.table c.args.file.now _
    c.in_ok-layout.ensures.most c.in_ok-read_sections.ensures
