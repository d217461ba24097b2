use Rattle.std.proofs.Common.{◌∙◌}
use Rattle.address_lookup.proofs.Gathering.{added_some, both_ok, gathered_by}
use Rattle.address_lookup.proofs.tables.Tables.add.Goals as goal

pub returns-in-Some-clause-gathered : goal.returns-in-Some-clause-gathered
returns-in-Some-clause-gathered c =
    both_ok c.keep.result c.keep.ensures.units c.keep.ensures.rows
    (λ units rows. gathered_by c.args.unit c.args.program.now c.args.self.now c.keep.new.self c.in-Some.table c.note.new.programs c.key.result c.in_ok-note.field-0
    c.requires.gathered c.in_ok-note.ensures c.key.ensures c.keep.ensures.programs (c.keep.ensures.texts ∙ c.find_table.ensures.texts) units rows
    (added_some c.args.unit c.args.program.now c.args.self.now c.keep.new.self c.in-Some.table c.in_ok-table.field-0 c.in-Some.is c.requires.gathered.sizes units rows
    c.in_ok-table.ensures.number c.in_ok-table.ensures.files c.in_ok-table.ensures.table))

pub returns-in-Some-clause-added : goal.returns-in-Some-clause-added
returns-in-Some-clause-added c =
    both_ok c.keep.result c.keep.ensures.units c.keep.ensures.rows
    (λ units rows. added_some c.args.unit c.args.program.now c.args.self.now c.keep.new.self c.in-Some.table c.in_ok-table.field-0 c.in-Some.is c.requires.gathered.sizes units rows
    c.in_ok-table.ensures.number c.in_ok-table.ensures.files c.in_ok-table.ensures.table)
