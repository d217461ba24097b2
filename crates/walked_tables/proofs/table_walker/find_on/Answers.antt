use Rattle.std.proofs.Common.{List, ℕ, ◌<◌, arith, ap, sym, length, ◌∙◌}
use Rattle.abbrev_decl.specs.Lookup.{first_declaration}
use Rattle.walked_tables.proofs.table_walker.find_on.Goals as goal

pub returns-in-Ok-false-clause-answer : goal.returns-in-Ok-false-clause-answer
returns-in-Ok-false-clause-answer g c =
    let same = c.in-Ok-false.ensures.no_more c.in-Ok-false.field-0-test in
    let past : length c.read_next.new.walked.places.items < c.args.code = omega (arith, same, c.loop-walked-test.true, c.len.ensures, c.loop-walked.walked.places.ok.0) in
    c.find.ensures.answer
    ∙ ap (λ (section : List ℕ). first_declaration section c.read_next.new.walked.next c.args.code) c.new-scanner.ensures
    ∙ sym (c.in-Ok-false.ensures.walked.others c.args.code past)
    ∙ ap (λ (table : ℕ). first_declaration c.args.section.now table c.args.code) (c.in-Ok-false.ensures.table ∙ c.loop-walked.invariant.table)
