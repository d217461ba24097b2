use Rattle.elf_sections.specs.Shapes.{sections_view}
use Rattle.visit_queries.proofs.UnitSteps.{unit_refused}
use Rattle.visit_queries.proofs.unit_walk.show_unit.Goals as goal

pub returns-in-Err-clause-shown : goal.returns-in-Err-clause-shown
returns-in-Err-clause-shown g c = rw c.stop_in.ensures
    (unit_refused (g.V.Visitor.step c.args.visitor.now) (sections_view c.args.sections.now) c.args.unit c.in-Err.refusal (g.V.Visitor.state c.args.visitor.now)
    c.in-Err.ensures.entries)
