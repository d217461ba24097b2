use Rattle.std.proofs.Common.{rules}
use Rattle.elf_sections.specs.Shapes.{sections_view}
use Rattle.visit_queries.specs.Shown.{met_in}
use Rattle.visit_queries.proofs.Reporting.{report_made, report_stopped}
use Rattle.visit_queries.proofs.file_walk.walk.Goals as goal

pub returns-in_err-show_units-clause-report : goal.returns-in_err-show_units-clause-report
returns-in_err-show_units-clause-report g c =
    let stopped = report_stopped (record { state = g.V.Visitor.state c.args.visitor; step = g.V.Visitor.step c.args.visitor; text = g.V.Visitor.text c.args.visitor })
    (met_in (sections_view c.args.sections.now)) (g.V.Visitor.state c.show_units.new.visitor) c.in_err-show_units.field-0.0 c.in_err-show_units.ensures.shown in
    search rules

pub returns-clause-report : goal.returns-clause-report
returns-clause-report g c = (
  g.V.Visitor.text c.show_units.new.visitor (g.V.Visitor.state c.show_units.new.visitor),
  report_made (record { state = g.V.Visitor.state c.args.visitor; step = g.V.Visitor.step c.args.visitor; text = g.V.Visitor.text c.args.visitor })
      (met_in (sections_view c.args.sections.now)) (g.V.Visitor.state c.show_units.new.visitor) _ (g.V.Visitor.text c.show_units.new.visitor)
      c.in_ok-show_units.ensures.shown c.in_ok-show_units.ensures.same_text,
  c.in_ok-tell.ensures.ok,
)
