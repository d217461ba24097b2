use Rattle.std.proofs.Common.{◌+◌, ◌-◌, ◌∙◌, arith, rules}
use Rattle.abbrev_decl.specs.Lookup.{LeavesSource}
use Rattle.elf_sections.specs.Shapes.{sections_view}
use Rattle.visit_queries.specs.Shown.{met_in, met_in_unit}
use Rattle.visit_queries.proofs.DeclaredKeys.{units_declared}
use Rattle.visit_queries.proofs.UnitSteps.{met_first, met_from, shown_enough, shown_more, shown_stop}
use Rattle.visit_queries.proofs.unit_walk.show_units.Goals as goal

pub returns-in-Ok-Enough-clause-shown : goal.returns-in-Ok-Enough-clause-shown
returns-in-Ok-Enough-clause-shown g c =
    shown_enough (g.V.Visitor.step c.args.visitor.now) (g.V.Visitor.step c.units.visitor) c.units.invariant.same_step
    (met_in_unit (sections_view c.args.sections.now) c.units.unit) (met_from (sections_view c.args.sections.now) (c.units.unit + 1) (c.count-unit-end.result - (c.units.unit + 1)))
    (met_from (sections_view c.args.sections.now) c.units.unit (c.count-unit-end.result - c.units.unit)) (met_in (sections_view c.args.sections.now))
    (met_first (sections_view c.args.sections.now) c.units.unit (c.count-unit-end.result - c.units.unit) (c.count-unit-end.result - (c.units.unit + 1)) (omega arith))
    (g.V.Visitor.state c.units.visitor) (g.V.Visitor.state c.show_unit.new.visitor) (g.V.Visitor.state c.args.visitor.now) c.units.invariant.shown
    c.in-Ok-Enough.field-0 c.in-Ok-Enough.field-0-is c.in-Ok-Enough.ensures.shown

pub returns-in-Ok-Enough-clause-placed : goal.returns-in-Ok-Enough-clause-placed
returns-in-Ok-Enough-clause-placed g c =
    let left : LeavesSource (g.D.Decls.section c.args.decls.now) (g.D.Decls.section c.units.decls)
    (g.D.Decls.seen c.args.decls.now) (g.D.Decls.seen c.units.decls) (g.D.Decls.spent c.args.decls.now) (g.D.Decls.spent c.units.decls)
    = let p = c.units.invariant.follows in search rules in
    units_declared (g.D.Decls.section c.args.decls.now) (g.D.Decls.section c.units.decls) (g.D.Decls.placed c.args.decls.now) (g.D.Decls.placed c.units.decls)
    (g.D.Decls.placed c.show_unit.new.decls) left.kept c.units.invariant.placed c.in-Ok-Enough.ensures.placed

pub returns-in-Err-clause-shown : goal.returns-in-Err-clause-shown
returns-in-Err-clause-shown g c =
    shown_stop (g.V.Visitor.step c.args.visitor.now) (g.V.Visitor.step c.units.visitor) c.units.invariant.same_step
    (met_in_unit (sections_view c.args.sections.now) c.units.unit) (met_from (sections_view c.args.sections.now) (c.units.unit + 1) (c.count-unit-end.result - (c.units.unit + 1)))
    (met_from (sections_view c.args.sections.now) c.units.unit (c.count-unit-end.result - c.units.unit)) (met_in (sections_view c.args.sections.now))
    (met_first (sections_view c.args.sections.now) c.units.unit (c.count-unit-end.result - c.units.unit) (c.count-unit-end.result - (c.units.unit + 1)) (omega arith))
    (g.V.Visitor.state c.units.visitor) (g.V.Visitor.state c.show_unit.new.visitor) (g.V.Visitor.state c.args.visitor.now) c.units.invariant.shown
    c.in-Err.stop c.in-Err.ensures.shown

pub returns-in-Err-clause-placed : goal.returns-in-Err-clause-placed
returns-in-Err-clause-placed g c =
    let left : LeavesSource (g.D.Decls.section c.args.decls.now) (g.D.Decls.section c.units.decls)
    (g.D.Decls.seen c.args.decls.now) (g.D.Decls.seen c.units.decls) (g.D.Decls.spent c.args.decls.now) (g.D.Decls.spent c.units.decls)
    = let p = c.units.invariant.follows in search rules in
    units_declared (g.D.Decls.section c.args.decls.now) (g.D.Decls.section c.units.decls) (g.D.Decls.placed c.args.decls.now) (g.D.Decls.placed c.units.decls)
    (g.D.Decls.placed c.show_unit.new.decls) left.kept c.units.invariant.placed c.in-Err.ensures.placed

pub units-preserved : goal.units-preserved
units-preserved g c =
    let left : LeavesSource (g.D.Decls.section c.args.decls.now) (g.D.Decls.section c.units.decls)
    (g.D.Decls.seen c.args.decls.now) (g.D.Decls.seen c.units.decls) (g.D.Decls.spent c.args.decls.now) (g.D.Decls.spent c.units.decls)
    = let p = c.units.invariant.follows in search rules in
    record {
      shown = shown_more (g.V.Visitor.step c.args.visitor.now) (g.V.Visitor.step c.units.visitor) c.units.invariant.same_step
          (met_in_unit (sections_view c.args.sections.now) c.units.unit) (met_from (sections_view c.args.sections.now) (c.units.unit + 1) (c.count-unit-end.result - (c.units.unit + 1)))
          (met_from (sections_view c.args.sections.now) c.units.unit (c.count-unit-end.result - c.units.unit)) (met_in (sections_view c.args.sections.now))
          (met_first (sections_view c.args.sections.now) c.units.unit (c.count-unit-end.result - c.units.unit) (c.count-unit-end.result - (c.units.unit + 1)) (omega arith))
          (g.V.Visitor.state c.units.visitor) (g.V.Visitor.state c.show_unit.new.visitor) (g.V.Visitor.state c.args.visitor.now) c.units.invariant.shown
          c.in-Ok-More.field-0 c.in-Ok-More.field-0-is c.in-Ok-More.ensures.shown;
      same_step = λ e s. c.in-Ok-More.ensures.same_step e s ∙ c.units.invariant.same_step e s;
      same_text = λ s. c.in-Ok-More.ensures.same_text s ∙ c.units.invariant.same_text s;
      follows = let p = c.units.invariant.follows in let q = c.in-Ok-More.ensures.follows in search rules;
      placed = units_declared (g.D.Decls.section c.args.decls.now) (g.D.Decls.section c.units.decls) (g.D.Decls.placed c.args.decls.now)
          (g.D.Decls.placed c.units.decls) (g.D.Decls.placed c.show_unit.new.decls) left.kept c.units.invariant.placed c.in-Ok-More.ensures.placed;
    }
