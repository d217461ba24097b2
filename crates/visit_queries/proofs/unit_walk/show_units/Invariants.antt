use Rattle.std.proofs.Common.{◌≡◌, ◌-◌, ℕ, List}
use Rattle.elf_sections.specs.Shapes.{sections_view}
use Rattle.entry_tree.specs.Keys.{GainsOnly, IsDeclaredKey}
use Rattle.visit_queries.specs.Shown.{ShownEntry, met_in}
use Rattle.visit_queries.proofs.UnitSteps.{GoesOn, met_from}
use Rattle.visit_queries.proofs.unit_walk.show_units.Given as goal

-- what is met from this unit on is seen as all is from the start
abbrev pub invariant-units : goal.invariant-units
invariant-units g l = let step = g.V.Visitor.step l.fn.visitor in record {
  shown : GoesOn step (met_from (sections_view l.sections) l.unit (l.unit-end - l.unit)) (met_in (sections_view l.sections))
      (g.V.Visitor.state l.visitor) (g.V.Visitor.state l.fn.visitor);
  same_step : (entry : ShownEntry) (s : List ℕ) → g.V.Visitor.step l.visitor entry s ≡ step entry s;
  same_text : (s : List ℕ) → g.V.Visitor.text l.visitor s ≡ g.V.Visitor.text l.fn.visitor s;
  follows : g.D.Decls.follows l.fn.decls l.decls;
  placed : GainsOnly (IsDeclaredKey (g.D.Decls.section l.fn.decls)) (g.D.Decls.placed l.fn.decls) (g.D.Decls.placed l.decls);
}
