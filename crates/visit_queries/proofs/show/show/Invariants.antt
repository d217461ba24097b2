use Rattle.std.proofs.Common.{◌≡◌, ◌++◌, ℕ, List, map, drop}
use Rattle.visit_queries.specs.Shown.{ShownEntry, Met, met_shown, shown_entry}
use Rattle.visit_queries.specs.Seen.{seen_by}
use Rattle.visit_queries.proofs.show.show.Given as goal

-- the entries that are left are seen from here on as all are from the start
abbrev pub invariant-loop-entry : goal.invariant-loop-entry
invariant-loop-entry g l = let step = g.V.Visitor.step l.fn.visitor in record {
  shown : (others : List Met) → seen_by step (met_shown (map shown_entry (drop l.entry-index l.entries)) ++ others) (g.V.Visitor.state l.visitor)
      ≡ seen_by step (met_shown (map shown_entry l.entries) ++ others) (g.V.Visitor.state l.fn.visitor);
  same_step : (entry : ShownEntry) (s : List ℕ) → g.V.Visitor.step l.visitor entry s ≡ step entry s;
  same_text : (s : List ℕ) → g.V.Visitor.text l.visitor s ≡ g.V.Visitor.text l.fn.visitor s;
}
