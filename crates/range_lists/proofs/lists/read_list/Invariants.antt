use Rattle.std.proofs.Common.{◌≡◌, ◌-◌, map}
use Rattle.dw_fields.specs.Walk.{ahead}
use Rattle.range_lists.specs.Context.{context_view}
use Rattle.range_lists.specs.ListSteps.{list_from}
use Rattle.range_lists.proofs.lists.read_list.Given as goal

abbrev pub invariant-loop-turn : goal.invariant-loop-turn
invariant-loop-turn g l = record {
  ends : l.cut.end ≡ l.fn.cut.end;
  rest : ahead (map g.E.Listed.view l.list.items) (list_from (g.E.Listed.entry_at (context_view l.unit)) (l.fn.cut.end - l.fn.cut.place - l._turn) l.base l.cut)
      ≡ list_from (g.E.Listed.entry_at (context_view l.unit)) (l.fn.cut.end - l.fn.cut.place) l.fn.start l.fn.cut;
}
