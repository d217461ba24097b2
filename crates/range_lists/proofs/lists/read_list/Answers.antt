use Rattle.std.proofs.Common.{◌-◌, ◌+◌, Ok, Err, map, sym, ap, ◌∙◌, arith}
use Rattle.std.specs.Prelude.{option_map}
use Rattle.dw_fields.specs.declared.fault_code.Code.TheVariants.{ListUnended}
use Rattle.dw_fields.specs.Codes.{fault}
use Rattle.dw_fields.specs.Span.{Span}
use Rattle.range_lists.specs.Context.{context_view}
use Rattle.range_lists.specs.ListSteps.{step_view}
use Rattle.range_lists.proofs.Steps.{list_next, list_fails, list_ends, list_stops, seen_more}
use Rattle.range_lists.proofs.lists.read_list.Goals as goal

pub returns-in-Err : goal.returns-in-Err
returns-in-Err g c =
    sym c.loop-turn.invariant.rest
    ∙ list_fails (g.E.Listed.entry_at (context_view c.args.unit.now)) _ (c.args.cut.end - c.args.cut.place - (c.loop-turn._turn + 1)) c.loop-turn.base c.loop-turn.cut (map g.E.Listed.view c.loop-turn.list.items) c.in-Err.fault
    (omega (arith, c.loop-turn-test.true, c.left-turn-end.ensures)) c.in-Err.ensures

pub returns-in_default : goal.returns-in_default
returns-in_default g c =
    sym c.loop-turn.invariant.rest
    ∙ list_ends (g.E.Listed.entry_at (context_view c.args.unit.now)) _ (c.args.cut.end - c.args.cut.place - (c.loop-turn._turn + 1)) c.loop-turn.base c.loop-turn.cut (map g.E.Listed.view c.loop-turn.list.items) _
    (omega (arith, c.loop-turn-test.true, c.left-turn-end.ensures))
    (c.in-Ok.ensures.0 ∙ ap (λ found. Ok (option_map (step_view g.E.Listed.view) found, c.read_entry.new.cut.place)) c.in_default.is)

pub loop-turn-preserved : goal.loop-turn-preserved
loop-turn-preserved g c =
    record {
      ends = ap (λ (s : Span). s.end) c.in-Ok.ensures.1 ∙ c.loop-turn.invariant.ends;
      rest =
          list_next (g.E.Listed.entry_at (context_view c.args.unit.now)) _ (c.args.cut.end - c.args.cut.place - (c.loop-turn._turn + 1)) c.loop-turn.base c.loop-turn.cut c.read_entry.new.cut (map g.E.Listed.view c.loop-turn.list.items) (map g.E.Listed.view c.add.new.list.items) (step_view g.E.Listed.view c.in-Some.turn)
          (omega (arith, c.loop-turn-test.true, c.left-turn-end.ensures))
          (c.in-Ok.ensures.0 ∙ ap (λ found. Ok (option_map (step_view g.E.Listed.view) found, c.read_entry.new.cut.place)) c.in-Some.is)
          c.in-Ok.ensures.1 (seen_more g.E.Listed.view _ _ _ c.in-Ok-add.ensures)
          ∙ c.loop-turn.invariant.rest;
    }

pub returns : goal.returns
returns g c =
    sym c.loop-turn.invariant.rest
    ∙ list_stops (g.E.Listed.entry_at (context_view c.args.unit.now)) _ c.loop-turn.base c.loop-turn.cut (map g.E.Listed.view c.loop-turn.list.items)
    (omega (arith, c.loop-turn-test.false, c.left-turn-end.ensures))
    ∙ ap (λ place. Err (fault ListUnended place)) (c.loop-turn.invariant.ends ∙ sym c.end-end.ensures.value)
    ∙ ap (λ refusal. Err refusal) (sym c.at.ensures)
