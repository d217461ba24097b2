use Rattle.std.proofs.Common.{◌≡◌, ◌≤◌, ◌<◌, sym, subst, ◌∙◌, arith}
use Rattle.map_core.specs.declared.layout.Layout.{Layout}
use Rattle.map_core.specs.declared.view.View.{View}
use Rattle.map_core.proofs.PlaceLemmas.{up_to_last}
use Rattle.map_cells.proofs.WordSteps.{last_low}
use Rattle.map_cells.proofs.WalkLemmas.{walks_then, closed_here, upto_starts, upto_goes, upto_closed, upto_ends}
use Rattle.map_cells.proofs.cells.Cells.seek_from.Goals as goal

pub loop-here-init : goal.loop-here-init
loop-here-init g c =
    let v : View = c.args.pass.now.knows in
    (c.requires.of, upto_starts g.F.Facts.fits c.args.generation c.args.key c.requires.key v c.recall.ensures (c.recall.ensures.currents c.args.generation c.requires.current).1)

pub loop-here-preserved : goal.loop-here-preserved
loop-here-preserved g c =
    let v : View = c.args.pass.now.knows in
    let u : View = c.loop-here.pass.knows in
    let w : View = c.seek_in.new.pass.knows in
    let at = c.loop-here.invariant.1 in
    let walks = c.in-Closed.ensures.walk in
    let same : c.layout.result.now ≡ w.layout = c.layout.ensures ∙ (sym c.requires.of.layout ∙ (sym at.walks.looks.steps.layout ∙ sym walks.looks.steps.layout)) in
    let le : c.loop-here.here ≤ w.layout.last = subst (λ (l : Layout). c.loop-here.here ≤ l.last) same c.loop-here-test.true in
    (c.seek_in.ensures.of, upto_goes g.F.Facts.fits c.args.generation c.args.key c.requires.key c.loop-here.here v u w at walks c.in-Closed.ensures.ended le)

pub seek_in-requires-clause-generation : goal.seek_in-requires-clause-generation
seek_in-requires-clause-generation g c =
    up_to_last c.args.self.now.layout c.loop-here.here (subst (λ (l : Layout). c.loop-here.here ≤ l.last) c.layout.ensures c.loop-here-test.true)

pub overflow_add-here : goal.overflow_add-here
overflow_add-here g c =
    let low = last_low c.args.self.now.layout in
    let le : c.loop-here.here ≤ c.args.self.now.layout.last = subst (λ (l : Layout). c.loop-here.here ≤ l.last) c.layout.ensures c.loop-here-test.true in omega arith

pub seek_in-requires-clause-closed : goal.seek_in-requires-clause-closed
seek_in-requires-clause-closed g c =
    upto_closed g.F.Facts.fits c.args.generation c.args.key c.requires.key c.loop-here.here c.args.pass.now.knows c.loop-here.pass.knows c.loop-here.invariant.1 (closed_here c.args.pass.now.knows c.args.generation c.args.key c.requires.current)

pub returns-in-Value-clause-walk : goal.returns-in-Value-clause-walk
returns-in-Value-clause-walk g c = walks_then g.F.Facts.fits c.args.pass.now.knows c.loop-here.pass.knows c.seek_in.new.pass.knows c.loop-here.invariant.1.walks c.in-Value.ensures.walk

pub returns-in-Missing-clause-walk : goal.returns-in-Missing-clause-walk
returns-in-Missing-clause-walk g c = walks_then g.F.Facts.fits c.args.pass.now.knows c.loop-here.pass.knows c.seek_in.new.pass.knows c.loop-here.invariant.1.walks c.in-Missing.ensures.walk

pub returns-clause-none : goal.returns-clause-none
returns-clause-none g c =
    let w : View = c.loop-here.pass.knows in
    let at = c.loop-here.invariant.1 in
    let same : c.layout.result.now ≡ w.layout = c.layout.ensures ∙ (sym c.requires.of.layout ∙ sym at.walks.looks.steps.layout) in
    let more : w.layout.last < c.loop-here.here = subst (λ (l : Layout). l.last < c.loop-here.here) same c.loop-here-test.false in
    upto_ends g.F.Facts.fits c.args.generation c.args.key c.requires.key c.loop-here.here c.args.pass.now.knows w at more c.requires.current
