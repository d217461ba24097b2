use Rattle.std.proofs.Common.{◌≡◌, ◌≤◌, ◌<◌, sym, subst, ◌∙◌, arith}
use Rattle.map_core.specs.declared.layout.Layout.{Layout}
use Rattle.map_core.specs.declared.view.View.{View}
use Rattle.map_core.specs.Places.{Within}
use Rattle.map_core.proofs.PlaceLemmas.{up_to_last}
use Rattle.map_cells.proofs.WordSteps.{last_low}
use Rattle.map_cells.proofs.WalkLemmas.{upto_starts, upto_goes, upto_closed, upto_ends, may_here}
use Rattle.map_cells.proofs.PutLemmas.{new_after, found_after}
use Rattle.map_cells.proofs.cells.Cells.put_from.Goals as goal

pub loop-here-init : goal.loop-here-init
loop-here-init g c =
    let v : View = c.args.pass.now.knows in
    (c.requires.of, upto_starts g.F.Facts.fits c.args.generation c.args.key c.requires.key v c.recall.ensures (subst (λ (l : Layout). Within l c.args.generation) (sym c.requires.of.layout) c.requires.generation).1)

pub loop-here-preserved : goal.loop-here-preserved
loop-here-preserved g c =
    let v : View = c.args.pass.now.knows in
    let u : View = c.loop-here.pass.knows in
    let w : View = c.put_in.new.pass.knows in
    let at = c.loop-here.invariant.1 in
    let walks = c.in-Closed.ensures.put.walks in
    let same : c.layout.result.now ≡ w.layout = c.layout.ensures ∙ (sym c.requires.of.layout ∙ (sym at.walks.looks.steps.layout ∙ sym walks.looks.steps.layout)) in
    let le : c.loop-here.here ≤ w.layout.last = subst (λ (l : Layout). c.loop-here.here ≤ l.last) same c.loop-here-test.true in
    (c.put_in.ensures.of, upto_goes g.F.Facts.fits c.args.generation c.args.key c.requires.key c.loop-here.here v u w at walks c.in-Closed.ensures.put.past le)

pub put_in-requires-clause-generation : goal.put_in-requires-clause-generation
put_in-requires-clause-generation g c =
    up_to_last c.args.self.now.layout c.loop-here.here (subst (λ (l : Layout). c.loop-here.here ≤ l.last) c.layout.ensures c.loop-here-test.true)

pub overflow_add-here : goal.overflow_add-here
overflow_add-here g c =
    let low = last_low c.args.self.now.layout in
    let le : c.loop-here.here ≤ c.args.self.now.layout.last = subst (λ (l : Layout). c.loop-here.here ≤ l.last) c.layout.ensures c.loop-here-test.true in omega arith

pub put_in-requires-clause-may : goal.put_in-requires-clause-may
put_in-requires-clause-may g c = (may_here g.F.Facts.fits c.args.generation c.args.key c.requires.key c.loop-here.here c.args.value c.args.pass.now.knows c.loop-here.pass.knows c.loop-here.invariant.1 c.requires.may).0

pub put_in-requires-clause-settled : goal.put_in-requires-clause-settled
put_in-requires-clause-settled g c = (may_here g.F.Facts.fits c.args.generation c.args.key c.requires.key c.loop-here.here c.args.value c.args.pass.now.knows c.loop-here.pass.knows c.loop-here.invariant.1 c.requires.may).1

pub returns-in-Placed-clause-put : goal.returns-in-Placed-clause-put
returns-in-Placed-clause-put g c =
    let at = c.loop-here.invariant.1 in
    let a = at.walks in
    let v : View = c.args.pass.now.knows in
    let u : View = c.loop-here.pass.knows in
    new_after g.F.Facts.fits c.loop-here.here c.args.key c.args.value v u c.put_in.new.pass.knows a.looks a.uncounted a.counted c.args.generation at.low
    (upto_closed g.F.Facts.fits c.args.generation c.args.key c.requires.key c.loop-here.here v u at) c.in-Placed.ensures.put

pub returns-in-Found-clause-put : goal.returns-in-Found-clause-put
returns-in-Found-clause-put g c =
    let at = c.loop-here.invariant.1 in
    let a = at.walks in
    found_after g.F.Facts.fits c.loop-here.here c.args.key c.args.value c.args.pass.now.knows c.loop-here.pass.knows c.put_in.new.pass.knows a.looks a.uncounted a.counted c.args.generation c.in-Found.found at.low c.in-Found.ensures.put
    (λ e. c.in-Found.ensures.put.walks.claim (a.claim e))

pub returns-clause-put : goal.returns-clause-put
returns-clause-put g c =
    let w : View = c.loop-here.pass.knows in
    let at = c.loop-here.invariant.1 in
    let same : c.layout.result.now ≡ w.layout = c.layout.ensures ∙ (sym c.requires.of.layout ∙ sym at.walks.looks.steps.layout) in
    let more : w.layout.last < c.loop-here.here = subst (λ (l : Layout). l.last < c.loop-here.here) same c.loop-here-test.false in
    record {
      walks = at.walks;
      others = at.full more;
      lacks = upto_ends g.F.Facts.fits c.args.generation c.args.key c.requires.key c.loop-here.here c.args.pass.now.knows w at more;
      full = at.walks.facts.full c.args.key (at.full more);
    }
