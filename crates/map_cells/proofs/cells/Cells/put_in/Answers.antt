use Rattle.std.proofs.Common.{◌≤◌, ◌<◌, ℕ, sym, subst, arith}
use Rattle.map_core.specs.declared.view.View.{View}
use Rattle.map_core.specs.Sizes.{cells_of}
use Rattle.map_cells.proofs.WordSteps.{within_low}
use Rattle.map_cells.proofs.WalkLemmas.{walks_then, closed_more, settled_more, may_more, walk_starts, walk_goes, walk_cell, walk_reaches, walk_next, walk_past, shut_past}
use Rattle.map_cells.proofs.PutLemmas.{new_after, found_after}
use Rattle.map_cells.proofs.cells.Cells.put_in.Goals as goal

pub home-index-requires : goal.home-index-requires
home-index-requires g c = within_low c.args.self.now.layout c.args.generation c.requires.generation

pub loop-steps-init : goal.loop-steps-init
loop-steps-init g c =
    let low = within_low c.args.self.now.layout c.args.generation c.requires.generation in
    (c.requires.of, walk_starts g.F.Facts.fits c.args.generation c.args.key c.home-index.result c.args.pass.now.knows c.recall.ensures low c.home-index.ensures)

pub next-index-requires : goal.next-index-requires
next-index-requires g c =
    let cell = walk_cell g.F.Facts.fits c.args.generation c.args.key c.loop-steps.steps c.loop-steps.index c.args.pass.now.knows c.loop-steps.pass.knows c.args.self.now.layout c.loop-steps.invariant.1 c.requires.generation in
    subst (λ (n : ℕ). c.loop-steps.index < n) (sym c.cells-cells.ensures) cell.1

pub loop-steps-preserved : goal.loop-steps-preserved
loop-steps-preserved g c =
    let v : View = c.args.pass.now.knows in
    let u : View = c.loop-steps.pass.knows in
    let w : View = c.put_at.new.pass.knows in
    let at = c.loop-steps.invariant.1 in
    let cell = walk_cell g.F.Facts.fits c.args.generation c.args.key c.loop-steps.steps c.loop-steps.index v u c.args.self.now.layout at c.requires.generation in
    let low : c.loop-steps.index < c.cells-cells.result = subst (λ (n : ℕ). c.loop-steps.index < n) (sym c.cells-cells.ensures) cell.1 in
    let next = walk_next g.F.Facts.fits c.args.generation c.args.key c.loop-steps.steps c.loop-steps.index c.next-index.result c.cells-cells.result at.index c.cells-cells.ensures low c.next-index.ensures in
    let more : c.loop-steps.steps < cells_of c.args.generation = subst (λ (n : ℕ). c.loop-steps.steps < n) c.cells-cells.ensures c.loop-steps-test.true in (
      c.put_at.ensures.of,
      walk_goes g.F.Facts.fits c.args.generation c.args.key c.loop-steps.steps c.loop-steps.index c.next-index.result v u w at c.in-Other.ensures.put.walks c.in-Other.ensures.put.holds.key c.in-Other.ensures.put.holds.other more next,
    )

pub put_at-requires-clause-cell : goal.put_at-requires-clause-cell
put_at-requires-clause-cell g c =
    walk_cell g.F.Facts.fits c.args.generation c.args.key c.loop-steps.steps c.loop-steps.index c.args.pass.now.knows c.loop-steps.pass.knows c.args.self.now.layout c.loop-steps.invariant.1 c.requires.generation

pub put_at-requires-clause-reached : goal.put_at-requires-clause-reached
put_at-requires-clause-reached g c =
    walk_reaches g.F.Facts.fits c.args.generation c.args.key c.loop-steps.steps c.loop-steps.index c.args.pass.now.knows c.loop-steps.pass.knows c.loop-steps.invariant.1 (subst (λ (n : ℕ). c.loop-steps.steps < n) c.cells-cells.ensures c.loop-steps-test.true)

pub put_at-requires-clause-may : goal.put_at-requires-clause-may
put_at-requires-clause-may g c = may_more g.F.Facts.fits c.args.pass.now.knows c.loop-steps.pass.knows c.args.generation c.args.key c.args.value c.loop-steps.invariant.1.walks.looks.steps c.requires.key.0 c.requires.may

pub put_at-requires-clause-settled : goal.put_at-requires-clause-settled
put_at-requires-clause-settled g c = settled_more c.args.pass.now.knows c.loop-steps.pass.knows c.args.generation c.args.key c.loop-steps.invariant.1.walks.looks.steps c.requires.key.0 c.requires.settled

pub returns-in-Placed-clause-put : goal.returns-in-Placed-clause-put
returns-in-Placed-clause-put g c =
    let a = c.loop-steps.invariant.1.walks in
    let v : View = c.args.pass.now.knows in
    let u : View = c.loop-steps.pass.knows in
    let at : ℕ = c.args.generation in
    new_after g.F.Facts.fits at c.args.key c.args.value v u c.put_at.new.pass.knows a.looks a.uncounted a.counted at (omega arith) (λ d. closed_more v u at c.args.key a.looks.steps d c.requires.key.0) c.in-Placed.ensures.put

pub returns-in-Found-clause-put : goal.returns-in-Found-clause-put
returns-in-Found-clause-put g c =
    let a = c.loop-steps.invariant.1.walks in
    let at : ℕ = c.args.generation in
    found_after g.F.Facts.fits at c.args.key c.args.value c.args.pass.now.knows c.loop-steps.pass.knows c.put_at.new.pass.knows a.looks a.uncounted a.counted at c.in-Found.found (omega arith) c.in-Found.ensures.put (λ e. c.in-Found.ensures.put.walks.claim (a.claim e))

pub returns-in-Closed-clause-put : goal.returns-in-Closed-clause-put
returns-in-Closed-clause-put g c =
    record {
      walks = walks_then g.F.Facts.fits c.args.pass.now.knows c.loop-steps.pass.knows c.put_at.new.pass.knows c.loop-steps.invariant.1.walks c.in-Closed.ensures.put.walks;
      past = shut_past c.args.generation c.args.key c.put_at.new.pass.knows c.in-Closed.ensures.put.shut;
    }

pub returns-clause-put : goal.returns-clause-put
returns-clause-put g c =
    let whole : cells_of c.args.generation ≤ c.loop-steps.steps = subst (λ (n : ℕ). n ≤ c.loop-steps.steps) c.cells-cells.ensures c.loop-steps-test.false in
    record {
      walks = c.loop-steps.invariant.1.walks;
      past = walk_past g.F.Facts.fits c.args.generation c.args.key c.loop-steps.steps c.loop-steps.index c.args.pass.now.knows c.loop-steps.pass.knows c.loop-steps.invariant.1 whole;
    }
