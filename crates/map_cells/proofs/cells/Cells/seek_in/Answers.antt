use Rattle.std.proofs.Common.{◌≤◌, ◌<◌, ℕ, sym, subst}
use Rattle.map_core.specs.declared.view.View.{View}
use Rattle.map_core.specs.Sizes.{cells_of}
use Rattle.map_cells.proofs.WordSteps.{within_low}
use Rattle.map_cells.proofs.WalkLemmas.{walks_then, closed_more, walk_starts, walk_goes, walk_cell, walk_reaches, walk_next, walk_past, shut_past}
use Rattle.map_cells.proofs.cells.Cells.seek_in.Goals as goal

pub home-index-requires : goal.home-index-requires
home-index-requires g c = within_low c.args.self.now.layout c.args.generation c.requires.generation

pub loop-steps-init : goal.loop-steps-init
loop-steps-init g c =
    let low = within_low c.args.self.now.layout c.args.generation c.requires.generation in
    (c.requires.of, walk_starts g.F.Facts.fits c.args.generation c.args.key c.home-index.result c.args.pass.now.knows c.recall.ensures low c.home-index.ensures)

pub next-index-requires : goal.next-index-requires
next-index-requires g c =
    let cell = walk_cell g.F.Facts.fits c.args.generation c.args.key c.loop-steps.steps c.loop-steps.index c.args.pass.now.knows c.loop-steps.pass.knows c.args.self.now.layout c.loop-steps.invariant.1 c.requires.generation in
    subst (λ (n : ℕ). c.loop-steps.index < n) (sym c.cells-cells.ensures) cell.1

pub loop-steps-preserved : goal.loop-steps-preserved
loop-steps-preserved g c =
    let v : View = c.args.pass.now.knows in
    let u : View = c.loop-steps.pass.knows in
    let w : View = c.seek_at.new.pass.knows in
    let at = c.loop-steps.invariant.1 in
    let cell = walk_cell g.F.Facts.fits c.args.generation c.args.key c.loop-steps.steps c.loop-steps.index v u c.args.self.now.layout at c.requires.generation in
    let low : c.loop-steps.index < c.cells-cells.result = subst (λ (n : ℕ). c.loop-steps.index < n) (sym c.cells-cells.ensures) cell.1 in
    let next = walk_next g.F.Facts.fits c.args.generation c.args.key c.loop-steps.steps c.loop-steps.index c.next-index.result c.cells-cells.result at.index c.cells-cells.ensures low c.next-index.ensures in
    let more : c.loop-steps.steps < cells_of c.args.generation = subst (λ (n : ℕ). c.loop-steps.steps < n) c.cells-cells.ensures c.loop-steps-test.true in (
      c.seek_at.ensures.of,
      walk_goes g.F.Facts.fits c.args.generation c.args.key c.loop-steps.steps c.loop-steps.index c.next-index.result v u w at c.in-Other.ensures.walk c.in-Other.ensures.sought.key c.in-Other.ensures.sought.other more next,
    )

pub seek_at-requires-clause-cell : goal.seek_at-requires-clause-cell
seek_at-requires-clause-cell g c =
    walk_cell g.F.Facts.fits c.args.generation c.args.key c.loop-steps.steps c.loop-steps.index c.args.pass.now.knows c.loop-steps.pass.knows c.args.self.now.layout c.loop-steps.invariant.1 c.requires.generation

pub seek_at-requires-clause-reached : goal.seek_at-requires-clause-reached
seek_at-requires-clause-reached g c =
    walk_reaches g.F.Facts.fits c.args.generation c.args.key c.loop-steps.steps c.loop-steps.index c.args.pass.now.knows c.loop-steps.pass.knows c.loop-steps.invariant.1 (subst (λ (n : ℕ). c.loop-steps.steps < n) c.cells-cells.ensures c.loop-steps-test.true)

pub seek_at-requires-clause-closed : goal.seek_at-requires-clause-closed
seek_at-requires-clause-closed g c = closed_more c.args.pass.now.knows c.loop-steps.pass.knows c.args.generation c.args.key c.loop-steps.invariant.1.walks.looks.steps c.requires.closed c.requires.key.0

pub returns-in-Value-clause-walk : goal.returns-in-Value-clause-walk
returns-in-Value-clause-walk g c = walks_then g.F.Facts.fits c.args.pass.now.knows c.loop-steps.pass.knows c.seek_at.new.pass.knows c.loop-steps.invariant.1.walks c.in-Value.ensures.walk

pub returns-in-Missing-clause-walk : goal.returns-in-Missing-clause-walk
returns-in-Missing-clause-walk g c = walks_then g.F.Facts.fits c.args.pass.now.knows c.loop-steps.pass.knows c.seek_at.new.pass.knows c.loop-steps.invariant.1.walks c.in-Missing.ensures.walk

pub returns-in-Closed-clause-walk : goal.returns-in-Closed-clause-walk
returns-in-Closed-clause-walk g c = walks_then g.F.Facts.fits c.args.pass.now.knows c.loop-steps.pass.knows c.seek_at.new.pass.knows c.loop-steps.invariant.1.walks c.in-Closed.ensures.walk

pub returns-in-Closed-clause-ended : goal.returns-in-Closed-clause-ended
returns-in-Closed-clause-ended g c = shut_past c.args.generation c.args.key c.seek_at.new.pass.knows c.in-Closed.ensures.sought

pub returns-clause-ended : goal.returns-clause-ended
returns-clause-ended g c =
    let whole : cells_of c.args.generation ≤ c.loop-steps.steps = subst (λ (n : ℕ). n ≤ c.loop-steps.steps) c.cells-cells.ensures c.loop-steps-test.false in
    walk_past g.F.Facts.fits c.args.generation c.args.key c.loop-steps.steps c.loop-steps.index c.args.pass.now.knows c.loop-steps.pass.knows c.loop-steps.invariant.1 whole
