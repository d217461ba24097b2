use Rattle.std.proofs.Common.{◌∙◌}
use Rattle.map_core.specs.declared.view.View.{View}
use Rattle.map_core.proofs.TurnLemmas.{drop_own}
use Rattle.map_cells.proofs.PutLemmas.{puts_new, puts_found, puts_closed}
use Rattle.map_cells.proofs.StepFacts.{cell_there}
use Rattle.map_cells.proofs.cells.Cells.put_value.Goals as goal

pub returns-in-Unset-clause-free : goal.returns-in-Unset-clause-free
returns-in-Unset-clause-free g c = c.in-Unset.ensures.tried.claim ∙ drop_own c.args.pass.now.knows.claim c.args.cell.generation c.args.cell.index c.requires.claim

pub returns-in-Closed-clause-free : goal.returns-in-Closed-clause-free
returns-in-Closed-clause-free g c = c.in-Closed.ensures.tried.claim ∙ drop_own c.args.pass.now.knows.claim c.args.cell.generation c.args.cell.index c.requires.claim

pub returns-in-Value-clause-free : goal.returns-in-Value-clause-free
returns-in-Value-clause-free g c = c.in-Value.ensures.tried.claim ∙ drop_own c.args.pass.now.knows.claim c.args.cell.generation c.args.cell.index c.requires.claim

pub returns-in-Unset-clause-put : goal.returns-in-Unset-clause-put
returns-in-Unset-clause-put g c =
    let u : View = c.args.pass.now.knows in
    let w : View = c.publish.new.pass.knows in
    let here = cell_there u.layout c.args.self.now.layout c.args.cell.generation c.args.cell.index c.requires.of.layout c.requires.cell in
    puts_new g.F.Facts.fits c.args.cell.generation c.args.cell.index c.args.key u w here c.requires.key c.requires.seen c.args.value c.requires.value c.requires.claim c.in-Unset.ensures.tried

pub returns-in-Closed-clause-put : goal.returns-in-Closed-clause-put
returns-in-Closed-clause-put g c =
    let u : View = c.args.pass.now.knows in
    let w : View = c.publish.new.pass.knows in
    let here = cell_there u.layout c.args.self.now.layout c.args.cell.generation c.args.cell.index c.requires.of.layout c.requires.cell in
    puts_closed g.F.Facts.fits c.args.cell.generation c.args.cell.index c.args.key u w here c.requires.key c.requires.seen c.args.value c.requires.reached c.requires.claim c.in-Closed.ensures.tried

pub returns-in-Value-clause-put : goal.returns-in-Value-clause-put
returns-in-Value-clause-put g c =
    let u : View = c.args.pass.now.knows in
    let w : View = c.publish.new.pass.knows in
    let here = cell_there u.layout c.args.self.now.layout c.args.cell.generation c.args.cell.index c.requires.of.layout c.requires.cell in
    puts_found g.F.Facts.fits c.args.cell.generation c.args.cell.index c.args.key u w here c.requires.key c.requires.seen c.args.value c.in-Value.found c.requires.claim c.in-Value.ensures.word c.in-Value.ensures.tried
