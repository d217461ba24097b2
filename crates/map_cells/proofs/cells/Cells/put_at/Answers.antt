use Rattle.std.proofs.Common.{◌<◌, ◌∙◌, arith}
use Rattle.map_core.specs.declared.view.View.{View}
use Rattle.map_core.specs.Places.{IsCell}
use Rattle.map_core.specs.Machine.{greatest}
use Rattle.map_cells.proofs.WalkLemmas.{looks_then, may_more, reaches_more}
use Rattle.map_cells.proofs.PutLemmas.{takes_unset, takes_walks, value_frees, key_stays, puts_seen, closed_seen, found_after, tried_after}
use Rattle.map_cells.proofs.StepFacts.{cell_there}
use Rattle.map_cells.proofs.cells.Cells.put_at.Goals as goal

pub put_value-requires-clause-may : goal.put_value-requires-clause-may
put_value-requires-clause-may g c =
    may_more g.F.Facts.fits c.args.pass.now.knows c.take_key.new.pass.knows c.args.cell.generation c.args.key c.args.value c.take_key.ensures.takes.looks.steps c.requires.key.0 c.requires.may

pub put_value-requires-clause-reached : goal.put_value-requires-clause-reached
put_value-requires-clause-reached g c =
    reaches_more c.args.pass.now.knows c.take_key.new.pass.knows c.args.cell.generation c.args.cell.index c.args.key c.take_key.ensures.takes.looks.steps c.requires.reached

pub put_value-requires-in-Unset-clause-may : goal.put_value-requires-in-Unset-clause-may
put_value-requires-in-Unset-clause-may g c =
    let v : View = c.args.pass.now.knows in
    let u : View = c.value_at.new.pass.knows in
    let a = takes_unset g.F.Facts.fits c.args.cell.generation c.args.cell.index v c.take_key.new.pass.knows u c.in-Stands.ensures.takes c.in-Unset.ensures.seen in
    may_more g.F.Facts.fits v u c.args.cell.generation c.args.key c.args.value a.looks.steps c.requires.key.0 c.requires.may

pub put_value-requires-in-Unset-clause-reached : goal.put_value-requires-in-Unset-clause-reached
put_value-requires-in-Unset-clause-reached g c =
    let v : View = c.args.pass.now.knows in
    let u : View = c.value_at.new.pass.knows in
    let a = takes_unset g.F.Facts.fits c.args.cell.generation c.args.cell.index v c.take_key.new.pass.knows u c.in-Stands.ensures.takes c.in-Unset.ensures.seen in
    reaches_more v u c.args.cell.generation c.args.cell.index c.args.key a.looks.steps c.requires.reached

pub put_value-requires-in-Unset-clause-claim : goal.put_value-requires-in-Unset-clause-claim
put_value-requires-in-Unset-clause-claim g c =
    let v : View = c.args.pass.now.knows in
    let u : View = c.value_at.new.pass.knows in
    (takes_unset g.F.Facts.fits c.args.cell.generation c.args.cell.index v c.take_key.new.pass.knows u c.in-Stands.ensures.takes c.in-Unset.ensures.seen).claim

pub put_value-requires-in-Unset-clause-seen : goal.put_value-requires-in-Unset-clause-seen
put_value-requires-in-Unset-clause-seen g c =
    key_stays g.F.Facts.fits c.args.cell.generation c.args.cell.index c.args.key c.take_key.new.pass.knows c.value_at.new.pass.knows c.requires.key c.in-Unset.ensures.seen.looks.steps c.in-Stands.ensures.taken

pub returns-in-Claimed-clause-put : goal.returns-in-Claimed-clause-put
returns-in-Claimed-clause-put g c =
    let a = c.in-Claimed.ensures.takes in
    tried_after g.F.Facts.fits c.args.cell.generation c.args.cell.index c.args.key c.args.value c.args.pass.now.knows c.take_key.new.pass.knows c.put_value.new.pass.knows a.looks c.requires.key.0 a.uncounted a.counted c.put_value.ensures.free c.put_value.result c.put_value.ensures.put

pub returns-in-Unset-clause-put : goal.returns-in-Unset-clause-put
returns-in-Unset-clause-put g c =
    let v : View = c.args.pass.now.knows in
    let u : View = c.value_at.new.pass.knows in
    let a = takes_unset g.F.Facts.fits c.args.cell.generation c.args.cell.index v c.take_key.new.pass.knows u c.in-Stands.ensures.takes c.in-Unset.ensures.seen in
    tried_after g.F.Facts.fits c.args.cell.generation c.args.cell.index c.args.key c.args.value v u c.put_value-in-Unset.new.pass.knows a.looks c.requires.key.0 a.uncounted a.counted c.put_value-in-Unset.ensures.free c.put_value-in-Unset.result c.put_value-in-Unset.ensures.put

pub returns-in-Value-clause-put : goal.returns-in-Value-clause-put
returns-in-Value-clause-put g c =
    let v : View = c.args.pass.now.knows in
    let u : View = c.take_key.new.pass.knows in
    let w : View = c.value_at.new.pass.knows in
    let at = c.args.cell.generation in
    let i = c.args.cell.index in
    let a = c.in-Stands.ensures.takes in
    let seen = c.in-Value.ensures.seen in
    let here : IsCell u.layout at i = cell_there u.layout c.args.self.now.layout at i (a.looks.steps.layout ∙ c.requires.of.layout) c.requires.cell in
    let free = value_frees g.F.Facts.fits at i c.in-Value.found u w a.claim c.in-Value.ensures.word.0 seen in
    found_after g.F.Facts.fits at c.args.key c.args.value v u w a.looks a.uncounted a.counted at c.in-Value.found (omega arith)
    (puts_seen g.F.Facts.fits at i c.args.key u w here c.requires.key c.in-Stands.ensures.taken c.args.value c.in-Value.found a.claim c.in-Value.ensures.word seen) (λ e. free)

pub returns-in-Closed-clause-put : goal.returns-in-Closed-clause-put
returns-in-Closed-clause-put g c =
    let taken = c.in-Closed.ensures.taken in
    record {
      walks = takes_walks g.F.Facts.fits c.args.cell.generation c.args.cell.index c.args.pass.now.knows c.take_key.new.pass.knows c.in-Closed.ensures.takes taken.1;
      shut = taken.0;
    }

pub returns-in-Closed-value_at-clause-put : goal.returns-in-Closed-value_at-clause-put
returns-in-Closed-value_at-clause-put g c =
    let v : View = c.args.pass.now.knows in
    let u : View = c.take_key.new.pass.knows in
    let w : View = c.value_at.new.pass.knows in
    let at = c.args.cell.generation in
    let i = c.args.cell.index in
    let k = c.args.key in
    let a = c.in-Stands.ensures.takes in
    let seen = c.in-Closed-value_at.ensures.seen in
    let here : IsCell u.layout at i = cell_there u.layout c.args.self.now.layout at i (a.looks.steps.layout ∙ c.requires.of.layout) c.requires.cell in
    let walk = reaches_more v u at i k a.looks.steps c.requires.reached in
    let some_there : 0 < greatest = omega arith in
    let free = value_frees g.F.Facts.fits at i greatest u w a.claim some_there seen in
    record {
      walks = record { looks = looks_then v u w a.looks seen.looks; facts = seen.facts; claim = λ e. free; uncounted = seen.uncounted ∙ a.uncounted; counted = seen.counted ∙ a.counted };
      shut = closed_seen g.F.Facts.fits at i k u w here c.requires.key c.in-Stands.ensures.taken walk seen;
    }
