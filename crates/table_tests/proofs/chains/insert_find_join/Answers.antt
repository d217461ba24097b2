use Rattle.map_core.specs.declared.view.View.{View}
use Rattle.map_cells.specs.FollowLaws.{follows_same_pass}
use Rattle.table_tests.proofs.CallListLemmas.{three_calls}
use Rattle.table_tests.proofs.chains.insert_find_join.Goals as goal

pub returns-clause-own : goal.returns-clause-own
returns-clause-own c =
    let table = c.args.table.now in
    let v : View = c.args.pass.now.knows in
    let x : View = c.insert-answer.new.pass.knows in
    let y : View = c.find.new.pass.knows in
    let w : View = c.join.new.into.knows in
    let tag = c.find.ensures.of.tag in
    three_calls _ table.layout.capacity c.args.key c.args.value (c.calls_in_order.ensures table.tag table.layout.capacity) c.insert-answer.result c.args.key c.find.result v x y c.args.other.knows w
    c.recall.ensures.own (follows_same_pass c.args.pass.now c.insert-answer.new.pass c.insert-answer.ensures.follows) c.insert-answer.ensures.insert
    (follows_same_pass c.insert-answer.new.pass c.find.new.pass c.find.ensures.follows) c.find.ensures.find
    c.join.ensures.passes.joins
