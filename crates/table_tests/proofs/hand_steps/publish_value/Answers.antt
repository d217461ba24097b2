use Rattle.std.proofs.Common.{◌≡◌, List, ℕ, true, refl, ap, ◌∙◌}
use Rattle.map_core.specs.declared.view.View.{View}
use Rattle.map_core.specs.History.{is_in}
use Rattle.map_cells.proofs.WalkLemmas.{closed_here}
use Rattle.table_tests.proofs.HandLemmas.{first_cell, placed_uncounted}
use Rattle.table_tests.proofs.hand_steps.publish_value.Goals as goal

pub key_at-requires-clause-cell : goal.key_at-requires-clause-cell
key_at-requires-clause-cell c = first_cell c.args.cells.now.layout c.args.index c.requires.index

pub publish-requires-clause-cell : goal.publish-requires-clause-cell
publish-requires-clause-cell c = first_cell c.args.cells.now.layout c.args.index c.requires.index

pub count-requires-clause-uncounted : goal.count-requires-clause-uncounted
count-requires-clause-uncounted c =
    let v : View = c.key_at.new.pass.knows in
    let current : is_in 0 v.currents ≡ true = ap (λ (x : List ℕ). is_in 0 x) c.key_at.ensures.seen.looks.steps.currents ∙ c.requires.sees.current in
    placed_uncounted c.in-Key.key c.args.value v c.publish.new.pass.knows (c.in-Unset.ensures.tried.won refl tt (closed_here v 0 c.in-Key.key current))
