use Rattle.std.proofs.Common.{◌-◌, [], true}
use Rattle.entry_tree.specs.Taken.{ServesCursor}
use Rattle.reader_tests.proofs.entries.a_cursor_goes_on_where_it_stopped.Given as goal

abbrev pub invariant-batches : goal.invariant-batches
invariant-batches g l = ServesCursor l.scanner [] true l.cursor

abbrev pub decreases-batches : goal.decreases-batches
decreases-batches g l = l.cursor.left.end - l.cursor.left.place
