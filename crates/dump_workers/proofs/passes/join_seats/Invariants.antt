use Rattle.std.proofs.Common.{◌≡◌, length}
use Rattle.std.specs.Vec.Iter.{into_iter_items, into_iter_len}
use Rattle.dump_workers.proofs.PassLaws.{StandFor}
use Rattle.dump_workers.proofs.passes.join_seats.Given as goal

-- the pass and the seats that are left stand for all seats
abbrev pub invariant-seats : goal.invariant-seats
invariant-seats g l = record {
  size : into_iter_len l.seat-iterator ≡ length (into_iter_items l.seat-iterator);
  stands : StandFor l.handle l.fn.seats.items l.pass (into_iter_items l.seat-iterator);
}
