use Rattle.std.proofs.Common.{length, ◌-◌, ◌≤◌, take}
use Rattle.dw_outside.specs.Gains.{Gains}
use Rattle.dw_outside.proofs.whole.write_all.Given as goal

abbrev pub invariant-pieces : goal.invariant-pieces
invariant-pieces g l = record {
  within : l.done ≤ length l.bytes;
  gained : Gains (g.O.Sink.held l.fn.sink) (g.O.Sink.held l.sink) (take l.done l.bytes);
  later : g.O.Sink.faults l.fn.sink ≤ g.O.Sink.faults l.sink;
}

abbrev pub decreases-pieces : goal.decreases-pieces
decreases-pieces g l = length l.bytes - l.done
