use Rattle.std.proofs.Common.{◌≡◌, None}
use Rattle.dump_workers.specs.Printers.{GoesOn, printing}
use Rattle.dump_workers.proofs.printer.Printer.finish.Given as goal

-- the printing goes on from the loop's first unit; the next unit is the loop's, unless it was stopped
abbrev pub invariant-units : goal.invariant-units
invariant-units g l = record {
  goes : GoesOn g.N.DumpedFile.sections (printing l.fn.self (g.O.Sink.held l.fn.out) (g.O.Sink.faults l.fn.out)) (printing l.self (g.O.Sink.held l.out) (g.O.Sink.faults l.out));
  next : l.self.fault ≡ None → l.self.next ≡ l.counter;
}
