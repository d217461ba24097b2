use Rattle.dump_workers.specs.Printers.{GoesOn, printing}
use Rattle.dump_workers.proofs.printer.Printer.print_ready.Given as goal

abbrev pub invariant-units : goal.invariant-units
invariant-units g l = GoesOn g.N.DumpedFile.sections (printing l.fn.self (g.O.Sink.held l.fn.out) (g.O.Sink.faults l.fn.out)) (printing l.self (g.O.Sink.held l.out) (g.O.Sink.faults l.out))
