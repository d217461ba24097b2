use Rattle.std.proofs.Common.{refl, ◌∙◌, ap}
use Rattle.dump_workers.specs.Printers.{PrinterState, printing}
use Rattle.dump_workers.proofs.PrinterLaws.{leaves_refused}
use Rattle.dump_workers.proofs.printer.Printer.finish_unit.Goals as goal

pub returns-in-Refused-clause-ends : goal.returns-in-Refused-clause-ends
returns-in-Refused-clause-ends g c =
    let same = c.if-print_next.ensures.same refl in
    let still = c.if-print_next.ensures.still refl in
    leaves_refused g.N.DumpedFile.sections (printing c.args.self.now (g.O.Sink.held c.args.out.now) (g.O.Sink.faults c.args.out.now)) c.self.inside.next
    (g.O.Sink.held c.print_next.new.out) (g.O.Sink.faults c.print_next.new.out) c.in-Refused.fault
    (ap (λ (p : PrinterState). p.next) c.self.view_is ∙ ap (λ (p : PrinterState). p.next) same) (ap g.O.Sink.held still) (ap g.O.Sink.faults still)
    c.requires.more (rw c.in-Refused.is at (c.find_reading.ensures.found g.N.DumpedFile.sections c.args.window c.requires.reads.each))
