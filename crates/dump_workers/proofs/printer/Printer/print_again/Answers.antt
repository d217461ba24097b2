use Rattle.std.proofs.Common.{refl, ◌∙◌, ap, sym}
use Rattle.elf_sections.specs.Shapes.{SectionsView}
use Rattle.dump_workers.specs.Printers.{PrinterState, printing}
use Rattle.dump_workers.specs.UnitDumps.{unit_dump}
use Rattle.dump_workers.proofs.PrinterLaws.{leaves_refused}
use Rattle.dump_workers.proofs.printer.Printer.print_again.Goals as goal

pub returns-in-Err-Refused-clause-ends : goal.returns-in-Err-Refused-clause-ends
returns-in-Err-Refused-clause-ends g c =
    leaves_refused g.N.DumpedFile.sections (printing c.args.self.now (g.O.Sink.held c.args.out.now) (g.O.Sink.faults c.args.out.now)) c.self.inside.next
    (g.O.Sink.held c.args.out.now) (g.O.Sink.faults c.args.out.now) c.in-Err-Refused.fault
    (ap (λ (p : PrinterState). p.next) c.self.view_is) refl refl
    c.requires.more (ap (λ (s : SectionsView). unit_dump s c.self.inside.next) (sym c.requires.name) ∙ (rw c.in-Err-Refused.field-0-is at c.in-Err-Refused.ensures.text))
