use Rattle.std.proofs.Common.{◌≡◌, ◌∙◌, arith, ap, sym}
use Rattle.dump_workers.specs.Printers.{PrinterState, printing}
use Rattle.dump_workers.proofs.PrinterLaws.{leaves_done}
use Rattle.dump_workers.proofs.printer.Printer.finish.Goals as goal

pub returns-clause-rest : goal.returns-clause-rest
returns-clause-rest g c =
    let before = c.units.invariant in
    let none = sym (ap (λ (p : PrinterState). p.fault) c.self-2.view_is) ∙ c.in_default-fault-2.is in
    let end : c.self.inside.end ≡ c.args.self.now.end = ap (λ (p : PrinterState). p.end) c.self.view_is ∙ ap (λ (p : PrinterState). p.end) c.fetch-fetched.ensures in
    leaves_done g.N.DumpedFile.sections (printing c.args.self.now (g.O.Sink.held c.args.out.now) (g.O.Sink.faults c.args.out.now))
    (printing c.units.self (g.O.Sink.held c.units.out) (g.O.Sink.faults c.units.out)) before.goes none
    (let next = before.next none in let same = before.goes.end in let all = c.units-test.false in omega (arith, end, next, same, all))
