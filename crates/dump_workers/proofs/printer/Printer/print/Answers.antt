use Rattle.std.proofs.Common.{◌≡◌, ◌∙◌, arith, ap, sym}
use Rattle.dump_workers.specs.Printers.{PrinterState}
use Rattle.dump_workers.specs.UnitDumps.{entry_count, unit_dump}
use Rattle.dump_workers.proofs.PrinterLaws.{goes_printed, goes_stopped}
use Rattle.dump_workers.proofs.printer.Printer.print.Goals as goal

pub returns-in-Ok-clause-goes : goal.returns-in-Ok-clause-goes
returns-in-Ok-clause-goes g c =
    let s = g.N.DumpedFile.sections in
    let none = ap (λ (p : PrinterState). p.fault) c.self.view_is ∙ c.requires.open in
    let next : c.self.inside.next ≡ c.args.self.now.next = ap (λ (p : PrinterState). p.next) c.self.view_is in
    let end : c.self.inside.end ≡ c.args.self.now.end = ap (λ (p : PrinterState). p.end) c.self.view_is in
    rw (← c.self.view_is) (goes_printed s (g.O.Sink.held c.args.out.now) (g.O.Sink.held c.print_text.new.out) (g.O.Sink.faults c.args.out.now) (g.O.Sink.faults c.print_text.new.out)
    c.self.inside.start c.self.inside.end c.self.inside.next c.self.inside.entries c.from.result c.self.inside.fault c.args.text.now none
    (let more = c.requires.more in omega (arith, next, end, more)) (ap (unit_dump s) next ∙ c.requires.is) (c.from.ensures ∙ c.requires.has ∙ ap (entry_count s) (sym next))
    c.in-Ok.ensures.whole c.print_text.ensures.cause.later)

pub returns-in-Err-clause-goes : goal.returns-in-Err-clause-goes
returns-in-Err-clause-goes g c =
    let s = g.N.DumpedFile.sections in
    let none = ap (λ (p : PrinterState). p.fault) c.self.view_is ∙ c.requires.open in
    let next : c.self.inside.next ≡ c.args.self.now.next = ap (λ (p : PrinterState). p.next) c.self.view_is in
    let end : c.self.inside.end ≡ c.args.self.now.end = ap (λ (p : PrinterState). p.end) c.self.view_is in
    rw (← c.self.view_is) (goes_stopped s (g.O.Sink.held c.args.out.now) (g.O.Sink.held c.print_text.new.out) (g.O.Sink.faults c.args.out.now) (g.O.Sink.faults c.print_text.new.out)
    c.self.inside.start c.self.inside.end c.self.inside.next c.self.inside.entries c.self.inside.fault c.args.text.now c.in-Err.fault none
    (let more = c.requires.more in omega (arith, next, end, more)) (ap (unit_dump s) next ∙ c.requires.is) c.in-Err.ensures.part c.in-Err.ensures.cause)
