use Rattle.handle_cache.specs.Handles.{sections_in}
use Rattle.dump_workers.proofs.AloneLaws.{alone_notes}
use Rattle.dump_workers.proofs.WindowLaws.{on_ok}
use Rattle.dump_workers.proofs.alone.dump_alone.Goals as goal

pub returns-clause-noted : goal.returns-clause-noted
returns-clause-noted g c =
    on_ok c.dump_seat.result _ _ c.dump_seat.ensures.noted
    (λ notes none. alone_notes (sections_in c.args.handle.now) c.args.seats.now.items c.dump_seat.new.seat c.requires.one (notes none))
