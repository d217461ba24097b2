use Rattle.dump_workers.proofs.ServingLaws.{parts_served}
use Rattle.dump_workers.proofs.worker.serve_split.Goals as goal

pub returns-clause-served : goal.returns-clause-served
returns-clause-served g c =
    parts_served c.args.handle.now c.args.draws.now c.args.window c.args.seats.now c.serve_beside.new.seats
    c.serve_beside.ensures.same c.serve_beside.ensures.ran c.serve_beside.ensures.gives
