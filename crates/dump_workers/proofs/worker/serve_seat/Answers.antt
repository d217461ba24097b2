use Rattle.std.proofs.Common.{◌≡◌, ◌∙◌, ℕ, ap, subst, sym}
use Rattle.map_cells.specs.Seen.{PassView, Follows}
use Rattle.handle_cache.specs.Handles.{sections_in}
use Rattle.dump_workers.specs.FileKeys.{CountsUnits, GainsUnits}
use Rattle.dump_workers.specs.Seats.{DumpSeatView}
use Rattle.dump_workers.proofs.ServingLaws.{leaves_drawn}
use Rattle.dump_workers.proofs.worker.serve_seat.Goals as goal

pub returns-in-Ok-clause-leaves : goal.returns-in-Ok-clause-leaves
returns-in-Ok-clause-leaves g c =
    let pass : c.seat.inside.pass ≡ c.args.seat.now.pass = ap (λ (x : DumpSeatView). x.pass) c.seat.view_is ∙ ap (λ (x : DumpSeatView). x.pass) c.change.ensures.new in
    let steps : c.seat.inside.steps ≡ c.args.seat.now.steps = ap (λ (x : DumpSeatView). x.steps) c.seat.view_is ∙ ap (λ (x : DumpSeatView). x.steps) c.change.ensures.new in
    leaves_drawn c.args.handle.now c.args.draws.now c.args.window c.args.seat.now c.change-in-Ok.new.self c.in-Drawing.draw c.work_window.new.seat c.in-Ok.readings
    c.work_window.new.pass c.work_window.new.steps (sym c.change.ensures.result ∙ c.in-Drawing.is) c.change-in-Ok.ensures.new
    c.in-Ok.ensures.belongs (subst (λ (p : PassView). Follows p c.work_window.new.pass) pass c.in-Ok.ensures.follows) c.in-Ok.ensures.serves c.in-Ok.ensures.noted
    (subst (λ (p : PassView). GainsUnits (sections_in c.args.handle.now) p c.work_window.new.pass) pass c.in-Ok.ensures.gains)
    (subst (λ (n : ℕ). CountsUnits (sections_in c.args.handle.now) c.args.seat.now.pass n c.work_window.new.steps) steps
    (subst (λ (p : PassView). CountsUnits (sections_in c.args.handle.now) p c.seat.inside.steps c.work_window.new.steps) pass c.in-Ok.ensures.counts))
