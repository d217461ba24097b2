use Rattle.std.proofs.Common.{refl}
use Rattle.handle_cache.specs.Handles.{sections_in}
use Rattle.dump_workers.proofs.PassLaws.{each_owns, passes_kept, whole_none}
use Rattle.dump_workers.proofs.SeatLaws.{each_belongs, each_length}
use Rattle.dump_workers.proofs.WindowLaws.{on_ok}
use Rattle.dump_workers.proofs.file_dump.dump.Goals as goal

pub returns-clause-none : goal.returns-clause-none
returns-clause-none g c =
    whole_none (sections_in c.args.handle.now) c.dump_file.result (g.O.Sink.held c.args.out.now) (g.O.Sink.held c.dump_file.new.out) c.dump_file.ensures.dump

pub returns-clause-belong : goal.returns-clause-belong
returns-clause-belong g c =
    each_belongs c.args.handle.now c.args.seats.now.items c.dump_file.new.seats.items c.requires.belong c.dump_file.ensures.follow

pub returns-clause-passes : goal.returns-clause-passes
returns-clause-passes g c = passes_kept c.args.seats.now.items c.dump_file.new.seats.items c.dump_file.ensures.follow

pub returns-clause-only : goal.returns-clause-only
returns-clause-only g c =
    on_ok c.dump_file.result _ _ c.dump_file.ensures.gains
    (λ gains none owns. each_owns (sections_in c.args.handle.now) c.args.seats.now.items c.dump_file.new.seats.items gains none owns)

pub returns-clause-size : goal.returns-clause-size
returns-clause-size g c = each_length c.args.seats.now.items c.dump_file.new.seats.items c.dump_file.ensures.follow

pub returns-then-len-eq1-clause-none : goal.returns-then-len-eq1-clause-none
returns-then-len-eq1-clause-none g c =
    whole_none (sections_in c.args.handle.now) c.dump_alone.result (g.O.Sink.held c.args.out.now) (g.O.Sink.held c.dump_alone.new.out) c.dump_alone.ensures.dump

pub returns-then-len-eq1-clause-belong : goal.returns-then-len-eq1-clause-belong
returns-then-len-eq1-clause-belong g c =
    each_belongs c.args.handle.now c.args.seats.now.items c.dump_alone.new.seats.items c.requires.belong c.dump_alone.ensures.follow

pub returns-then-len-eq1-clause-size : goal.returns-then-len-eq1-clause-size
returns-then-len-eq1-clause-size g c = each_length c.args.seats.now.items c.dump_alone.new.seats.items c.dump_alone.ensures.follow

pub returns-then-len-eq1-clause-only : goal.returns-then-len-eq1-clause-only
returns-then-len-eq1-clause-only g c =
    on_ok c.dump_alone.result _ _ c.dump_alone.ensures.gains
    (λ gains none owns. each_owns (sections_in c.args.handle.now) c.args.seats.now.items c.dump_alone.new.seats.items gains none owns)

pub dump_file-requires-clause-name : goal.dump_file-requires-clause-name
dump_file-requires-clause-name g c κs within = refl
