use Rattle.handle_cache.specs.Handles.{sections_in}
use Rattle.dump_workers.proofs.SeatLaws.{each_counts_same, each_same}
use Rattle.dump_workers.proofs.WindowLaws.{stands_first}
use Rattle.dump_workers.proofs.file_dump.dump_file.Goals as goal

pub dump_windows-requires-clause-stands : goal.dump_windows-requires-clause-stands
dump_windows-requires-clause-stands g c κs within = stands_first c.in-Ok.made.0 c.in-Ok.made.1 c.in-Ok.ensures.of c.in-Ok.ensures.seat c.in-Ok.ensures.seats

pub returns-clause-follow : goal.returns-clause-follow
returns-clause-follow g c = each_same c.args.seats.now.items

pub returns-in-Err-clause-follow : goal.returns-in-Err-clause-follow
returns-in-Err-clause-follow g c = each_same c.args.seats.now.items

pub returns-clause-counts : goal.returns-clause-counts
returns-clause-counts g c = each_counts_same (sections_in c.args.handle.now) c.args.seats.now.items

pub returns-in-Err-clause-counts : goal.returns-in-Err-clause-counts
returns-in-Err-clause-counts g c = each_counts_same (sections_in c.args.handle.now) c.args.seats.now.items
