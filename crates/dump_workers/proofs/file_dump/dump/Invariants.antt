use Rattle.handle_cache.specs.Handles.{sections_in}
use Rattle.dump_workers.proofs.file_dump.dump.Given as goal

-- the file that is dumped
abbrev pub ghosts-dump_file : goal.ghosts-dump_file
ghosts-dump_file g a = record { sections = sections_in a.handle.now }
