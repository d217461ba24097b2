use Rattle.handle_cache.proofs.Calls.{found_held, found_kept}
use Rattle.handle_cache.proofs.handle.Handle.find_value.Goals as goal

pub returns-clause-held : goal.returns-clause-held
returns-clause-held c = found_held c.find.new.pass.knows.front c.args.key c.find.result c.find.ensures.find.value

pub returns-clause-kept : goal.returns-clause-kept
returns-clause-kept c = found_kept c.args.pass.now.knows.front c.args.key c.find.result c.find.ensures.kept
