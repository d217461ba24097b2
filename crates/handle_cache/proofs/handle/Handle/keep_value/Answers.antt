use Rattle.std.proofs.Common.{ap}
use Rattle.map_core.specs.declared.layout.Layout.{Layout}
use Rattle.handle_cache.proofs.Calls.{insert_noted}
use Rattle.handle_cache.specs.Scanned.{FitsFile}
use Rattle.handle_cache.proofs.handle.Handle.keep_value.Goals as goal

pub returns-clause-noted : goal.returns-clause-noted
returns-clause-noted c =
    insert_noted (FitsFile c.self.inside.table.tag) c.self.inside.table.layout.capacity c.args.key c.args.value
    c.args.pass.now.knows c.insert.new.pass.knows c.insert.result
    (ap (λ (x : Layout). x.capacity) c.insert.ensures.of.layout) c.insert.ensures.insert
