use Rattle.entry_tree.proofs.BatchLaws.{added}
use Rattle.entry_tree.proofs.batch.EntryBatchEntrySink.add.Goals as goal
use Rattle.entry_tree.proofs.batch.EntryBatchEntrySink.add.Goals.{in-Ok, in-Err}

pub returns : goal.returns
returns c = elim c.match-push.branch [
  | in-Ok w ↦ rw w.result-is (λ x e taken. added c.self.inside.attrs.items c.push.new.self.items c.args.attr c.self.inside.heads.items c.self.inside.head c.self.inside.from
      c.args.self.now x e c.self.view_is c.self.invariant.0 c.self.invariant.1 w.in-Ok.ensures.items taken.0 taken.1)
  | in-Err w ↦ rw w.result-is tt
]
