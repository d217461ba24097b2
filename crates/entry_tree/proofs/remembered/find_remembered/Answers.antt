use Rattle.std.proofs.Common.{rules}
use Rattle.abbrev_decl.specs.Lookup.{LeavesSource}
use Rattle.entry_tree.proofs.MemoLaws.{remembers_more}
use Rattle.entry_tree.proofs.remembered.find_remembered.Goals as goal

pub returns-clause-remembers : goal.returns-clause-remembers
returns-clause-remembers g c =
    let left : LeavesSource (g.D.Decls.section c.args.decls.now) (g.D.Decls.section c.find_declaration.new.decls)
    (g.D.Decls.seen c.args.decls.now) (g.D.Decls.seen c.find_declaration.new.decls) (g.D.Decls.spent c.args.decls.now) (g.D.Decls.spent c.find_declaration.new.decls)
    = let p = c.in_ok-declaration.ensures.follows in search rules in
    remembers_more _ _ c.args.table c.args.code c.args.place _ _ _ _ c.args.memo.now.slots.items c.remember.new.self.slots.items c.in_ok-declaration.declaration
    left c.requires.remembers c.in_ok-declaration.ensures.answer c.in_ok-declaration.ensures.noted c.remember.ensures.sets
