use Rattle.std.proofs.Common.{rules}
use Rattle.abbrev_decl.specs.Lookup.{LeavesSource}
use Rattle.visit_queries.proofs.DeclaredKeys.{entries_declared, root_declared}
use Rattle.visit_queries.proofs.unit_walk.read_unit.Goals as goal

pub returns-clause-placed : goal.returns-clause-placed
returns-clause-placed g c =
    let left : LeavesSource (g.D.Decls.section c.args.decls.now) (g.D.Decls.section c.root_facts.new.decls)
    (g.D.Decls.seen c.args.decls.now) (g.D.Decls.seen c.root_facts.new.decls) (g.D.Decls.spent c.args.decls.now) (g.D.Decls.spent c.root_facts.new.decls)
    = let p = c.in_ok-facts.ensures.follows in search rules in
    entries_declared (g.D.Decls.section c.args.decls.now) (g.D.Decls.section c.root_facts.new.decls) c.in_ok-header.header.«abbrev»
    (g.D.Decls.placed c.args.decls.now) (g.D.Decls.placed c.root_facts.new.decls) (g.D.Decls.placed c.read_named.new.decls) left.kept
    (root_declared (g.D.Decls.section c.args.decls.now) c.in_ok-header.header.«abbrev» _ _ _ c.in_ok-facts.ensures.placed)
    c.read_named.ensures.placed
