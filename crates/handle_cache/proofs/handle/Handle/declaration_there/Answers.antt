use Rattle.abbrev_decl.specs.Lookup.{first_declaration}
use Rattle.handle_cache.specs.Handles.{sections_in}
use Rattle.handle_cache.proofs.Scans.{found_told, told_inside, told_stands, told_is}
use Rattle.handle_cache.proofs.handle.Handle.declaration_there.Goals as goal

pub decl_at-requires-clause-inside : goal.decl_at-requires-clause-inside
decl_at-requires-clause-inside c =
    told_inside (sections_in c.args.self.now).«abbrev» c.declarations-section.result.now c.declarations-section.ensures
    (first_declaration (sections_in c.args.self.now).«abbrev» c.args.table c.args.code) c.args.value c.saturating_sub.result c.saturating_sub.ensures
    (found_told c.args.self.now c.recall.ensures c.args.table c.args.code c.requires.inside c.requires.small c.args.value c.requires.value c.recall_walk.ensures)

pub decl_at-requires-clause-stands : goal.decl_at-requires-clause-stands
decl_at-requires-clause-stands c =
    told_stands (sections_in c.args.self.now).«abbrev» c.declarations-section.result.now c.declarations-section.ensures
    (first_declaration (sections_in c.args.self.now).«abbrev» c.args.table c.args.code) c.args.value c.saturating_sub.result c.saturating_sub.ensures
    (found_told c.args.self.now c.recall.ensures c.args.table c.args.code c.requires.inside c.requires.small c.args.value c.requires.value c.recall_walk.ensures)

pub returns : goal.returns
returns c =
    told_is (sections_in c.args.self.now).«abbrev» c.declarations-section.result.now c.declarations-section.ensures
    (first_declaration (sections_in c.args.self.now).«abbrev» c.args.table c.args.code) c.args.value c.saturating_sub.result c.saturating_sub.ensures
    (found_told c.args.self.now c.recall.ensures c.args.table c.args.code c.requires.inside c.requires.small c.args.value c.requires.value c.recall_walk.ensures)
    c.decl_at.result c.decl_at.ensures
