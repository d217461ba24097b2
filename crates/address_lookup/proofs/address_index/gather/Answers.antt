use Rattle.std.proofs.Common.{rules, ◌<◌, ◌∙◌, map, refl, sym, ap, subst, arith}
use Rattle.abbrev_decl.specs.Lookup.{LeavesSource}
use Rattle.elf_sections.specs.Shapes.{SectionsView, sections_view}
use Rattle.unit_headers.specs.Headers.{unit_count}
use Rattle.unit_headers.specs.Units.{Units}
use Rattle.address_lookup.specs.declared.tables.Tables.{Tables}
use Rattle.address_lookup.specs.Built.{IsGathered, kept_answer}
use Rattle.address_lookup.specs.Kept.{kept_place_of}
use Rattle.address_lookup.specs.Programs.{unit_table}
use Rattle.address_lookup.proofs.Gathering.{none_added, some_added}
use Rattle.address_lookup.proofs.Tells.{AddedTo, tells_next, tells_none}
use Rattle.address_lookup.proofs.address_index.gather.Goals as goal
use Rattle.address_lookup.proofs.address_index.gather.Goals.{in-Some+in_ok-add, in_default}

pub find_program-requires : goal.find_program-requires
find_program-requires g c =
    let left : LeavesSource (g.D.Decls.section c.args.decls.now) (g.D.Decls.section c.loop-unit.decls)
    (g.D.Decls.seen c.args.decls.now) (g.D.Decls.seen c.loop-unit.decls) (g.D.Decls.spent c.args.decls.now) (g.D.Decls.spent c.loop-unit.decls)
    = let p = c.loop-unit.invariant.follows in search rules in
    λ k. ((refl, tt), (c.requires.index, (left.kept ∙ c.requires.section, omega (arith, c.loop-unit-test.true, c.count-unit-end.ensures.count))))

pub loop-unit-init : goal.loop-unit-init
loop-unit-init g c = record {
  gathered = c.new-tables.ensures.gathered;
  tells = tells_none (sections_view c.args.sections.now) (kept_answer c.new-tables.result)
      (λ a. ap (λ us. kept_place_of us (map (λ v. v.items) c.new-tables.result.rows.items) a) c.new-tables.ensures.units);
  follows = search rules;
}

pub loop-unit-preserved : goal.loop-unit-preserved
loop-unit-preserved g c =
    let s = sections_view c.args.sections.now in
    let old = c.loop-unit.tables in
    let unit = c.loop-unit.unit in
    let count = ap (λ (u : Units). unit_count u.info u.order) c.requires.index in
    let within : c.loop-unit.unit < unit_count c.args.sections.now.info.now c.args.sections.now.order = omega (arith, c.loop-unit-test.true, c.count-unit-end.ensures.count, count) in
    let follows : g.D.Decls.follows c.args.decls.now c.find_program.new.decls
    = let p = c.loop-unit.invariant.follows in let q = c.find_program.ensures.follows in search rules in
    elim c.match-find_program.branch [
      | in-Some+in_ok-add w ↦ record {
        gathered = subst (IsGathered s) (sym w.tables-is) (subst (λ (t : SectionsView). IsGathered t w.add.new.self) c.loop-unit.invariant.gathered.texts w.in_ok-add.ensures.gathered);
        tells = tells_next s unit (kept_answer old) (kept_answer c.match-find_program.tables) within
            (subst (λ (t : Tables). AddedTo unit (unit_table s unit) (kept_answer old) (kept_answer t)) (sym w.tables-is)
            (some_added s unit w.in-Some.program old w.add.new.self (sym c.find_program.ensures.program ∙ w.in-Some.is) c.loop-unit.invariant.gathered.texts w.in_ok-add.ensures.added))
            c.loop-unit.invariant.tells;
        follows = follows;
      }
      | in_default w ↦ record {
        gathered = subst (IsGathered s) (sym w.tables-is) c.loop-unit.invariant.gathered;
        tells = tells_next s unit (kept_answer old) (kept_answer c.match-find_program.tables) within
            (subst (λ (t : Tables). AddedTo unit (unit_table s unit) (kept_answer old) (kept_answer t)) (sym w.tables-is)
            (none_added s unit (kept_answer old) (sym c.find_program.ensures.program ∙ w.in_default.is)))
            c.loop-unit.invariant.tells;
        follows = follows;
      }
    ]
