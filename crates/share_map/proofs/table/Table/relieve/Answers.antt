use Rattle.std.proofs.Common.{refl, subst, ◌∙◌}
use Rattle.map_cells.specs.Seen.{CellsView, IsOf}
use Rattle.map_cells.proofs.WalkLemmas.{rises_same, rises_then}
use Rattle.share_map.proofs.table.Table.relieve.Goals as goal

pub loop-init : goal.loop-init
loop-init g c = (c.requires.of, refl, c.requires.rest, rises_same c.args.pass.now.knows, c.recall.ensures)

pub loop-preserved : goal.loop-preserved
loop-preserved g c =
    let h = c.help.ensures in
    let i = c.loop.invariant in (
      subst (λ (t : CellsView). IsOf t c.help.new.pass) c.self.view_is h.of,
      h.table ∙ i.1,
      h.rest,
      rises_then c.args.pass.now.knows c.loop.pass.knows c.help.new.pass.knows i.3 h.rises,
      h.facts,
    )

pub returns-in-Nothing-clause-rises : goal.returns-in-Nothing-clause-rises
returns-in-Nothing-clause-rises g c = rises_then c.args.pass.now.knows c.loop.pass.knows c.help.new.pass.knows c.loop.invariant.3 c.help.ensures.rises

pub returns-in-LastFull-clause-rises : goal.returns-in-LastFull-clause-rises
returns-in-LastFull-clause-rises g c = rises_then c.args.pass.now.knows c.loop.pass.knows c.help.new.pass.knows c.loop.invariant.3 c.help.ensures.rises
