use Rattle.std.proofs.Common.{◌≡◌, ℕ, true, sym, ap, subst, ◌∙◌}
use Rattle.map_core.specs.declared.layout.Layout.{Layout}
use Rattle.map_core.specs.declared.view.View.{View}
use Rattle.map_core.specs.History.{is_in, value_in}
use Rattle.map_core.specs.Places.{Within}
use Rattle.map_cells.specs.Seen.{CellsView}
use Rattle.map_cells.proofs.WalkLemmas.{closed_here, walks_rise}
use Rattle.share_map.proofs.PointLemmas.{answer_is, rises_follow, rises_rest, walk_then_current, current_then_walk, current_in, finds_at, still_found, kept_lacks}
use Rattle.share_map.proofs.table.Table.find.Goals as goal

pub seek_in-requires-clause-generation : goal.seek_in-requires-clause-generation
seek_in-requires-clause-generation g c =
    let v : View = c.args.pass.now.knows in
    let same : v.layout ≡ c.self.inside.cells.layout = c.requires.of.layout ∙ sym (ap (λ (t : CellsView). t.layout) c.self.view_is) in
    subst (λ (x : Layout × ℕ). Within x.0 x.1) (λ i. (same i, sym c.generation.ensures i)) (c.recall.ensures.currents v.generation c.recall.ensures.generation)

pub seek_in-requires-clause-closed : goal.seek_in-requires-clause-closed
seek_in-requires-clause-closed g c =
    let v : View = c.args.pass.now.knows in
    closed_here v c.generation.result c.args.key (subst (λ (n : ℕ). is_in n v.currents ≡ true) (sym c.generation.ensures) c.recall.ensures.generation)

pub seek_from-requires-clause-current : goal.seek_from-requires-clause-current
seek_from-requires-clause-current g c = current_in g.F.Facts.fits c.current-generation.result c.seek_in.new.pass.knows c.current-generation.new.pass.knows c.current-generation.ensures.seen

pub returns-in-Value-clause-rest : goal.returns-in-Value-clause-rest
returns-in-Value-clause-rest g c =
    let v : View = c.args.pass.now.knows in
    let w : View = c.seek_in.new.pass.knows in
    let walk = walks_rise g.F.Facts.fits v w c.in-Value.ensures.walk in
    rises_rest v w walk c.requires.rest

pub returns-in-Value-clause-follows : goal.returns-in-Value-clause-follows
returns-in-Value-clause-follows g c =
    let v : View = c.args.pass.now.knows in
    let w : View = c.seek_in.new.pass.knows in
    let walk = walks_rise g.F.Facts.fits v w c.in-Value.ensures.walk in
    rises_follow c.args.pass.now c.seek_in.new.pass (c.in-Value.ensures.of.table ∙ (ap (λ (t : CellsView). t.table) c.self.view_is ∙ sym c.requires.of.table)) walk

pub returns-in-Value-clause-find : goal.returns-in-Value-clause-find
returns-in-Value-clause-find g c =
    let v : View = c.args.pass.now.knows in
    let w : View = c.seek_in.new.pass.knows in
    let walk = walks_rise g.F.Facts.fits v w c.in-Value.ensures.walk in
    finds_at g.F.Facts.fits c.args.self.now.tag c.args.key v w _ c.requires.of.tag walk c.in-Value.ensures.walk.facts (sym c.in-Value.ensures.ended)

pub returns-in-Value-clause-kept : goal.returns-in-Value-clause-kept
returns-in-Value-clause-kept g c x h =
    let v : View = c.args.pass.now.knows in
    let w : View = c.seek_in.new.pass.knows in
    let walk = walks_rise g.F.Facts.fits v w c.in-Value.ensures.walk in
    sym c.in-Value.ensures.ended ∙ still_found g.F.Facts.fits c.args.key x v w walk h

pub returns-in-Missing-clause-rest : goal.returns-in-Missing-clause-rest
returns-in-Missing-clause-rest g c =
    let v : View = c.args.pass.now.knows in
    let w : View = c.seek_in.new.pass.knows in
    let walk = walks_rise g.F.Facts.fits v w c.in-Missing.ensures.walk in
    rises_rest v w walk c.requires.rest

pub returns-in-Missing-clause-follows : goal.returns-in-Missing-clause-follows
returns-in-Missing-clause-follows g c =
    let v : View = c.args.pass.now.knows in
    let w : View = c.seek_in.new.pass.knows in
    let walk = walks_rise g.F.Facts.fits v w c.in-Missing.ensures.walk in
    rises_follow c.args.pass.now c.seek_in.new.pass (c.in-Missing.ensures.of.table ∙ (ap (λ (t : CellsView). t.table) c.self.view_is ∙ sym c.requires.of.table)) walk

pub returns-in-Missing-clause-find : goal.returns-in-Missing-clause-find
returns-in-Missing-clause-find g c =
    let v : View = c.args.pass.now.knows in
    let w : View = c.seek_in.new.pass.knows in
    let walk = walks_rise g.F.Facts.fits v w c.in-Missing.ensures.walk in
    finds_at g.F.Facts.fits c.args.self.now.tag c.args.key v w _ c.requires.of.tag walk c.in-Missing.ensures.walk.facts (sym c.in-Missing.ensures.ended)

pub returns-in-Missing-clause-kept : goal.returns-in-Missing-clause-kept
returns-in-Missing-clause-kept g c x h =
    let v : View = c.args.pass.now.knows in
    let w : View = c.seek_in.new.pass.knows in
    let walk = walks_rise g.F.Facts.fits v w c.in-Missing.ensures.walk in
    absurd (kept_lacks g.F.Facts.fits c.args.key x v w walk c.in-Missing.ensures.ended h)

pub returns-clause-rest : goal.returns-clause-rest
returns-clause-rest g c =
    let v : View = c.args.pass.now.knows in
    let u : View = c.current-generation.new.pass.knows in
    let w : View = c.seek_from.new.pass.knows in
    let risen = walk_then_current g.F.Facts.fits c.current-generation.result v c.seek_in.new.pass.knows u c.seek_in.ensures.walk c.current-generation.ensures.seen in
    let walk = current_then_walk g.F.Facts.fits v u w risen c.seek_from.ensures.walk in
    rises_rest v w walk c.requires.rest

pub returns-clause-follows : goal.returns-clause-follows
returns-clause-follows g c =
    let v : View = c.args.pass.now.knows in
    let u : View = c.current-generation.new.pass.knows in
    let w : View = c.seek_from.new.pass.knows in
    let risen = walk_then_current g.F.Facts.fits c.current-generation.result v c.seek_in.new.pass.knows u c.seek_in.ensures.walk c.current-generation.ensures.seen in
    let walk = current_then_walk g.F.Facts.fits v u w risen c.seek_from.ensures.walk in
    rises_follow c.args.pass.now c.seek_from.new.pass (c.seek_from.ensures.of.table ∙ (ap (λ (t : CellsView). t.table) c.self.view_is ∙ sym c.requires.of.table)) walk

pub returns-clause-find : goal.returns-clause-find
returns-clause-find g c =
    let v : View = c.args.pass.now.knows in
    let u : View = c.current-generation.new.pass.knows in
    let w : View = c.seek_from.new.pass.knows in
    let risen = walk_then_current g.F.Facts.fits c.current-generation.result v c.seek_in.new.pass.knows u c.seek_in.ensures.walk c.current-generation.ensures.seen in
    let walk = current_then_walk g.F.Facts.fits v u w risen c.seek_from.ensures.walk in
    let is = answer_is c.seek_from.result (value_in w.front c.args.key) c.seek_from.ensures.some c.seek_from.ensures.none in
    finds_at g.F.Facts.fits c.args.self.now.tag c.args.key v w c.seek_from.result c.requires.of.tag walk c.seek_from.ensures.walk.facts is

pub returns-clause-kept : goal.returns-clause-kept
returns-clause-kept g c x h =
    let v : View = c.args.pass.now.knows in
    let u : View = c.current-generation.new.pass.knows in
    let w : View = c.seek_from.new.pass.knows in
    let risen = walk_then_current g.F.Facts.fits c.current-generation.result v c.seek_in.new.pass.knows u c.seek_in.ensures.walk c.current-generation.ensures.seen in
    let walk = current_then_walk g.F.Facts.fits v u w risen c.seek_from.ensures.walk in
    let is = answer_is c.seek_from.result (value_in w.front c.args.key) c.seek_from.ensures.some c.seek_from.ensures.none in
    is ∙ still_found g.F.Facts.fits c.args.key x v w walk h
