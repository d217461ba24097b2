use Rattle.std.proofs.Common.{◌≡◌, ◌≤◌, ℕ, length, inl, refl, sym, ap, subst, ◌∙◌, List, Ok}
use Rattle.map_core.specs.declared.layout.Layout.{Layout}
use Rattle.map_core.specs.declared.view.View.{View}
use Rattle.map_core.specs.Places.{Within}
use Rattle.map_cells.specs.Seen.{CellsView}
use Rattle.map_cells.proofs.WalkLemmas.{closed_here}
use Rattle.share_map.specs.declared.answers.Kept.TheVariants.{Found}
use Rattle.share_map.proofs.PointLemmas.{rises_follow, rises_rest, walk_then_current, current_then_walk, current_in, found_at, full_at, full_seen, kept_found, kept_lacks, some_uncounted, counted_rest, few_own, same_generation, placed_at, placed_new, placed_follow}
use Rattle.share_map.proofs.table.Table.insert.Goals as goal

pub seek_from-requires-clause-current : goal.seek_from-requires-clause-current
seek_from-requires-clause-current g c =
    let v : View = c.args.pass.now.knows in
    let u : View = c.current-generation.new.pass.knows in
    let at : ℕ = c.current-generation.result in
    let seen = walk_then_current g.F.Facts.fits at v c.last_count-seen.new.pass.knows u c.last_count-seen.ensures.walk c.current-generation.ensures.seen in
    let current = current_in g.F.Facts.fits at c.last_count-seen.new.pass.knows u c.current-generation.ensures.seen in
    current

pub put_from-requires-clause-generation : goal.put_from-requires-clause-generation
put_from-requires-clause-generation g c =
    let v : View = c.args.pass.now.knows in
    let u : View = c.current-generation.new.pass.knows in
    let at : ℕ = c.current-generation.result in
    let seen = walk_then_current g.F.Facts.fits at v c.last_count-seen.new.pass.knows u c.last_count-seen.ensures.walk c.current-generation.ensures.seen in
    let current = current_in g.F.Facts.fits at c.last_count-seen.new.pass.knows u c.current-generation.ensures.seen in
    let same : u.layout ≡ c.self.inside.cells.layout = (seen.layout ∙ c.requires.of.layout) ∙ sym (ap (λ (t : CellsView). t.layout) c.self.view_is) in
    subst (λ (l : Layout). Within l at) same (c.current-generation.ensures.seen.facts.currents at current)

pub put_from-requires-clause-may : goal.put_from-requires-clause-may
put_from-requires-clause-may g c =
    let v : View = c.args.pass.now.knows in
    let u : View = c.current-generation.new.pass.knows in
    let at : ℕ = c.current-generation.result in
    let seen = walk_then_current g.F.Facts.fits at v c.last_count-seen.new.pass.knows u c.last_count-seen.ensures.walk c.current-generation.ensures.seen in
    let current = current_in g.F.Facts.fits at c.last_count-seen.new.pass.knows u c.current-generation.ensures.seen in
    inl (subst (λ (t : List ℕ). g.F.Facts.fits t c.args.key c.args.value) (sym (seen.tag ∙ c.requires.of.tag)) c.requires.fits, current)

pub put_from-requires-clause-free : goal.put_from-requires-clause-free
put_from-requires-clause-free g c =
    let v : View = c.args.pass.now.knows in
    let u : View = c.current-generation.new.pass.knows in
    let at : ℕ = c.current-generation.result in
    let seen = walk_then_current g.F.Facts.fits at v c.last_count-seen.new.pass.knows u c.last_count-seen.ensures.walk c.current-generation.ensures.seen in
    seen.claim c.requires.rest.claim

pub returns-in-Some-clause-rest : goal.returns-in-Some-clause-rest
returns-in-Some-clause-rest g c =
    let v : View = c.args.pass.now.knows in
    let u : View = c.current-generation.new.pass.knows in
    let at : ℕ = c.current-generation.result in
    let seen = walk_then_current g.F.Facts.fits at v c.last_count-seen.new.pass.knows u c.last_count-seen.ensures.walk c.current-generation.ensures.seen in
    let w : View = c.seek_from.new.pass.knows in
    let walk = current_then_walk g.F.Facts.fits v u w seen c.in-Some.ensures.walk in
    rises_rest v w walk c.requires.rest

pub returns-in-Some-clause-follows : goal.returns-in-Some-clause-follows
returns-in-Some-clause-follows g c =
    let v : View = c.args.pass.now.knows in
    let u : View = c.current-generation.new.pass.knows in
    let at : ℕ = c.current-generation.result in
    let seen = walk_then_current g.F.Facts.fits at v c.last_count-seen.new.pass.knows u c.last_count-seen.ensures.walk c.current-generation.ensures.seen in
    let w : View = c.seek_from.new.pass.knows in
    let walk = current_then_walk g.F.Facts.fits v u w seen c.in-Some.ensures.walk in
    rises_follow c.args.pass.now c.seek_from.new.pass (c.in-Some.ensures.of.table ∙ (ap (λ (t : CellsView). t.table) c.self.view_is ∙ sym c.requires.of.table)) walk

pub returns-in-Some-clause-insert : goal.returns-in-Some-clause-insert
returns-in-Some-clause-insert g c =
    let v : View = c.args.pass.now.knows in
    let u : View = c.current-generation.new.pass.knows in
    let at : ℕ = c.current-generation.result in
    let seen = walk_then_current g.F.Facts.fits at v c.last_count-seen.new.pass.knows u c.last_count-seen.ensures.walk c.current-generation.ensures.seen in
    let w : View = c.seek_from.new.pass.knows in
    let walk = current_then_walk g.F.Facts.fits v u w seen c.in-Some.ensures.walk in
    found_at g.F.Facts.fits c.args.self.now.tag c.args.key c.in-Some.found v w c.requires.of.tag walk c.in-Some.ensures.walk.facts c.in-Some.ensures.some

pub returns-in-Some-clause-kept : goal.returns-in-Some-clause-kept
returns-in-Some-clause-kept g c x h =
    let v : View = c.args.pass.now.knows in
    let u : View = c.current-generation.new.pass.knows in
    let at : ℕ = c.current-generation.result in
    let seen = walk_then_current g.F.Facts.fits at v c.last_count-seen.new.pass.knows u c.last_count-seen.ensures.walk c.current-generation.ensures.seen in
    let w : View = c.seek_from.new.pass.knows in
    let walk = current_then_walk g.F.Facts.fits v u w seen c.in-Some.ensures.walk in
    ap (λ (n : ℕ). Ok (Found n)) (kept_found g.F.Facts.fits c.args.key x c.in-Some.found v w walk c.in-Some.ensures.some h)

pub returns-in-Found-clause-rest : goal.returns-in-Found-clause-rest
returns-in-Found-clause-rest g c =
    let v : View = c.args.pass.now.knows in
    let u : View = c.current-generation.new.pass.knows in
    let at : ℕ = c.current-generation.result in
    let seen = walk_then_current g.F.Facts.fits at v c.last_count-seen.new.pass.knows u c.last_count-seen.ensures.walk c.current-generation.ensures.seen in
    let w : View = c.put_from.new.pass.knows in
    let walk = current_then_walk g.F.Facts.fits v u w seen c.in-Found.ensures.put.walks in
    rises_rest v w walk c.requires.rest

pub returns-in-Found-clause-follows : goal.returns-in-Found-clause-follows
returns-in-Found-clause-follows g c =
    let v : View = c.args.pass.now.knows in
    let u : View = c.current-generation.new.pass.knows in
    let at : ℕ = c.current-generation.result in
    let seen = walk_then_current g.F.Facts.fits at v c.last_count-seen.new.pass.knows u c.last_count-seen.ensures.walk c.current-generation.ensures.seen in
    let w : View = c.put_from.new.pass.knows in
    let walk = current_then_walk g.F.Facts.fits v u w seen c.in-Found.ensures.put.walks in
    rises_follow c.args.pass.now c.put_from.new.pass (c.in-Found.ensures.of.table ∙ (ap (λ (t : CellsView). t.table) c.self.view_is ∙ sym c.requires.of.table)) walk

pub returns-in-Found-clause-insert : goal.returns-in-Found-clause-insert
returns-in-Found-clause-insert g c =
    let v : View = c.args.pass.now.knows in
    let u : View = c.current-generation.new.pass.knows in
    let at : ℕ = c.current-generation.result in
    let seen = walk_then_current g.F.Facts.fits at v c.last_count-seen.new.pass.knows u c.last_count-seen.ensures.walk c.current-generation.ensures.seen in
    let w : View = c.put_from.new.pass.knows in
    let walk = current_then_walk g.F.Facts.fits v u w seen c.in-Found.ensures.put.walks in
    found_at g.F.Facts.fits c.args.self.now.tag c.args.key c.in-Found.found v w c.requires.of.tag walk c.in-Found.ensures.put.walks.facts c.in-Found.ensures.put.value

pub returns-in-Found-clause-kept : goal.returns-in-Found-clause-kept
returns-in-Found-clause-kept g c x h =
    let v : View = c.args.pass.now.knows in
    let u : View = c.current-generation.new.pass.knows in
    let at : ℕ = c.current-generation.result in
    let seen = walk_then_current g.F.Facts.fits at v c.last_count-seen.new.pass.knows u c.last_count-seen.ensures.walk c.current-generation.ensures.seen in
    let w : View = c.put_from.new.pass.knows in
    let walk = current_then_walk g.F.Facts.fits v u w seen c.in-Found.ensures.put.walks in
    ap (λ (n : ℕ). Ok (Found n)) (kept_found g.F.Facts.fits c.args.key x c.in-Found.found v w walk c.in-Found.ensures.put.value h)

pub returns-in-None-clause-rest : goal.returns-in-None-clause-rest
returns-in-None-clause-rest g c =
    let v : View = c.args.pass.now.knows in
    let u : View = c.current-generation.new.pass.knows in
    let at : ℕ = c.current-generation.result in
    let seen = walk_then_current g.F.Facts.fits at v c.last_count-seen.new.pass.knows u c.last_count-seen.ensures.walk c.current-generation.ensures.seen in
    let w : View = c.seek_from.new.pass.knows in
    let walk = current_then_walk g.F.Facts.fits v u w seen c.in-None.ensures.walk in
    rises_rest v w walk c.requires.rest

pub returns-in-None-clause-follows : goal.returns-in-None-clause-follows
returns-in-None-clause-follows g c =
    let v : View = c.args.pass.now.knows in
    let u : View = c.current-generation.new.pass.knows in
    let at : ℕ = c.current-generation.result in
    let seen = walk_then_current g.F.Facts.fits at v c.last_count-seen.new.pass.knows u c.last_count-seen.ensures.walk c.current-generation.ensures.seen in
    let w : View = c.seek_from.new.pass.knows in
    let walk = current_then_walk g.F.Facts.fits v u w seen c.in-None.ensures.walk in
    rises_follow c.args.pass.now c.seek_from.new.pass (c.in-None.ensures.of.table ∙ (ap (λ (t : CellsView). t.table) c.self.view_is ∙ sym c.requires.of.table)) walk

pub returns-in-None-clause-insert : goal.returns-in-None-clause-insert
returns-in-None-clause-insert g c =
    let v : View = c.args.pass.now.knows in
    let u : View = c.current-generation.new.pass.knows in
    let at : ℕ = c.current-generation.result in
    let seen = walk_then_current g.F.Facts.fits at v c.last_count-seen.new.pass.knows u c.last_count-seen.ensures.walk c.current-generation.ensures.seen in
    let w : View = c.seek_from.new.pass.knows in
    let walk = current_then_walk g.F.Facts.fits v u w seen c.in-None.ensures.walk in
    let same : c.layout.result.now.capacity ≡ c.args.self.now.layout.capacity = ap (λ (l : Layout). l.capacity) (c.layout.ensures ∙ ap (λ (t : CellsView). t.layout) c.self.view_is) in
    let capacity : ℕ = c.args.self.now.layout.capacity in
    let n : ℕ = c.last_count-seen.result in
    let reached : capacity ≤ n = subst (λ (x : ℕ). x ≤ n) same c.if-seen-capacity.true in
    let later = current_then_walk g.F.Facts.fits c.last_count-seen.new.pass.knows u w c.current-generation.ensures.seen.rises c.in-None.ensures.walk in
    full_at g.F.Facts.fits c.args.self.now.tag capacity c.args.key v w c.requires.of.tag walk c.in-None.ensures.walk.facts c.in-None.ensures.none
    (full_seen g.F.Facts.fits capacity n c.last_count-seen.new.pass.knows w c.last_count-seen.ensures.walk.facts later c.last_count-seen.ensures.seen reached)

pub returns-in-None-clause-kept : goal.returns-in-None-clause-kept
returns-in-None-clause-kept g c x h =
    let v : View = c.args.pass.now.knows in
    let u : View = c.current-generation.new.pass.knows in
    let at : ℕ = c.current-generation.result in
    let seen = walk_then_current g.F.Facts.fits at v c.last_count-seen.new.pass.knows u c.last_count-seen.ensures.walk c.current-generation.ensures.seen in
    let w : View = c.seek_from.new.pass.knows in
    let walk = current_then_walk g.F.Facts.fits v u w seen c.in-None.ensures.walk in
    absurd (kept_lacks g.F.Facts.fits c.args.key x v w walk c.in-None.ensures.none h)

pub returns-in-Exhausted-clause-rest : goal.returns-in-Exhausted-clause-rest
returns-in-Exhausted-clause-rest g c =
    let v : View = c.args.pass.now.knows in
    let u : View = c.current-generation.new.pass.knows in
    let at : ℕ = c.current-generation.result in
    let seen = walk_then_current g.F.Facts.fits at v c.last_count-seen.new.pass.knows u c.last_count-seen.ensures.walk c.current-generation.ensures.seen in
    let w : View = c.put_from.new.pass.knows in
    let walk = current_then_walk g.F.Facts.fits v u w seen c.in-Exhausted.ensures.put.walks in
    rises_rest v w walk c.requires.rest

pub returns-in-Exhausted-clause-follows : goal.returns-in-Exhausted-clause-follows
returns-in-Exhausted-clause-follows g c =
    let v : View = c.args.pass.now.knows in
    let u : View = c.current-generation.new.pass.knows in
    let at : ℕ = c.current-generation.result in
    let seen = walk_then_current g.F.Facts.fits at v c.last_count-seen.new.pass.knows u c.last_count-seen.ensures.walk c.current-generation.ensures.seen in
    let w : View = c.put_from.new.pass.knows in
    let walk = current_then_walk g.F.Facts.fits v u w seen c.in-Exhausted.ensures.put.walks in
    rises_follow c.args.pass.now c.put_from.new.pass (c.in-Exhausted.ensures.of.table ∙ (ap (λ (t : CellsView). t.table) c.self.view_is ∙ sym c.requires.of.table)) walk

pub returns-in-Exhausted-clause-insert : goal.returns-in-Exhausted-clause-insert
returns-in-Exhausted-clause-insert g c =
    let v : View = c.args.pass.now.knows in
    let u : View = c.current-generation.new.pass.knows in
    let at : ℕ = c.current-generation.result in
    let seen = walk_then_current g.F.Facts.fits at v c.last_count-seen.new.pass.knows u c.last_count-seen.ensures.walk c.current-generation.ensures.seen in
    let w : View = c.put_from.new.pass.knows in
    let walk = current_then_walk g.F.Facts.fits v u w seen c.in-Exhausted.ensures.put.walks in
    let current = current_in g.F.Facts.fits at c.last_count-seen.new.pass.knows u c.current-generation.ensures.seen in
    let put = c.in-Exhausted.ensures.put in
    let same : w.layout ≡ c.args.self.now.layout = walk.layout ∙ c.requires.of.layout in
    full_at g.F.Facts.fits c.args.self.now.tag c.args.self.now.layout.capacity c.args.key v w c.requires.of.tag walk put.walks.facts (put.lacks current)
    (subst (λ (l : Layout). l.capacity ≤ length w.front) same put.full)

pub returns-in-Exhausted-clause-kept : goal.returns-in-Exhausted-clause-kept
returns-in-Exhausted-clause-kept g c x h =
    let v : View = c.args.pass.now.knows in
    let u : View = c.current-generation.new.pass.knows in
    let at : ℕ = c.current-generation.result in
    let seen = walk_then_current g.F.Facts.fits at v c.last_count-seen.new.pass.knows u c.last_count-seen.ensures.walk c.current-generation.ensures.seen in
    let w : View = c.put_from.new.pass.knows in
    let walk = current_then_walk g.F.Facts.fits v u w seen c.in-Exhausted.ensures.put.walks in
    let current = current_in g.F.Facts.fits at c.last_count-seen.new.pass.knows u c.current-generation.ensures.seen in
    absurd (kept_lacks g.F.Facts.fits c.args.key x v w walk (c.in-Exhausted.ensures.put.lacks current) h)

pub count-count-requires-clause-uncounted : goal.count-count-requires-clause-uncounted
count-count-requires-clause-uncounted g c =
    let v : View = c.args.pass.now.knows in
    let u : View = c.current-generation.new.pass.knows in
    let at : ℕ = c.current-generation.result in
    let seen = walk_then_current g.F.Facts.fits at v c.last_count-seen.new.pass.knows u c.last_count-seen.ensures.walk c.current-generation.ensures.seen in
    let current = current_in g.F.Facts.fits at c.last_count-seen.new.pass.knows u c.current-generation.ensures.seen in
    let p : View = c.put_from.new.pass.knows in
    let put = c.in-Placed.ensures.put in
    let fit = c.requires.fits in
    some_uncounted g.F.Facts.fits c.args.key c.args.value u p (put.fresh (subst (λ (t : List ℕ). g.F.Facts.fits t c.args.key c.args.value) (sym (seen.tag ∙ c.requires.of.tag)) fit) (closed_here u at c.args.key current))

pub relieve_from-requires-clause-rest : goal.relieve_from-requires-clause-rest
relieve_from-requires-clause-rest g c =
    let v : View = c.args.pass.now.knows in
    let u : View = c.current-generation.new.pass.knows in
    let at : ℕ = c.current-generation.result in
    let seen = walk_then_current g.F.Facts.fits at v c.last_count-seen.new.pass.knows u c.last_count-seen.ensures.walk c.current-generation.ensures.seen in
    let current = current_in g.F.Facts.fits at c.last_count-seen.new.pass.knows u c.current-generation.ensures.seen in
    let p : View = c.put_from.new.pass.knows in
    let put = c.in-Placed.ensures.put in
    let fit = c.requires.fits in
    counted_rest g.F.Facts.fits c.args.self.now.tag at c.args.key c.args.value c.count-count.result v u p c.count-count.new.pass.knows c.count-count.new.pass.knows c.requires.of.tag fit current seen put c.count-count.ensures.raised c.requires.rest.uncounted

pub relieve_from-requires-clause-here : goal.relieve_from-requires-clause-here
relieve_from-requires-clause-here g c =
    let v : View = c.args.pass.now.knows in
    let u : View = c.current-generation.new.pass.knows in
    let at : ℕ = c.current-generation.result in
    let seen = walk_then_current g.F.Facts.fits at v c.last_count-seen.new.pass.knows u c.last_count-seen.ensures.walk c.current-generation.ensures.seen in
    let current = current_in g.F.Facts.fits at c.last_count-seen.new.pass.knows u c.current-generation.ensures.seen in
    let p : View = c.put_from.new.pass.knows in
    let put = c.in-Placed.ensures.put in
    let fit = c.requires.fits in
    same_generation g.F.Facts.fits c.args.self.now.tag at c.args.key c.args.value c.count-count.result v u p c.count-count.new.pass.knows c.count-count.new.pass.knows c.requires.of.tag fit current seen put c.count-count.ensures.raised c.current-generation.ensures.seen.generation

pub relieve_from-requires-clause-few : goal.relieve_from-requires-clause-few
relieve_from-requires-clause-few g c =
    let v : View = c.args.pass.now.knows in
    let u : View = c.current-generation.new.pass.knows in
    let at : ℕ = c.current-generation.result in
    let seen = walk_then_current g.F.Facts.fits at v c.last_count-seen.new.pass.knows u c.last_count-seen.ensures.walk c.current-generation.ensures.seen in
    let current = current_in g.F.Facts.fits at c.last_count-seen.new.pass.knows u c.current-generation.ensures.seen in
    let p : View = c.put_from.new.pass.knows in
    let put = c.in-Placed.ensures.put in
    let fit = c.requires.fits in
    few_own g.F.Facts.fits c.args.self.now.tag at c.args.key c.args.value c.count-count.result v u p c.count-count.new.pass.knows c.count-count.new.pass.knows c.requires.of.tag fit current seen put c.count-count.ensures.raised c.requires.rest.uncounted

pub relieve_from-requires-clause-most : goal.relieve_from-requires-clause-most
relieve_from-requires-clause-most g c = c.count-count.ensures.raised.high

pub returns-in-Placed-clause-follows : goal.returns-in-Placed-clause-follows
returns-in-Placed-clause-follows g c =
    let v : View = c.args.pass.now.knows in
    let u : View = c.current-generation.new.pass.knows in
    let at : ℕ = c.current-generation.result in
    let seen = walk_then_current g.F.Facts.fits at v c.last_count-seen.new.pass.knows u c.last_count-seen.ensures.walk c.current-generation.ensures.seen in
    let current = current_in g.F.Facts.fits at c.last_count-seen.new.pass.knows u c.current-generation.ensures.seen in
    let p : View = c.put_from.new.pass.knows in
    let put = c.in-Placed.ensures.put in
    let fit = c.requires.fits in
    placed_follow g.F.Facts.fits c.args.self.now.tag at c.args.key c.args.value c.count-count.result v u p c.count-count.new.pass.knows c.relieve_from.new.pass.knows c.requires.of.tag fit current seen put c.count-count.ensures.raised c.relieve_from.ensures.rises c.relieve_from.ensures.facts c.args.pass.now c.relieve_from.new.pass refl refl (c.relieve_from.ensures.of.table ∙ sym c.requires.of.table) c.relieve_from.ensures.rest

pub returns-in-Placed-clause-insert : goal.returns-in-Placed-clause-insert
returns-in-Placed-clause-insert g c =
    let v : View = c.args.pass.now.knows in
    let u : View = c.current-generation.new.pass.knows in
    let at : ℕ = c.current-generation.result in
    let seen = walk_then_current g.F.Facts.fits at v c.last_count-seen.new.pass.knows u c.last_count-seen.ensures.walk c.current-generation.ensures.seen in
    let current = current_in g.F.Facts.fits at c.last_count-seen.new.pass.knows u c.current-generation.ensures.seen in
    let p : View = c.put_from.new.pass.knows in
    let put = c.in-Placed.ensures.put in
    let fit = c.requires.fits in
    (placed_at g.F.Facts.fits c.args.self.now.tag at c.args.key c.args.value c.count-count.result v u p c.count-count.new.pass.knows c.relieve_from.new.pass.knows c.requires.of.tag fit current seen put c.count-count.ensures.raised c.relieve_from.ensures.rises c.relieve_from.ensures.facts, c.relieve_from.ensures.room)

pub returns-in-Placed-clause-kept : goal.returns-in-Placed-clause-kept
returns-in-Placed-clause-kept g c x h =
    let v : View = c.args.pass.now.knows in
    let u : View = c.current-generation.new.pass.knows in
    let at : ℕ = c.current-generation.result in
    let seen = walk_then_current g.F.Facts.fits at v c.last_count-seen.new.pass.knows u c.last_count-seen.ensures.walk c.current-generation.ensures.seen in
    let current = current_in g.F.Facts.fits at c.last_count-seen.new.pass.knows u c.current-generation.ensures.seen in
    let p : View = c.put_from.new.pass.knows in
    let put = c.in-Placed.ensures.put in
    let fit = c.requires.fits in
    absurd (placed_new g.F.Facts.fits c.args.self.now.tag at c.args.key c.args.value c.count-count.result v u p c.count-count.new.pass.knows c.relieve_from.new.pass.knows c.requires.of.tag fit current seen put c.count-count.ensures.raised x h)
