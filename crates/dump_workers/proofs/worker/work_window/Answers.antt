use Rattle.std.proofs.Common.{◌∙◌, ◌++◌, ◌∷◌, [], ℕ, refl, ap, subst, sym, arith, ◌≡◌}
use Rattle.std.proofs.lemmas.List.Elements.{All-nil, All-push}
use Rattle.elf_sections.specs.Shapes.{SectionsView}
use Rattle.map_cells.specs.FollowLaws.{follows_same, follows_then}
use Rattle.handle_cache.specs.Handles.{sections_in}
use Rattle.unit_draws.specs.declared.view.DrawView.{DrawView}
use Rattle.unit_draws.specs.Seats.{occurrences}
use Rattle.unit_draws.specs.Windows.{IsUnitOfWindow}
use Rattle.unit_draws.proofs.Occurrences.{occurrences-nil}
use Rattle.unit_headers.specs.Headers.{unit_count}
use Rattle.dump_workers.specs.declared.reading.Reading.{Reading}
use Rattle.dump_workers.specs.Readings.{IsRead, IsReading}
use Rattle.dump_workers.proofs.DrawLaws.{keeps_same, keeps_then, serves_whole}
use Rattle.dump_workers.proofs.UnitKeys.{counts_same, counts_then, gains_same, gains_then}
use Rattle.dump_workers.proofs.ReadingLaws.{drawn_more, notes_more, notes_none, reading_of}
use Rattle.dump_workers.proofs.worker.work_window.Goals as goal

pub units-init : goal.units-init
units-init g c =
    let s = sections_in c.args.handle.now in
    let none = c.new-readings.ensures.items in record {
      belongs = c.requires.belongs;
      follows = follows_same c.args.pass.now;
      of_draws = c.requires.of;
      keeps = keeps_same c.args.seat.now.knows;
      ended = refl;
      drawn = λ u. rw none (let zero_more = occurrences-nil u in omega arith);
      each = rw none (All-nil (IsReading s c.args.window));
      noted = rw none (notes_none s c.args.pass.now);
      gains = gains_same s c.args.pass.now;
      counts = counts_same s c.args.pass.now c.args.steps.now;
      walks = c.new-walker.ensures ∙ ap (λ (x : SectionsView). x.«abbrev») c.sections.ensures.sections;
      goes = g.met.D.Desk.stays c.args.desk.now;
    }

pub units-preserved : goal.units-preserved
units-preserved g c =
    let s = sections_in c.args.handle.now in
    let before = c.units.invariant in
    let unit : ℕ = c.in-Some.unit in
    let r : Reading = c.in-Ok-hand.reading in
    let same : r.unit ≡ unit = c.in-Ok-hand.ensures.unit ∙ c.in-Ok.ensures.unit in
    let read : IsRead s unit r.read = subst (λ (u : ℕ). IsRead s u r.read) same (subst (λ (x : SectionsView). IsRead x r.unit r.read) (sym c.requires.name) c.in-Ok-hand.ensures.read) in
    let added : c.add_reading.new.readings.items ≡ c.units.readings.items ++ r ∷ [] = c.in-Ok-add_reading.ensures in
    let drew = c.in-Some.ensures.drawn in
    let told = c.in-Ok.ensures.keeps in
    let inside : IsUnitOfWindow (unit_count s.info s.order) c.args.window unit = subst (λ (n : ℕ). IsUnitOfWindow n c.args.window unit) c.requires.units c.in-Some.ensures.unit in
    record {
      belongs = c.in-Ok.ensures.belongs;
      follows = follows_then c.args.pass.now c.units.pass c.read_drawn-read.new.pass before.follows c.in-Ok.ensures.follows;
      of_draws = c.in-Ok.ensures.of;
      keeps = keeps_then c.args.seat.now.knows c.draw.new.seat.knows c.read_drawn-read.new.seat.knows
          (keeps_then c.args.seat.now.knows c.units.seat.knows c.draw.new.seat.knows before.keeps c.in-Some.ensures.numbers) told.numbers;
      ended = told.ended ∙ ap (λ (v : DrawView). v.ended) drew ∙ before.ended;
      drawn = λ u. ap (occurrences u) (told.drawn ∙ ap (λ (v : DrawView). v.drawn) drew) ∙ rw added (drawn_more u unit c.args.seat.now.knows.drawn c.units.seat.knows.drawn c.units.readings.items r same (before.drawn u));
      each = rw added (All-push (IsReading s c.args.window) c.units.readings.items r before.each (reading_of s c.args.window unit r same inside read));
      noted = rw added (notes_more s c.units.pass c.read_drawn-read.new.pass unit c.units.readings.items r same c.in-Ok.ensures.follows before.noted c.in-Ok.ensures.noted);
      gains = gains_then s c.args.pass.now c.units.pass c.read_drawn-read.new.pass before.gains c.in-Ok.ensures.gains;
      counts = counts_then s c.args.pass.now c.units.pass c.args.steps.now c.units.steps c.read_drawn-read.new.steps before.follows before.counts c.in-Ok.ensures.counts;
      walks = c.in-Ok.ensures.walks;
      goes = g.met.D.Desk.together c.args.desk.now c.text_for-text.new.desk c.hand.new.self
          (g.met.D.Desk.together c.args.desk.now c.units.desk c.text_for-text.new.desk before.goes c.text_for-text.ensures) c.hand.ensures.goes;
    }

pub returns-clause-serves : goal.returns-clause-serves
returns-clause-serves g c =
    let before = c.units.invariant in
    serves_whole c.args.draws.now (sections_in c.args.handle.now) c.args.window c.args.seat.now.knows c.units.seat c.draw.new.seat c.units.readings.items
    c.in_default.ensures.of before.keeps c.in_default.ensures.numbers before.ended before.drawn before.each
    c.in_default.ensures.ended c.in_default.ensures.whole

pub returns-in-Err-clause-counts : goal.returns-in-Err-clause-counts
returns-in-Err-clause-counts g c =
    let before = c.units.invariant in
    counts_then (sections_in c.args.handle.now) c.args.pass.now c.units.pass c.args.steps.now c.units.steps c.read_drawn-read.new.steps before.follows before.counts c.in-Err.ensures.counts

pub returns-in-Err-add_reading-clause-counts : goal.returns-in-Err-add_reading-clause-counts
returns-in-Err-add_reading-clause-counts g c =
    let before = c.units.invariant in
    counts_then (sections_in c.args.handle.now) c.args.pass.now c.units.pass c.args.steps.now c.units.steps c.read_drawn-read.new.steps before.follows before.counts c.in-Ok.ensures.counts

pub returns-in-Err-hand-clause-counts : goal.returns-in-Err-hand-clause-counts
returns-in-Err-hand-clause-counts g c =
    let before = c.units.invariant in
    counts_then (sections_in c.args.handle.now) c.args.pass.now c.units.pass c.args.steps.now c.units.steps c.read_drawn-read.new.steps before.follows before.counts c.in-Ok.ensures.counts

pub returns-in-Err-hand-clause-goes : goal.returns-in-Err-hand-clause-goes
returns-in-Err-hand-clause-goes g c =
    g.met.D.Desk.together c.args.desk.now c.text_for-text.new.desk c.hand.new.self
    (g.met.D.Desk.together c.args.desk.now c.units.desk c.text_for-text.new.desk c.units.invariant.goes c.text_for-text.ensures) c.hand.ensures.goes
