use Rattle.std.proofs.Common.{◌≡◌, ◌<◌, ◌-◌, ℕ, sym, ap, subst, ◌∙◌}
use Rattle.atomic_table.specs.Table.{Splits}
use Rattle.map_core.specs.declared.view.View.{View}
use Rattle.map_core.specs.declared.places.TheConstants.{CURRENT_WORD}
use Rattle.map_core.specs.Passes.{PassFacts}
use Rattle.map_core.specs.Knowing.{halved, newcomer}
use Rattle.map_core.proofs.FactLemmas.{halved_facts, newcomer_facts}
use Rattle.map_cells.specs.declared.about.About.{About}
use Rattle.map_cells.specs.Seen.{PassView, IsOf, Continues}
use Rattle.map_cells.specs.FollowLaws.{of_continues}
use Rattle.map_cells.specs.Passing.{IsSplit}
use Rattle.map_cells.specs.Rule.{TableHolds}
use Rattle.map_cells.proofs.WordSteps.{has_current}
use Rattle.map_cells.proofs.Openings.{splits}
use Rattle.map_cells.proofs.CallFacts.{is_split}
use Rattle.map_cells.proofs.StepFacts.{seated, split_continues}
use Rattle.map_cells.proofs.cells.Cells.split.Goals as goal

pub split_seat-seat-requires : goal.split_seat-seat-requires
split_seat-seat-requires g c =
    let key = c.self.inside.table.shared.key in
    let v : View = c.pass.inside.seat.me.0 in
    let seat = seated c.args.self.now c.args.pass.now c.pass.inside.seat.table_id c.self.inside.table.shared.table_id v c.self.inside.layout key c.self.view_is c.pass.view_is c.self.invariant.0 c.requires.of in
    let spare = subst (λ (p : PassView). 0 < p.knows.spare) (sym c.pass.view_is) c.requires.spare in (
      seat.tables,
      subst (λ (n : ℕ). CURRENT_WORD < n) (sym c.self.invariant.1) (has_current c.self.inside.layout),
      subst (λ (x : About). Splits (TableHolds g.F.Facts.fits x) c.pass.inside.seat.id v (halved v) (newcomer v)) seat.about_is (splits g.F.Facts.fits key.tag c.pass.inside.seat.id v c.pass.invariant.facts spare),
    )

pub invariant_of-pass : goal.invariant_of-pass
invariant_of-pass g c =
    let v : View = c.pass.inside.seat.me.0 in
    let me = c.split_seat-seat.ensures.2 in
    let half : c.split_seat-seat.new.seat.me.0 ≡ halved v = ap (λ m. m.0) me in
    let spare = subst (λ (p : PassView). 0 < p.knows.spare) (sym c.pass.view_is) c.requires.spare in
    record {
      slots = ap (λ m. m.1) me ∙ c.pass.invariant.slots;
      number = c.pass.invariant.number ∙ sym (ap (λ (x : View). x.number) half);
      spare = ap (λ (n : ℕ). n - 1) c.pass.invariant.spare ∙ sym (ap (λ (x : View). x.spare) half);
      entries = c.pass.invariant.entries ∙ sym (ap (λ (x : View). x.counted) half);
      count_seen = c.pass.invariant.count_seen ∙ sym (ap (λ (x : View). x.count_seen) half);
      generation = c.pass.invariant.generation ∙ sym (ap (λ (x : View). x.generation) half);
      facts = subst (PassFacts g.F.Facts.fits) (sym half) (halved_facts g.F.Facts.fits v spare c.pass.invariant.facts);
    }

pub invariant_of-result : goal.invariant_of-result
invariant_of-result g c =
    let v : View = c.pass.inside.seat.me.0 in
    let key = c.self.inside.table.shared.key in
    let me = c.split_seat-seat.ensures.4 in
    let new : c.split_seat-seat.result.me.0 ≡ newcomer v = ap (λ m. m.0) me in
    let spare = subst (λ (p : PassView). 0 < p.knows.spare) (sym c.pass.view_is) c.requires.spare in
    let seat = seated c.args.self.now c.args.pass.now c.pass.inside.seat.table_id c.self.inside.table.shared.table_id v c.self.inside.layout key c.self.view_is c.pass.view_is c.self.invariant.0 c.requires.of in
    record {
      slots = ap (λ m. m.1) me;
      number = (λ k. (sym seat.inside k).passes - c.pass.invariant.spare k) ∙ sym (ap (λ (x : View). x.number) new);
      spare = sym (ap (λ (x : View). x.spare) new);
      entries = sym (ap (λ (x : View). x.counted) new);
      count_seen = c.pass.invariant.count_seen ∙ sym (ap (λ (x : View). x.count_seen) new);
      generation = c.pass.invariant.generation ∙ sym (ap (λ (x : View). x.generation) new);
      facts = subst (PassFacts g.F.Facts.fits) (sym new) (newcomer_facts g.F.Facts.fits v spare c.pass.invariant.facts);
    }

pub returns-clause-passes : goal.returns-clause-passes
returns-clause-passes g c =
    let v : View = c.pass.inside.seat.me.0 in
    let half : c.split_seat-seat.new.seat.me.0 ≡ halved v = ap (λ m. m.0) c.split_seat-seat.ensures.2 in
    let new : c.split_seat-seat.result.me.0 ≡ newcomer v = ap (λ m. m.0) c.split_seat-seat.ensures.4 in
    let spare = subst (λ (p : PassView). 0 < p.knows.spare) (sym c.pass.view_is) c.requires.spare in
    subst (λ (p : PassView). IsSplit g.F.Facts.fits p.knows c.split_seat-seat.new.seat.me.0 c.split_seat-seat.result.me.0) c.pass.view_is
    (is_split g.F.Facts.fits v c.split_seat-seat.new.seat.me.0 c.split_seat-seat.result.me.0 half new spare c.pass.invariant.facts)

pub returns-clause-continues : goal.returns-clause-continues
returns-clause-continues g c =
    let v : View = c.pass.inside.seat.me.0 in
    let half : c.split_seat-seat.new.seat.me.0 ≡ halved v = ap (λ m. m.0) c.split_seat-seat.ensures.2 in
    subst (λ (p : PassView). Continues p record { table = c.split_seat-seat.new.seat.table_id; knows = c.split_seat-seat.new.seat.me.0 }) c.pass.view_is
    (split_continues record { table = c.pass.inside.seat.table_id; knows = v } record { table = c.split_seat-seat.new.seat.table_id; knows = c.split_seat-seat.new.seat.me.0 } c.split_seat-seat.ensures.0 half)

pub returns-clause-of : goal.returns-clause-of
returns-clause-of g c =
    let v : View = c.pass.inside.seat.me.0 in
    let new : c.split_seat-seat.result.me.0 ≡ newcomer v = ap (λ m. m.0) c.split_seat-seat.ensures.4 in
    let old : IsOf c.args.self.now record { table = c.pass.inside.seat.table_id; knows = v } = subst (IsOf c.args.self.now) (sym c.pass.view_is) c.requires.of in (
      of_continues c.args.self.now c.args.pass.now record { table = c.split_seat-seat.new.seat.table_id; knows = c.split_seat-seat.new.seat.me.0 } c.requires.of (returns-clause-continues g c),
      record { table = c.split_seat-seat.ensures.3 ∙ old.table; layout = ap (λ (x : View). x.layout) new ∙ old.layout; tag = ap (λ (x : View). x.tag) new ∙ old.tag },
    )
