use Rattle.std.proofs.Common.{◌≡◌, ◌≢◌, ◌<◌, ◌+◌, ℕ, None, sym, ap, subst, ◌∙◌, arith}
use mathlib.Core.Option.{none}
use Rattle.atomic_table.specs.Table.{Joins, Allows, step}
use Rattle.map_core.specs.declared.view.View.{View}
use Rattle.map_core.specs.declared.places.TheConstants.{CURRENT_WORD}
use Rattle.map_core.specs.Passes.{AtRest}
use Rattle.map_core.specs.Knowing.{put_together, gone}
use Rattle.map_cells.specs.declared.about.About.{About}
use Rattle.map_cells.specs.Seen.{PassView, Continues}
use Rattle.map_cells.specs.FollowLaws.{of_continues}
use Rattle.map_cells.specs.Passing.{IsJoined}
use Rattle.map_cells.specs.Rule.{TableHolds, Settled}
use Rattle.map_cells.proofs.WordSteps.{has_current}
use Rattle.map_cells.proofs.CallFacts.{placed_small, joined}
use Rattle.map_cells.proofs.Exchanges.{settle_allowed}
use Rattle.map_cells.proofs.Openings.{joins}
use Rattle.map_cells.proofs.StepFacts.{seated, join_continues}
use Rattle.map_cells.proofs.cells.Cells.join.Goals as goal

pub join_seat-requires : goal.join_seat-requires
join_seat-requires g c =
    let key = c.self.inside.table.shared.key in
    let shared = c.self.inside.table.shared.table_id in
    let v : View = c.into.inside.seat.me.0 in
    let u : View = c.from.inside.seat.me.0 in
    let seat = seated c.args.self.now c.args.into.now c.into.inside.seat.table_id shared v c.self.inside.layout key c.self.view_is c.into.view_is c.self.invariant.0 c.requires.of in
    let other = seated c.args.self.now c.args.from c.from.inside.seat.table_id shared u c.self.inside.layout key c.self.view_is c.from.view_is c.self.invariant.0 c.requires.also in
    let free : u.claim ≡ None = ap (λ (p : PassView). p.knows.claim) c.from.view_is ∙ c.requires.quiet.claim in
    let not_first : u.number ≢ 0 = λ e. c.requires.number (sym (ap (λ (p : PassView). p.knows.number) c.from.view_is) ∙ e) in (
      seat.tables,
      other.tables,
      c.from.invariant.slots,
      subst (λ (n : ℕ). CURRENT_WORD < n) (sym c.self.invariant.1) (has_current c.self.inside.layout),
      subst (λ (x : About). Joins (TableHolds g.F.Facts.fits x) c.into.inside.seat.id v c.from.inside.seat.id u (put_together v u) gone) seat.about_is
          (joins g.F.Facts.fits key.tag c.into.inside.seat.id c.from.inside.seat.id v u c.into.invariant.facts c.from.invariant.facts free not_first),
    )

pub load-requires : goal.load-requires
load-requires g c =
    let key = c.self.inside.table.shared.key in
    let v : View = c.into.inside.seat.me.0 in
    let m = c.join_seat.new.seat.me in
    let is : m.0 ≡ put_together v c.from.inside.seat.me.0 = ap (λ x. x.0) c.join_seat.ensures.2 in
    let seat = seated c.args.self.now c.args.into.now c.into.inside.seat.table_id c.self.inside.table.shared.table_id v c.self.inside.layout key c.self.view_is c.into.view_is c.self.invariant.0 c.requires.of in
    let slots : ℕ = c.self.inside.table.shared.table_id.slots in (
      c.join_seat.ensures.0 ∙ seat.tables,
      subst (λ (n : ℕ). CURRENT_WORD < n) (sym c.self.invariant.1) (has_current c.self.inside.layout),
      subst (λ (x : About). Allows (TableHolds g.F.Facts.fits x) slots c.join_seat.new.seat.id m CURRENT_WORD (λ n. n) (Settled g.F.Facts.fits (step slots CURRENT_WORD 0 0 none) m))
          ((λ t. record { layout = (is t).layout; tag = key.tag }) ∙ seat.about_is)
          (settle_allowed g.F.Facts.fits key.tag slots c.join_seat.new.seat.id m.0 m.1 (ap (λ (x : View). x.live) is ∙ c.into.invariant.facts.live)),
    )

pub overflow_add-into : goal.overflow_add-into
overflow_add-into g c =
    let a = placed_small g.F.Facts.fits c.into.inside.seat.me.0 c.into.invariant.facts in
    let b = placed_small g.F.Facts.fits c.from.inside.seat.me.0 c.from.invariant.facts in
    let e = c.into.invariant.entries in
    let f = c.from.invariant.entries in omega arith

pub invariant_of-into : goal.invariant_of-into
invariant_of-into g c =
    let v : View = c.into.inside.seat.me.0 in
    let u : View = c.from.inside.seat.me.0 in
    let m = c.join_seat.ensures.2 in
    let is : c.join_seat.new.seat.me.0 ≡ put_together v u = ap (λ x. x.0) m in
    let s = c.load.ensures.2.settles in
    record {
      slots = c.load.ensures.2.slots ∙ (ap (λ x. x.1) m ∙ c.into.invariant.slots);
      number = c.into.invariant.number ∙ sym (s.number ∙ ap (λ (x : View). x.number) is);
      spare = c.into.invariant.spare ∙ sym (s.spare ∙ ap (λ (x : View). x.spare) is);
      entries = (λ k. c.into.invariant.entries k + c.from.invariant.entries k) ∙ sym (s.counted ∙ ap (λ (x : View). x.counted) is);
      count_seen = c.into.invariant.count_seen ∙ sym (s.count_seen ∙ ap (λ (x : View). x.count_seen) is);
      generation = c.into.invariant.generation ∙ sym (s.generation ∙ ap (λ (x : View). x.generation) is);
      facts = s.facts;
    }

pub returns-clause-passes : goal.returns-clause-passes
returns-clause-passes g c =
    let v : View = c.into.inside.seat.me.0 in
    let u : View = c.from.inside.seat.me.0 in
    let m : View = c.join_seat.new.seat.me.0 in
    let w : View = c.load.new.seat.me.0 in
    let is : m ≡ put_together v u = ap (λ x. x.0) c.join_seat.ensures.2 in
    let rest_v : AtRest v = subst (λ (p : PassView). AtRest p.knows) (sym c.into.view_is) c.requires.rest in
    let rest_u : AtRest u = subst (λ (p : PassView). AtRest p.knows) (sym c.from.view_is) c.requires.quiet in
    subst (λ (p : PassView × PassView). IsJoined g.F.Facts.fits p.0.knows p.1.knows w) (λ k. (c.into.view_is k, c.from.view_is k)) (joined g.F.Facts.fits v u m w is c.load.ensures.2.settles c.into.invariant.facts c.from.invariant.facts rest_v rest_u)

pub returns-clause-continues : goal.returns-clause-continues
returns-clause-continues g c =
    let v : View = c.into.inside.seat.me.0 in
    let u : View = c.from.inside.seat.me.0 in
    let m : View = c.join_seat.new.seat.me.0 in
    let w : View = c.load.new.seat.me.0 in
    let is : m ≡ put_together v u = ap (λ x. x.0) c.join_seat.ensures.2 in
    let rest_v : AtRest v = subst (λ (p : PassView). AtRest p.knows) (sym c.into.view_is) c.requires.rest in
    let rest_u : AtRest u = subst (λ (p : PassView). AtRest p.knows) (sym c.from.view_is) c.requires.quiet in
    let j = joined g.F.Facts.fits v u m w is c.load.ensures.2.settles c.into.invariant.facts c.from.invariant.facts rest_v rest_u in
    subst (λ (p : PassView). Continues p record { table = c.load.new.seat.table_id; knows = w }) c.into.view_is
    (join_continues g.F.Facts.fits record { table = c.into.inside.seat.table_id; knows = v } record { table = c.load.new.seat.table_id; knows = w } u (c.load.ensures.0 ∙ c.join_seat.ensures.0) j)

pub returns-clause-of : goal.returns-clause-of
returns-clause-of g c = of_continues c.args.self.now c.args.into.now record { table = c.load.new.seat.table_id; knows = c.load.new.seat.me.0 } c.requires.of (returns-clause-continues g c)
