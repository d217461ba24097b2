use Rattle.std.proofs.Common.{◌∙◌, ◌<◌, ℕ, length, arith, sym}
use Rattle.std.proofs.lemmas.List.{get_or_default}
use Rattle.interval_index.specs.Piles.{AddsNothing}
use Rattle.interval_index.proofs.Piling.{empty_adds, hidden_adds, if_cover, itself, keeps, on_ok, on_ok_both, owner_read, pile_laid, pile_left, pile_stays}
use Rattle.interval_index.proofs.piles.Pile.add.Goals as goal

pub returns-then-interval : goal.returns-then-interval
returns-then-interval c = λ done h.
    pile_stays _ done c.args.number _ (empty_adds c.args.intervals.now done c.args.number _ (get_or_default c.args.intervals.now c.args.number _ _ c.requires.number) c.if-interval.true) h

pub returns-then-self-interval : goal.returns-then-self-interval
returns-then-self-interval c =
    on_ok_both _ _ _ c.lay_behind.result c.lay_behind.ensures.boundaries c.lay_behind.ensures.end
    (λ pushed end done h.
    pile_laid c.args.intervals.now done c.args.number c.args.self.now c.lay_behind.new.self _ c.requires.number (get_or_default c.args.intervals.now c.args.number _ _ c.requires.number)
    (omega (arith, c.if-interval.false)) c.if-self-interval.true pushed end c.lay_behind.ensures.others c.lay_behind.ensures.cover h)

pub returns-in_default-cover : goal.returns-in_default-cover
returns-in_default-cover c =
    on_ok _ _ c.leave.result c.leave.ensures.others
    (λ pushed done h.
    pile_left c.args.intervals.now done c.args.number c.args.number c.args.self.now c.leave.new.self c.requires.number c.requires.number
    (itself c.args.intervals.now done c.args.number) c.leave.ensures.boundaries c.leave.ensures.end pushed c.leave.ensures.cover h)

pub returns-then-hides : goal.returns-then-hides
returns-then-hides c = λ done h.
    pile_stays c.args.intervals.now done c.args.number c.args.self.now
    (hidden_adds c.args.intervals.now done c.in-Some.owner c.args.number (sym c.hides.ensures ∙ c.if-hides.true)
    (h.owners _ c.in-Some.owner (owner_read _ _ _ _ _ c.deref.ensures.value c.first_covering.ensures c.in-Some.is))) h

pub returns-then-hides-2 : goal.returns-then-hides-2
returns-then-hides-2 c = λ done h.
    pile_stays c.args.intervals.now done c.args.number c.args.self.now
    (hidden_adds c.args.intervals.now done c.in-Some-cover.cover c.args.number (sym c.hides-2.ensures ∙ c.if-hides-2.true)
    (if_cover (AddsNothing c.args.intervals.now done) c.args.self.now.cover c.in-Some-cover.cover c.in-Some-cover.is h.cover)) h

pub returns-then-interval-intervals : goal.returns-then-interval-intervals
returns-then-interval-intervals c =
    on_ok _ _ c.leave-then-interval-intervals.result c.leave-then-interval-intervals.ensures.others
    (λ pushed done h.
    pile_left c.args.intervals.now done c.args.number c.args.number c.args.self.now c.leave-then-interval-intervals.new.self c.requires.number c.requires.number
    (itself c.args.intervals.now done c.args.number) c.leave-then-interval-intervals.ensures.boundaries c.leave-then-interval-intervals.ensures.end pushed c.leave-then-interval-intervals.ensures.cover h)

pub returns : goal.returns
returns c =
    on_ok _ _ c.leave-2.result c.leave-2.ensures.others
    (λ pushed done h.
    pile_left c.args.intervals.now done c.args.number c.in-Some-cover.cover c.args.self.now c.leave-2.new.self c.requires.number
    (if_cover (λ (m : ℕ). m < length c.args.intervals.now) c.args.self.now.cover c.in-Some-cover.cover c.in-Some-cover.is h.known)
    (keeps c.args.intervals.now done c.args.number c.in-Some-cover.cover (if_cover (AddsNothing c.args.intervals.now done) c.args.self.now.cover c.in-Some-cover.cover c.in-Some-cover.is h.cover))
    c.leave-2.ensures.boundaries c.leave-2.ensures.end pushed c.leave-2.ensures.cover h)
