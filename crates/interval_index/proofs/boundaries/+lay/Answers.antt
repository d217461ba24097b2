use Rattle.std.proofs.Common.{◌<◌, ℕ, length, ap, subst, sym, arith}
use Rattle.std.specs.List.{All}
use Rattle.interval_index.proofs.Halves.{halves_lay}
use Rattle.interval_index.proofs.boundaries.+lay.Goals as goal

pub returns-then-piles-eq0 : goal.returns-then-piles-eq0
returns-then-piles-eq0 t c = halves_lay (λ v. v.items) c.args.intervals.now _ c.args.numbers.now c.in_ok-first.first.items c.in_ok-second.second.items _ _ c.merge.result c.deref.ensures.value c.deref-then-piles-eq0.ensures.value c.in_ok-first.ensures c.in_ok-second.ensures c.merge.ensures

pub lay-requires-2 : goal.lay-requires-2
lay-requires-2 t c = (
  omega (arith, c.if-piles-eq0.false, c.in_ok-pile.ensures.few, ap length c.deref-2.ensures.value),
  subst (All (λ (k : ℕ). k < length c.args.intervals.now)) (sym c.deref-2.ensures.value) c.in_ok-pile.ensures.others,
)
