use Rattle.std.proofs.Common.{◌<◌, ◌∙◌, List, ℕ, length, ap, subst, sym}
use Rattle.std.specs.List.{All}
use Rattle.interval_index.specs.Intervals.{least_with}
use Rattle.interval_index.proofs.Numbers.{least_of_all, range_below}
use Rattle.interval_index.proofs.index.IntervalIndex.build.Goals as goal

pub lay-requires : goal.lay-requires
lay-requires c =
    subst (All (λ (k : ℕ). k < length c.args.intervals.now)) (sym (c.deref.ensures.value ∙ c.in_ok-numbers.ensures)) (range_below (length c.args.intervals.now))

pub returns : goal.returns
returns c = λ n.
    c.in_ok-boundaries.ensures.first n
    ∙ ap (λ (l : List ℕ). least_with c.args.intervals.now l n) (c.deref.ensures.value ∙ c.in_ok-numbers.ensures)
    ∙ least_of_all c.args.intervals.now n
