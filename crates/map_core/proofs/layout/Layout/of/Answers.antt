use Rattle.std.proofs.Common.{◌≤◌, ◌<◌, ◌+◌, ◌*◌, ℕ, arith, subst, below_more}
use Rattle.map_core.specs.Sizes.{cells_of}
use Rattle.map_core.proofs.SizeLemmas.{cells_shifted, not_last}
use Rattle.map_core.proofs.layout.Layout.of.Goals as goal

pub loop-last-preserved : goal.loop-last-preserved
loop-last-preserved c =
    let g : ℕ = c.loop-last.last in
    let needed : ℕ = 4 * (c.args.capacity + c.from.result) in
    let t : 3 * cells_of g < needed = subst (λ (x : ℕ). 3 * x < needed) (cells_shifted g (let low = c.loop-last.invariant.0 in omega arith)) c.loop-last-test.true in
    let most : needed ≤ 16777728 = omega arith in
    (not_last g needed c.loop-last.invariant.0 most t, below_more (λ k. 3 * cells_of k < needed) g c.loop-last.invariant.1 t)

pub invariant_of-result : goal.invariant_of-result
invariant_of-result c =
    let g : ℕ = c.loop-last.last in
    let needed : ℕ = 4 * (c.args.capacity + c.from.result) in
    let f : needed ≤ 3 * cells_of g = subst (λ (x : ℕ). needed ≤ 3 * x) (cells_shifted g (let low = c.loop-last.invariant.0 in omega arith)) c.loop-last-test.false in
    record {
      capacity_fits = c.requires.capacity;
      passes_fit = c.requires.passes;
      last_fits = subst (λ (p : ℕ). (4 * (c.args.capacity + p) ≤ 3 * cells_of g) × ((k : ℕ) → k < g → 3 * cells_of k < 4 * (c.args.capacity + p))) c.from.ensures (f, c.loop-last.invariant.1);
    }
