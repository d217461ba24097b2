use Rattle.std.proofs.Common.{arith, sym, ◌∙◌, ◌-◌, ap, drop, ℕ}
use Rattle.row_index.specs.Rows.{row_at}
use Rattle.row_index.proofs.Walks.{pair_covers, pair_passes, last_passes}
use Rattle.row_index.proofs.walking.first_row.Goals as goal

pub returns-then-covers : goal.returns-then-covers
returns-then-covers c =
    sym (pair_covers c.args.rows.now c.loop-place.place _ _ c.args.address (omega arith) c.loop-place-test.true (sym c.covers.ensures ∙ c.if-covers.true)) ∙ c.loop-place.invariant

pub loop-place-preserved : goal.loop-place-preserved
loop-place-preserved c =
    ap (λ (n : ℕ). row_at (drop n c.args.rows.now) c.args.address) (omega arith)
    ∙ sym (pair_passes c.args.rows.now c.loop-place.place _ _ c.args.address (omega arith) c.loop-place-test.true (sym c.covers.ensures ∙ c.if-covers.false)) ∙ c.loop-place.invariant

pub returns : goal.returns
returns c = sym (last_passes c.args.rows.now (c.loop-place.place - 1) c.args.address (omega (arith, c.loop-place-test.false))) ∙ c.loop-place.invariant
