use Rattle.std.proofs.Common.{◌-◌, length, take, drop}
use Rattle.row_index.proofs.Splitting.{split_next, cut_within, IsCut}
use Rattle.row_index.proofs.runs.add_runs.Goals as goal

pub loop-start-preserved : goal.loop-start-preserved
loop-start-preserved c =
    let start = c.loop-start.start in
    let rows = c.args.rows.now in
    let cut : IsCut (take (length rows - start) (drop start rows)) c.run_length.result =
    record { within = c.run_length.ensures.within; rises = c.run_length.ensures.rises; told = c.run_length.ensures.cut } in
    record {
      within = cut_within rows start c.run_length.result c.loop-start.invariant.within cut;
      split = λ units known is. split_next units c.args.unit start c.run_length.result rows _ _ _ known is c.loop-start.invariant.within cut c.in_ok-push.ensures.items (c.loop-start.invariant.split units known is);
    }
