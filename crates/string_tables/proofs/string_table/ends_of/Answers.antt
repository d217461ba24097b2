use Rattle.std.proofs.Common.{◌+◌, ◌-◌, ◌*◌, ◌≡◌, ◌∙◌, ap, arith}
use Rattle.string_tables.specs.StringTables.{end_from}
use Rattle.string_tables.proofs.Ends.{ends_more}
use Rattle.string_tables.proofs.string_table.ends_of.Goals as goal

pub loop-block-preserved : goal.loop-block-preserved
loop-block-preserved c =
    let end : c.next_end-end.result ≡ end_from c.args.bytes.now (c.loop-block.block * 128)
    = c.next_end-end.ensures ((c.loop-block.block - 1) * 128) (omega arith) c.loop-block.invariant.before in
    let block : c.loop-block.block ≡ c.loop-block.block + 1 - 1 = omega arith in
    record {
      before = end ∙ ap (λ k. end_from c.args.bytes.now (k * 128)) block;
      ends = ends_more (λ k. end_from c.args.bytes.now (k * 128)) c.loop-block.block c.loop-block.ends.items _ c.next_end-end.result (omega arith)
          c.loop-block.invariant.ends c.in_ok-push.ensures.items end;
    }
