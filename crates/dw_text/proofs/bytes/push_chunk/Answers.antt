use Rattle.std.proofs.Common.{◌+◌, subst, ◌∙◌, length-set, arith}
use Rattle.dw_text.specs.Added.{Adds}
use Rattle.dw_text.proofs.Laws.{chunk_more, chunk_whole}
use Rattle.dw_text.proofs.bytes.push_chunk.Goals as goal

pub loop-byte-preserved : goal.loop-byte-preserved
loop-byte-preserved c =
    let l = c.loop-byte in
    record {
      long = length-set _ (l.filled + 1) c.glyph-in-loop-byte.result ∙ length-set l.digits l.filled c.glyph.result ∙ l.invariant.long;
      place = omega arith;
      text = chunk_more l.digits c.args.bytes.now l.filled l.byte-index c.glyph.result c.glyph-in-loop-byte.result (omega arith) c.loop-byte-test.true c.glyph.ensures c.glyph-in-loop-byte.ensures ∙ l.invariant.text;
    }

pub returns : goal.returns
returns c =
    let l = c.loop-byte in
    subst (λ t. Adds c.push_text.result c.args.out.now.items c.push_text.new.out.items t) (chunk_whole l.digits c.args.bytes.now l.filled l.byte-index c.loop-byte-test.false l.invariant.text) c.push_text.ensures
