use Rattle.std.proofs.Common.{◌≡◌, length, arith}
use Rattle.std.specs.Prelude.{Ok}
use Rattle.std.proofs.lemmas.Bool.Decides.{nat_tests}
use Rattle.dw_text.proofs.Laws.{chunk_then, chunk_end}
use Rattle.dw_text.proofs.bytes.push_hex_bytes.Goals as goal

pub loop-rest-preserved : goal.loop-rest-preserved
loop-rest-preserved c = λ r new p.
    c.loop-rest.invariant r new (chunk_then r c.loop-rest.out.items c.push_chunk.new.out.items new c.loop-rest.rest.now _ _ _ c.split_at.ensures.front c.split_at.ensures.back c.in_ok-push_chunk.ensures p)

pub returns : goal.returns
returns c =
    let none : length c.loop-rest.rest.now ≡ 0 = grind (arith, nat_tests) in
    c.loop-rest.invariant (Ok tt) c.loop-rest.out.items (chunk_end c.loop-rest.out.items c.loop-rest.rest.now none)
