use Rattle.std.proofs.Common.{Ok, Err, None, arith}
use Rattle.dw_run.proofs.LinesSent.{lines_sent, lines_cut, kept_sent, kept_cut}
use Rattle.dw_run.proofs.addresses.print_lines.Goals as goal

pub returns-in-Err-clause-printed : goal.returns-in-Err-clause-printed
returns-in-Err-clause-printed g c =
    c.addresses.invariant.printed (Err c.in-Err.stop) _
    (lines_cut c.args.index.now c.args.addresses.now c.addresses.address-index _ c.addresses.text.items _ _ c.in-Err.stop c.addresses-test.true c.in-Err.ensures.sent)

pub addresses-preserved : goal.addresses-preserved
addresses-preserved g c = record {
  printed = λ r new p. c.addresses.invariant.printed r new
      (lines_sent c.args.index.now c.args.addresses.now c.addresses.address-index _ c.addresses.text.items c.print_line.new.text.items _ _ r new c.addresses-test.true c.in-Ok.ensures.sent p);
  later = omega arith;
}

pub returns-in-Ok-write_all-clause-printed : goal.returns-in-Ok-write_all-clause-printed
returns-in-Ok-write_all-clause-printed g c =
    c.addresses.invariant.printed (Ok None) _
    (kept_sent c.args.index.now c.args.addresses.now c.addresses.address-index c.addresses.text.items c.as_slice.result.now _ _ c.addresses-test.false c.as_slice.ensures.value c.in-Ok-write_all.ensures.whole)

pub returns-clause-printed : goal.returns-clause-printed
returns-clause-printed g c =
    c.addresses.invariant.printed (Err c.in-Err-write_all.stop) _
    (kept_cut c.args.index.now c.args.addresses.now c.addresses.address-index c.addresses.text.items c.as_slice.result.now _ _ c.in-Err-write_all.stop c.addresses-test.false c.as_slice.ensures.value c.in-Err-write_all.ensures.part)
