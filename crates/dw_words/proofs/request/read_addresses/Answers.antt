use Rattle.dw_words.proofs.AddressLemmas.{end_at, next_at, stop_at}
use Rattle.dw_words.proofs.request.read_addresses.Goals as goal

pub returns-in-None : goal.returns-in-None
returns-in-None c =
    let l = c.loop-word in
    stop_at _ l.addresses.items c.args.words.now l.word-index _ c.loop-word-test.true l.invariant c.in-None.ensures

pub loop-word-preserved : goal.loop-word-preserved
loop-word-preserved c =
    let l = c.loop-word in
    next_at _ l.addresses.items c.push.new.self.items c.args.words.now l.word-index c.in-Some.address _ c.loop-word-test.true l.invariant c.in-Some.ensures (c.in_ok-push-in-Some).ensures.items

pub returns : goal.returns
returns c =
    let l = c.loop-word in
    end_at _ l.addresses.items c.args.words.now l.word-index c.loop-word-test.false l.invariant
