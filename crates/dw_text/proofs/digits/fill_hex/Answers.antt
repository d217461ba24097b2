use Rattle.std.proofs.Common.{◌≡◌, ◌+◌, ◌-◌, ◌/◌, ◌%◌, ◌∷◌, false, sym, ap, ◌∙◌, drop, arith}
use Rattle.std.specs.Fmt.{digit_glyph}
use Rattle.dw_text.proofs.Fill.{onto, onto_begin, onto_two, onto_small, quotient_two}
use Rattle.dw_text.proofs.digits.fill_hex.Goals as goal

pub loop-rest-init : goal.loop-rest-init
loop-rest-init c =
    let all : c.args.end + 16 - c.args.end ≡ 16 = omega arith in
    record {
      some = omega arith;
      even = ap (λ k. k % 2) all;
      within = omega arith;
      long = c.requires.within;
      small = rw all (omega arith);
      text = ap (λ k. onto (48 + k) c.args.number (drop c.args.end c.args.into.now)) all ∙ onto_begin c.args.number (drop c.args.end c.args.into.now);
    }

pub loop-rest-preserved : goal.loop-rest-preserved
loop-rest-preserved c =
    let l = c.loop-rest in
    let left = l.first + 16 - c.args.end in
    let q = quotient_two l.rest left c.loop-rest-test.true l.invariant.small in
    let less : l.first - 2 + 16 - c.args.end ≡ left - 2 = omega (arith, q.0) in
    let at : l.first - 2 + 2 ≡ l.first = omega (arith, q.0) in
    record {
      some = omega (arith, q.0, l.invariant.even);
      even = omega (arith, q.0, l.invariant.even);
      within = omega arith;
      long = omega (arith, c.fill_pair.auto.into);
      small = rw less q.1;
      text = ap (λ k. onto (48 + k) (l.rest / 256) (drop (l.first - 2) c.fill_pair.new.into)) less
          ∙ ap (onto (48 + (left - 2)) (l.rest / 256))
          (c.fill_pair.ensures ∙ ap (λ j. digit_glyph false (l.rest % 256 / 16) ∷ digit_glyph false (l.rest % 256 % 16) ∷ drop j l.into) at)
          ∙ sym (onto_two l.rest left (drop l.first l.into) c.loop-rest-test.true (omega (arith, q.0)))
          ∙ l.invariant.text;
    }

pub returns-clause-text : goal.returns-clause-text
returns-clause-text c =
    let l = c.loop-rest in
    c.fill_front.ensures.text
    ∙ sym (onto_small l.rest (l.first + 16 - c.args.end) (drop l.first l.into) c.loop-rest-test.false (omega (arith, l.invariant.even)))
    ∙ l.invariant.text
