use Rattle.std.proofs.Common.{◌-◌, ◌/◌, ◌++◌, sym, ap, ◌∙◌, drop, set, length-set, arith}
use Rattle.dw_text.specs.Numbers.{last_digits}
use Rattle.dw_text.proofs.Fill.{sixteen_begin, sixteen_more, sixteen_end}
use Rattle.dw_text.proofs.digits.fill_sixteen.Goals as goal

pub loop-first-init : goal.loop-first-init
loop-first-init c = record {
  within = omega arith;
  long = c.told-into;
  text = sixteen_begin c.args.number c.args.into.now c.told-into;
}

pub loop-first-preserved : goal.loop-first-preserved
loop-first-preserved c =
    let l = c.loop-first in
    record {
      within = omega arith;
      long = length-set l.into (l.first - 1) c.glyph.result ∙ l.invariant.long;
      text = ap (λ d. last_digits (l.first - 1) (l.rest / 16) ++ drop (l.first - 1) (set l.into (l.first - 1) d)) c.glyph.ensures
          ∙ sixteen_more l.first l.rest l.into (omega arith) (omega arith)
          ∙ l.invariant.text;
    }

pub returns : goal.returns
returns c =
    let l = c.loop-first in
    sym (sixteen_end l.first l.rest l.into (omega arith)) ∙ l.invariant.text
