use Rattle.std.proofs.Common.{inl, refl}
use Rattle.dw_outside.specs.GainsLaws.{GainsPart-whole}
use Rattle.dw_run.proofs.endings.end_with.Goals as goal

pub returns-in-Ok : goal.returns-in-Ok
returns-in-Ok g c = record {
  answers = inl refl;
  printed = λ below. c.in-Ok.ensures.whole;
  part = GainsPart-whole _ _ _ c.in-Ok.ensures.whole;
  failed = λ is. absurd (c.requires is);
  later = c.write_all.ensures.cause.later;
}
