use Rattle.dw_text.specs.Laws.{plain_part}
use Rattle.unit_text.proofs.PlainTexts.{plain_text_from}
use Rattle.unit_text.proofs.plain_texts.plain_text_at.Goals as goal

pub returns-then-end-place-le-LONGEST-clause-text :
    goal.returns-then-end-place-le-LONGEST-clause-text
returns-then-end-place-le-LONGEST-clause-text c =
    plain_text_from c.args.section.now c.args.place c.plain_end-end.result c.plain_end-end.ensures.begins c.if-end-section.true c.plain_end-end.ensures.plain c.if-section-end-eq0.true

pub returns-then-end-place-le-LONGEST-clause-plain :
    goal.returns-then-end-place-le-LONGEST-clause-plain
returns-then-end-place-le-LONGEST-clause-plain c =
    plain_part c.args.section.now c.args.place c.plain_end-end.result c.plain_end-end.ensures.begins c.plain_end-end.ensures.within c.plain_end-end.ensures.plain
