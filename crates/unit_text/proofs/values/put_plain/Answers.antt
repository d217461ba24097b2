use Rattle.std.proofs.Common.{◌++◌, ◌∙◌, ap, subst, Ok, codes}
use Rattle.dw_names.specs.Texts.{attribute_text}
use Rattle.dw_text.specs.Added.{labelled}
use Rattle.unit_text.specs.Pieces.{Puts, joined}
use Rattle.unit_text.specs.Units.{value_line}
use Rattle.unit_text.proofs.PlainTexts.{quoted_line}
use Rattle.unit_text.proofs.values.put_plain.Goals as goal

pub returns : goal.returns
unfolding value_line joined
returns c =
    let pieces = c.prepend_text-3.ensures ∙ ap (λ t. codes " text \"" ++ t) (c.prepend_text-2.ensures ∙ ap (λ t. c.args.text.now ++ t) (c.prepend_text.ensures ∙ ap (λ t. codes "\"\n" ++ t) c.clear.ensures)) in
    subst (λ t. Puts c.put_line.result c.args.out.now.items c.put_line.new.out.items (Ok (labelled (codes "  ") (attribute_text c.args.name) ++ t)))
    (pieces ∙ quoted_line c.args.text.now c.requires.plain) c.put_line.ensures
