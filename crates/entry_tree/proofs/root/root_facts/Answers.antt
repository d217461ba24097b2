use Rattle.std.proofs.Common.{◌≡◌, Ok, Some, ap, sym, ◌∙◌}
use Rattle.elf_sections.specs.Shapes.{sections_view}
use Rattle.entry_tree.specs.Entries.{first_code_in}
use Rattle.entry_tree.specs.Units.{root_code_of}
use Rattle.entry_tree.proofs.root.root_facts.Goals as goal

pub returns-clause-noted : goal.returns-clause-noted
returns-clause-noted g c =
    let e : root_code_of (sections_view c.args.sections.now) c.args.header.now ≡ Ok (Some c.in-Some.first) =
    ap first_code_in (sym c.new-cut.ensures) ∙ sym c.in_ok-first.ensures.first ∙ ap (λ o. Ok o) c.in-Some.is in
    rw e (λ small. c.in_ok-values.ensures.noted small)
