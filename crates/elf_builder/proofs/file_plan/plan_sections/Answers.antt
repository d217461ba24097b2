use Rattle.std.proofs.Common.{map, sym, ◌∙◌, refl}
use Rattle.elf_sections.specs.Headers.{file_header_size}
use Rattle.elf_builder.specs.Given.{given}
use Rattle.elf_builder.proofs.Steps.{left_from, contents_step, names_step, headers_step, none_left, contents_end, names_end, headers_end, names_begin, headers_begin}
use Rattle.elf_builder.proofs.file_plan.plan_sections.Goals as goal

pub loop-section-init : goal.loop-section-init
loop-section-init c = record {
  contents = rw c.new.ensures.items refl;
  names = rw c.in_ok-from_slice.ensures.items (names_begin (map given c.args.sections.now));
  headers = rw (c.new-2.ensures.items, c.new.ensures.items, c.in_ok-from_slice.ensures.items) (headers_begin c.args.layout _ _);
}

pub loop-section-preserved : goal.loop-section-preserved
loop-section-preserved c =
    let front = left_from c.args.sections.now c.loop-section.section-index c.section-item.result c.loop-section-test.true c.section-item.is in
    record {
      contents = contents_step _ _ (given c.section-item.result) _ _ front c.in_ok-plan_section.ensures.contents ∙ c.loop-section.invariant.contents;
      names = names_step _ _ (given c.section-item.result) _ _ front c.in_ok-plan_section.ensures.names ∙ c.loop-section.invariant.names;
      headers = headers_step c.args.layout (file_header_size c.args.layout) _ _ _ _ _ _ (given c.section-item.result) _ _ front c.in_ok-plan_section.ensures.names c.in_ok-plan_section.ensures.contents c.in_ok-plan_section.ensures.headers ∙ c.loop-section.invariant.headers;
    }

pub returns-clause-contents : goal.returns-clause-contents
returns-clause-contents c = sym (contents_end _ _ (none_left c.args.sections.now c.loop-section.section-index c.loop-section-test.false)) ∙ c.loop-section.invariant.contents

pub returns-clause-names : goal.returns-clause-names
returns-clause-names c = sym (names_end _ _ (none_left c.args.sections.now c.loop-section.section-index c.loop-section-test.false)) ∙ c.loop-section.invariant.names

pub returns-clause-headers : goal.returns-clause-headers
returns-clause-headers c = sym (headers_end c.args.layout _ _ _ _ (none_left c.args.sections.now c.loop-section.section-index c.loop-section-test.false)) ∙ c.loop-section.invariant.headers
