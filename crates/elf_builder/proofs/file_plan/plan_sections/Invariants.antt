use Rattle.std.proofs.Common.{◌≡◌, ◌+◌, ◌++◌, length, drop, map}
use Rattle.elf_sections.specs.Headers.{file_header_size}
use Rattle.elf_builder.specs.Given.{given}
use Rattle.elf_builder.specs.File.{given_contents, ended_names, given_names, given_headers}
use Rattle.elf_builder.proofs.file_plan.plan_sections.Given as goal

abbrev pub invariant-loop-section : goal.invariant-loop-section
invariant-loop-section l = record {
  contents : l.plan.contents.items ++ given_contents (map given (drop l.section-index l.sections)) ≡ given_contents (map given l.sections);
  names : l.plan.names.items ++ ended_names (map given (drop l.section-index l.sections)) ≡ given_names (map given l.sections);
  headers : l.plan.headers.items ++ given_headers l.fn.layout (length l.plan.names.items) (file_header_size l.fn.layout + length l.plan.contents.items) (map given (drop l.section-index l.sections)) ≡ given_headers l.fn.layout 1 (file_header_size l.fn.layout) (map given l.sections);
}
