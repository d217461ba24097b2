use Rattle.std.proofs.Common.{◌+◌, ◌*◌, ◌≤◌, ◌<◌, ℕ, length, arith, sym}
use Rattle.std.proofs.lemmas.Bool.{ltb-false}
use Rattle.std.proofs.Math.Nat.{mul-le-mul_right}
use Rattle.elf_sections.specs.Headers.{section_header_size}
use Rattle.elf_sections.proofs.section_table.table_at.Goals as goal

-- so many pieces fit, so each of them does
each_fits : (number count size place end : ℕ) → number < count → place + count * size ≤ end → place + number * size + size ≤ end
each_fits number count size place end below all = omega (arith, mul-le-mul_right {m = number + 1} {n = count} size (omega arith))

pub returns-clause-inside : goal.returns-clause-inside
returns-clause-inside c = record {
  headers = λ number h. each_fits number c.in_ok-count.count (section_header_size c.args.layout) c.args.header.table (length c.args.file.now) h
      (ltb-false _ _ (sym c.if-passes_end.ensures));
  names = λ h. c.if-names-count.false;
}
