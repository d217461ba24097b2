use Rattle.elf_sections.specs.Shapes.{sections_view}
use Rattle.address_lookup.specs.Built.{IsGathered, kept_answer}
use Rattle.address_lookup.proofs.Tells.{TellsFrom}
use Rattle.address_lookup.proofs.address_index.gather.Given as goal

abbrev pub invariant-loop-unit : goal.invariant-loop-unit
invariant-loop-unit g l = record {
  gathered : IsGathered (sections_view l.sections) l.tables;
  tells : TellsFrom (sections_view l.sections) l.unit (kept_answer l.tables);
  follows : g.D.Decls.follows l.fn.decls l.decls;
}
