use Rattle.std.proofs.Common.{◌≡◌, ◌-◌, ◌++◌, map}
use Rattle.line_programs.specs.Shapes.{name_view}
use Rattle.line_programs.specs.DefinedFiles.{defined_files, defined_from}
use Rattle.line_programs.proofs.defined_files.add_defined_files.Given as goal

abbrev pub invariant-program : goal.invariant-program
invariant-program l = record {
  ends : l.cut.end ≡ l.fn.cut.end;
  turns : l.left ≡ l.fn.cut.end - l.fn.cut.place;
  read : map name_view l.files.items ++ defined_from (l.left - l._turn) l.program l.lengths l.cut
      ≡ map name_view l.fn.files.items ++ defined_files l.program l.lengths l.fn.cut;
}
