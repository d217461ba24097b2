use Rattle.std.proofs.Common.{◌≡◌, ◌≤◌, ◌+◌, ℕ, List, Result, map, drop}
use Rattle.std.specs.declared.alloc.AllocError.{AllocError}
use Rattle.dw_text.specs.Added.{Adds}
use Rattle.line_text.specs.Numbered.{numbered}
use Rattle.line_text.specs.Names.{file_line}
use Rattle.line_programs.specs.Shapes.{name_view}
use Rattle.line_text.proofs.names.push_file_lines.Given as goal

-- the lines of the items that are left make up those of all
abbrev pub invariant-files : goal.invariant-files
invariant-files l = record {
  few : l.first ≤ 1;
  number : l.number ≡ l.first + l.file-index;
  text : (r : Result (Unit {0}) AllocError) (new : List ℕ) →
      Adds r l.out.items new (numbered file_line l.number (map name_view (drop l.file-index l.files))) → Adds r l.fn.out.items new (numbered file_line l.first (map name_view l.files));
}
