use Rattle.std.proofs.Common.{Bor, ◌≡◌, ◌≤◌, ◌+◌, ℕ, List, Result, map, drop}
use Rattle.std.specs.declared.alloc.AllocError.{AllocError}
use Rattle.dw_text.specs.Added.{Adds}
use Rattle.line_text.specs.Numbered.{numbered}
use Rattle.line_text.specs.Names.{directory_line}
use Rattle.line_text.proofs.names.push_directory_lines.Given as goal

-- the lines of the items that are left make up those of all
abbrev pub invariant-directories : goal.invariant-directories
invariant-directories l = record {
  few : l.first ≤ 1;
  number : l.number ≡ l.first + l.directory-index;
  text : (r : Result (Unit {0}) AllocError) (new : List ℕ) →
      Adds r l.out.items new (numbered directory_line l.number (map (λ (d : Bor (List ℕ)). d.now) (drop l.directory-index l.directories))) → Adds r l.fn.out.items new (numbered directory_line l.first (map (λ (d : Bor (List ℕ)). d.now) l.directories));
}
