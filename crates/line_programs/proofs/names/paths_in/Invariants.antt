use Rattle.std.proofs.Common.{◌≡◌, ◌+◌, ◌≤◌, drop}
use Rattle.line_programs.specs.Names.{paths_in}
use Rattle.line_programs.proofs.names.paths_in.Given as goal

abbrev pub invariant-loop-format : goal.invariant-loop-format
invariant-loop-format l = record {
  few : l.count ≤ l.format-index;
  counted : l.count + paths_in (drop l.format-index l.formats) ≡ paths_in l.formats;
}
