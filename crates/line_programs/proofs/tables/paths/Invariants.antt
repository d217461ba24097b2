use Rattle.std.proofs.Common.{◌≡◌, map, take}
use Rattle.line_programs.proofs.tables.paths.Given as goal

abbrev pub invariant-names : goal.invariant-names
invariant-names l = map (λ b. b.now) l.paths.items ≡ map (λ n. n.path.now) (take l.name-index l.names)
