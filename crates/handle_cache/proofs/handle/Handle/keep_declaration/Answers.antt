use Rattle.std.proofs.Common.{◌+◌, ℕ, subst, sym}
use Rattle.abbrev_decl.specs.Lookup.{key}
use Rattle.handle_cache.specs.Scanned.{FitsFile}
use Rattle.handle_cache.proofs.Scans.{first_scanned}
use Rattle.handle_cache.proofs.handle.Handle.keep_declaration.Goals as goal

pub keep_value-requires-clause-value : goal.keep_value-requires-clause-value
keep_value-requires-clause-value c =
    subst (λ (n : ℕ). FitsFile c.args.self.now.file n (c.place-value.result + 1)) (sym c.declaration_key.ensures.is)
    (subst (λ (n : ℕ). FitsFile c.args.self.now.file (key c.args.table c.args.code) (n + 1)) (sym c.place-value.ensures)
    (first_scanned c.args.self.now c.recall.ensures c.args.table c.args.code c.requires.inside c.requires.small c.args.declaration.now c.requires.first))
