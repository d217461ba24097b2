use Rattle.std.proofs.Common.{◌∙◌, ℕ, List, subst}
use Rattle.map_core.specs.History.{IsLegalHistory}
use Rattle.map_core.proofs.HistoryLemmas.{fits_in}
use Rattle.handle_cache.specs.Scanned.{FitsFile}
use Rattle.handle_cache.proofs.handle.Handle.entries_are_scanned.Goals as goal

pub returns : goal.returns
returns c = λ key value is.
    fits_in (FitsFile c.args.self.now.file) c.args.pass.now.knows.front key value
    (subst (λ (tag : List ℕ). IsLegalHistory (FitsFile tag) c.args.pass.now.knows.front) (c.requires.of_table.tag ∙ c.recall.ensures.tag) c.recall-2.ensures.legal)
    is
