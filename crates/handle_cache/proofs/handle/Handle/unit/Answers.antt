use Rattle.std.proofs.Common.{◌∙◌, ◌<◌, ℕ, List, Ok, ap, length, subst, sym}
use Rattle.std.specs.Prelude.{slice_index}
use Rattle.entry_tree.specs.Keys.{GainsOnly}
use Rattle.handle_cache.specs.Handles.{IsRootKey, own_keys, sections_in}
use Rattle.handle_cache.specs.Scanned.{FitsFile, word_key}
use Rattle.handle_cache.proofs.Gains.{gains_facts, gains_root}
use Rattle.handle_cache.proofs.WordLaws.{words_fit, words_found}
use Rattle.handle_cache.proofs.handle.Handle.unit.Goals as goal

pub returns-in-Some-clause-answer : goal.returns-in-Some-clause-answer
returns-in-Some-clause-answer g c =
    ap Ok c.facts_of_words.ensures ∙ sym (words_found c.args.self.now c.recall.ensures c.args.unit c.in-Some.words c.in-Some.ensures.values)

pub returns-in_err-facts-clause-placed : goal.returns-in_err-facts-clause-placed
returns-in_err-facts-clause-placed g c =
    gains_root (sections_in c.args.self.now) c.args.unit (own_keys c.args.pass.now) (own_keys c.read_facts.new.pass)
    (subst (λ (keys : List ℕ). GainsOnly (IsRootKey (sections_in c.args.self.now) c.args.unit) keys (own_keys c.read_facts.new.pass))
    c.find_words.ensures.own c.read_facts.ensures.placed)

pub keep_words-requires-clause-values : goal.keep_words-requires-clause-values
keep_words-requires-clause-values g c =
    subst (λ (words : List ℕ). (word : ℕ) → word < 8 → FitsFile c.args.self.now.file (word_key c.args.unit word) (slice_index words word))
    (sym c.words_of_facts.ensures.words)
    (words_fit c.args.self.now c.recall.ensures c.args.unit (length (sections_in c.args.self.now).info) c.in_ok-facts.facts
    (sym c.in_ok-facts.ensures.answer) c.in_ok-facts.ensures.fit)

pub returns-clause-placed : goal.returns-clause-placed
returns-clause-placed g c =
    gains_facts (sections_in c.args.self.now) c.args.unit (own_keys c.args.pass.now) (own_keys c.read_facts.new.pass) (own_keys c.keep_words.new.pass)
    (subst (λ (keys : List ℕ). GainsOnly (IsRootKey (sections_in c.args.self.now) c.args.unit) keys (own_keys c.read_facts.new.pass))
    c.find_words.ensures.own c.read_facts.ensures.placed)
    c.keep_words.ensures.placed
