use Rattle.std.proofs.Common.{◌∙◌, ◌<◌, ℕ, subst, sym}
use Rattle.std.specs.Prelude.{Contains}
use Rattle.std.proofs.lemmas.List.{length-set}
use Rattle.map_cells.specs.FollowLaws.{follows_then}
use Rattle.handle_cache.specs.Handles.{front_keys}
use Rattle.handle_cache.specs.Scanned.{FitsFile, word_key}
use Rattle.handle_cache.proofs.Calls.{still_held}
use Rattle.handle_cache.proofs.Gains.{one_more_word, words_held}
use Rattle.handle_cache.proofs.WordLaws.{values_more}
use Rattle.handle_cache.proofs.handle.Handle.find_words.Goals as goal

pub returns-in_default-clause-kept : goal.returns-in_default-clause-kept
returns-in_default-clause-kept c = λ has.
    c.in_default.ensures.kept
    (subst (λ (k : ℕ). Contains (front_keys c.loop-word.pass) k) (sym c.word_key.ensures.is)
    (still_held c.args.pass.now c.loop-word.pass (word_key c.args.unit c.loop-word.word) c.loop-word.invariant.follows (has c.loop-word.word c.loop-word-test.true)))

pub loop-word-preserved : goal.loop-word-preserved
loop-word-preserved c = record {
  belongs = c.find_value.ensures.belongs;
  follows = follows_then c.args.pass.now c.loop-word.pass c.find_value.new.pass c.loop-word.invariant.follows c.find_value.ensures.follows;
  own = c.find_value.ensures.own ∙ c.loop-word.invariant.own;
  count = length-set c.loop-word.words c.loop-word.word c.in-Some.value ∙ c.loop-word.invariant.count;
  values = values_more (λ (word x : ℕ). FitsFile c.args.self.now.file (word_key c.args.unit word) x) c.loop-word.words c.loop-word.word c.in-Some.value
      (subst (λ (n : ℕ). c.loop-word.word < n) (sym c.loop-word.invariant.count) c.loop-word-test.true)
      c.loop-word.invariant.values
      (subst (λ (k : ℕ). FitsFile c.args.self.now.file k c.in-Some.value) c.word_key.ensures.is c.in-Some.ensures.value);
  held = one_more_word (front_keys c.find_value.new.pass) c.args.unit c.loop-word.word
      (words_held c.loop-word.pass c.find_value.new.pass c.args.unit c.loop-word.word c.find_value.ensures.follows c.loop-word.invariant.held)
      (subst (λ (k : ℕ). Contains (front_keys c.find_value.new.pass) k) c.word_key.ensures.is c.in-Some.ensures.held);
}
