use Rattle.std.proofs.Common.{ℕ, subst}
use Rattle.abbrev_decl.specs.Lookup.{Notes}
use Rattle.map_cells.specs.FollowLaws.{follows_then}
use Rattle.handle_cache.specs.Handles.{front_keys, is_spent, own_keys}
use Rattle.handle_cache.proofs.Gains.{gains_word, noted_more}
use Rattle.handle_cache.proofs.handle.Handle.keep_words.Goals as goal

pub loop-word-preserved : goal.loop-word-preserved
loop-word-preserved c = record {
  belongs = c.keep_value.ensures.belongs;
  follows = follows_then c.args.pass.now c.loop-word.pass c.keep_value.new.pass c.loop-word.invariant.follows c.keep_value.ensures.follows;
  noted = noted_more c.loop-word.pass c.keep_value.new.pass c.args.unit c.loop-word.word c.keep_value.ensures.follows c.loop-word.invariant.noted
      (subst (λ (k : ℕ). Notes (front_keys c.keep_value.new.pass) (is_spent c.keep_value.new.pass) k) c.word_key.ensures.is c.keep_value.ensures.noted);
  placed = gains_word c.args.unit c.loop-word.word c.word_key.result (own_keys c.args.pass.now) (own_keys c.loop-word.pass) (own_keys c.keep_value.new.pass) _
      c.word_key.ensures.is c.loop-word-test.true c.loop-word.invariant.placed c.keep_value.ensures.placed;
}
