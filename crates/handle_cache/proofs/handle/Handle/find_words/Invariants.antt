use Rattle.std.proofs.Common.{◌≡◌, ℕ, ◌<◌, length}
use Rattle.std.specs.Prelude.{slice_index}
use Rattle.map_cells.specs.Seen.{Follows}
use Rattle.handle_cache.specs.Handles.{Belongs, HasWords, front_keys, own_keys}
use Rattle.handle_cache.specs.Scanned.{FitsFile, word_key}
use Rattle.handle_cache.proofs.handle.Handle.find_words.Given as goal

abbrev pub invariant-loop-word : goal.invariant-loop-word
invariant-loop-word l = record {
  belongs : Belongs l.self l.pass;
  follows : Follows l.fn.pass l.pass;
  own : own_keys l.pass ≡ own_keys l.fn.pass;
  count : length l.words ≡ 8;
  values : (word : ℕ) → word < l.word → FitsFile l.self.file (word_key l.unit word) (slice_index l.words word);
  held : HasWords (front_keys l.pass) l.unit l.word;
}
