use Rattle.std.proofs.Common.{◌≡◌, ◌⊎◌, true}
use Rattle.entry_tree.specs.Keys.{GainsOnly}
use Rattle.map_cells.specs.Seen.{Follows}
use Rattle.handle_cache.specs.Handles.{Belongs, HasWords, IsWordKey, front_keys, is_spent, own_keys}
use Rattle.handle_cache.proofs.handle.Handle.keep_words.Given as goal

abbrev pub invariant-loop-word : goal.invariant-loop-word
invariant-loop-word l = record {
  belongs : Belongs l.self l.pass;
  follows : Follows l.fn.pass l.pass;
  noted : HasWords (front_keys l.pass) l.unit l.word ⊎ (is_spent l.pass ≡ true);
  placed : GainsOnly (IsWordKey l.unit) (own_keys l.fn.pass) (own_keys l.pass);
}
