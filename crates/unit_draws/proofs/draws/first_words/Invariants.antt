use Rattle.std.proofs.Common.{◌≡◌, ◌≤◌, ◌++◌, replicate}
use Rattle.unit_draws.specs.Windows.{window_lengths}
use Rattle.unit_draws.proofs.draws.first_words.Given as goal

-- the next-unit words, and the least words of the windows so far
abbrev pub invariant-windows : goal.invariant-windows
invariant-windows l = record {
  words : l.words.items ≡ replicate l.windows 0 ++ window_lengths l.units l.window;
  upto : l.window ≤ l.windows;
}
