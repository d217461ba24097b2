-- The command that `clap` is given, as `clap`'s own definitions see it.
use Rattle.std.specs.Prelude.{◌≡◌, ◌≤◌, ℕ, zero, suc, true, List, [], ◌∷◌, length, Option, Some, None, Result, Ok, Err, codes, slice_get, ⊤}
use Rattle.clap.specs.Words.{App, Row, Rule, all_of, first_of, found_of, new_app, new_rule, one_of, rows_of, with_rule}
use Rattle.clap.specs.declared.builder.action.ArgAction.TheVariants.{Append, SetTrue}
use Rattle.clap.specs.declared.parser.matches.ArgMatches.{ArgMatches}
use Rattle.dw_words.specs.GivenWords.{GivenWords, Meaning, WordBytes, settle, worker_count}
use Rattle.dw_words.specs.declared.refusals.WordsRefusal.{WordsRefusal}
use Rattle.dw_words.specs.declared.refusals.WordsRefusal.TheVariants as refusals

abbrev pub workers_rule : Rule
workers_rule = record (new_rule (codes "workers")) { long = Some (codes "workers") }

abbrev pub stats_rule : Rule
stats_rule = record (new_rule (codes "stats")) {
  long = Some (codes "stats");
  action = Some SetTrue;
}

abbrev pub rest_rule : Rule
rest_rule = record (new_rule (codes "rest")) { action = Some Append }

abbrev pub bare_app : App
bare_app = record {
  top = record (new_app (codes "dwtool")).top { no_binary_name = true; disable_help_flag = true };
  subs = [];
}

-- one option with a value, one flag, and words; the first word is no program's name, and there is
-- no help flag
abbrev pub words_app : App
words_app = with_rule (with_rule (with_rule bare_app workers_rule) stats_rule) rest_rule

-- ---- what stands in the matches of a parse that succeeds

-- the text that the flag's getter reads
abbrev pub flag_text : ℕ → WordBytes
flag_text zero = codes "false"
flag_text (suc n) = codes "true"

abbrev pub workers_of_count : Option ℕ → Result (Option ℕ) WordsRefusal
workers_of_count None = Err refusals.NoMeaning
workers_of_count (Some n) = Ok (Some n)

-- the number of workers of the option's value
abbrev pub workers_of : Option WordBytes → Result (Option ℕ) WordsRefusal
workers_of None = Ok None
workers_of (Some value) = workers_of_count (worker_count value)

-- the values, where there are any
abbrev pub listed : List WordBytes → Option (List WordBytes)
listed [] = None
listed (value ∷ values) = Some (value ∷ values)

-- the rows are those of what was given
pub record Ends (rows : List Row) (g : GivenWords) : Type 0 where
  pub workers : first_of (codes "workers") rows ≡ slice_get g.workers 0
  pub one_value : length g.workers ≤ 1
  pub stats : one_of (codes "stats") rows ≡ Some (flag_text g.stats)
  pub one_flag : g.stats ≤ 1
  pub rest : all_of (codes "rest") rows ≡ listed g.rest

abbrev pub MatchesMean : List Row → Option Meaning → Type 0
MatchesMean rows m = (g : GivenWords) × Ends rows g × (m ≡ settle g)

-- the matches of words with the meaning m, or that there is none
abbrev pub IsParse : Result ArgMatches WordsRefusal → Option Meaning → Type 0
IsParse (Ok matches) m = MatchesMean (rows_of (found_of matches)) m
IsParse (Err refusals.NoMeaning) m = m ≡ None
IsParse (Err refusals.OutOfMemory) m = ⊤
