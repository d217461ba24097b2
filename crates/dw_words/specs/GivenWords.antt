-- What the words behind a command give.
use Rattle.std.specs.Prelude.{◌≡◌, ℕ, suc, ◌≤◌, ◌&&◌, Bool, true, false, List, [], ◌∷◌, map, Option, Some, None, Result, Ok, Err, ⊤}
use Rattle.std.specs.Prelude.{option_and_then, option_map, codes, if◌then◌else◌, ◌==◌, nat_le}
use Rattle.std.specs.List.{list_any, before_first, after_first}
use Rattle.std.specs.Str.{bytes_eq}
use Rattle.dw_words.specs.Numbers.{decimal_of}
use Rattle.dw_words.specs.declared.given.Given.{Given}
use Rattle.dw_words.specs.declared.given.TheConstants.{MOST_WORKERS}
use Rattle.dw_words.specs.declared.refusals.WordsRefusal.{WordsRefusal}
use Rattle.dw_words.specs.declared.refusals.WordsRefusal.TheVariants as refusals

abbrev pub WordBytes : Type 0
WordBytes = List ℕ

-- ---- what a word looks like

abbrev pub is_equals_sign : ℕ → Bool
is_equals_sign c = c == 61

-- what stands before the first `=`, and what behind it
abbrev pub option_parts : WordBytes → WordBytes × Option WordBytes
option_parts text = (
  before_first is_equals_sign text,
  if list_any is_equals_sign text then Some (after_first is_equals_sign text) else None,
)

-- `--NAME` or `--NAME=VALUE`; `--` alone is none
abbrev pub option_of : WordBytes → Option (WordBytes × Option WordBytes)
option_of (a ∷ b ∷ c ∷ others) =
    if (a == 45) && (b == 45) then Some (option_parts (c ∷ others)) else None
option_of word = None

-- the word begins with `-`, and is not `-` alone
abbrev pub is_dashed : WordBytes → Bool
is_dashed (a ∷ b ∷ others) = a == 45
is_dashed word = false

-- ---- what the words give

-- the values of `--workers`, how often `--stats` stands, and the positional words, each in order
pub record GivenWords : Type 0 where
  pub workers : List WordBytes
  pub stats : ℕ
  pub rest : List WordBytes

abbrev pub nothing_given : GivenWords
nothing_given = record { workers = []; stats = 0; rest = [] }

abbrev pub with_value : WordBytes → Option GivenWords → Option GivenWords
with_value value = option_map {T = GivenWords} (λ g. record g { workers = value ∷ g.workers })

abbrev pub with_stats : Option GivenWords → Option GivenWords
with_stats = option_map {T = GivenWords} (λ g. record g { stats = suc g.stats })

abbrev pub with_word : WordBytes → Option GivenWords → Option GivenWords
with_word word = option_map {T = GivenWords} (λ g. record g { rest = word ∷ g.rest })

-- an option of this name and value, where `plain` is what the words behind it give, and `waiting`
-- the same where the first of them is a value of `--workers`
abbrev pub given_by_option : WordBytes → Option WordBytes → Option GivenWords → Option GivenWords → Option GivenWords
given_by_option name None plain waiting =
    if bytes_eq (codes "workers") name then waiting
    else (if bytes_eq (codes "stats") name then with_stats plain else None)
given_by_option name (Some value) plain waiting =
    if bytes_eq (codes "workers") name then with_value value plain else None

abbrev pub given_by_other : WordBytes → Option (WordBytes × Option WordBytes) → Option GivenWords → Option GivenWords → Option GivenWords
given_by_other word (Some option) plain waiting =
    given_by_option option.0 option.1 plain waiting
given_by_other word None plain waiting = if is_dashed word then None else with_word word plain

-- behind `--` all words are positional
abbrev pub given_by_word : WordBytes → List WordBytes → Option GivenWords → Option GivenWords → Option GivenWords
given_by_word word behind plain waiting =
    if bytes_eq word (codes "--") then Some (record nothing_given { rest = behind })
    else given_by_other word (option_of word) plain waiting

-- what the words give; the test says that the word before them was `--workers`
unfoldable pub given_of : Bool → List WordBytes → Option GivenWords
given_of true [] = None
given_of true (word ∷ words) = with_value word (given_of false words)
given_of false [] = Some nothing_given
given_of false (word ∷ words) =
    given_by_word word words (given_of false words) (given_of true words)

-- ---- what it means

-- the number of workers where it is given, whether `--stats` is, and the positional words
pub record Meaning : Type 0 where
  pub workers : Option ℕ
  pub stats : Bool
  pub rest : List WordBytes

-- a number of workers that words may ask for
abbrev pub AreFewWorkers : ℕ → Type 0
AreFewWorkers n = (1 ≤ n) × (n ≤ MOST_WORKERS)

-- 1 to 64
abbrev pub as_worker_count : ℕ → Option ℕ
as_worker_count n = if nat_le 1 n && nat_le n MOST_WORKERS then Some n else None

unfoldable pub worker_count : WordBytes → Option ℕ
worker_count value = option_and_then as_worker_count (decimal_of value)

abbrev pub with_workers : List WordBytes → Bool → List WordBytes → Option Meaning
with_workers [] stats rest = Some (record { workers = None; stats = stats; rest = rest })
with_workers (value ∷ []) stats rest =
    option_map {T = ℕ} (λ n. record { workers = Some n; stats = stats; rest = rest })
    (worker_count value)
with_workers (value ∷ other ∷ others) stats rest = None

-- an option given twice has no meaning
abbrev pub settle : GivenWords → Option Meaning
settle g = if nat_le g.stats 1 then with_workers g.workers (g.stats == 1) g.rest else None

-- the meaning of the words behind a command
unfoldable pub meaning : List WordBytes → Option Meaning
meaning words = option_and_then settle (given_of false words)

-- ---- what a call answers

abbrev pub meaning_view : Given → Meaning
meaning_view g =
    record { workers = g.workers; stats = g.stats; rest = map (λ word. word.now) g.rest.items }

-- the meaning, or that there is none; want of memory may come at any time
abbrev pub IsMeaning : Result Given WordsRefusal → Option Meaning → Type 0
IsMeaning (Ok given) m = m ≡ Some (meaning_view given)
IsMeaning (Err refusals.NoMeaning) m = m ≡ None
IsMeaning (Err refusals.OutOfMemory) m = ⊤
