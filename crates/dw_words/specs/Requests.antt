-- What a command line means.
use Rattle.std.specs.Prelude.{◌≤◌, ◌≡◌, ℕ, Bool, ◌&&◌, ◌||◌, List, [], ◌∷◌, Option, Some, None, Result, Ok, Err, ⊤}
use Rattle.std.specs.Prelude.{option_and_then, option_map, unwrap_or, is_some, codes, if◌then◌else◌, nat_le}
use Rattle.std.specs.Str.{bytes_eq}
use Rattle.dw_words.specs.GivenWords.{AreFewWorkers, Meaning, WordBytes, meaning}
use Rattle.dw_words.specs.Numbers.{address_of_word, decimal_of}
use Rattle.dw_words.specs.declared.command.Command.{Command}
use Rattle.dw_words.specs.declared.command.Command.TheVariants as commands
use Rattle.dw_words.specs.declared.refusals.WordsRefusal.{WordsRefusal}
use Rattle.dw_words.specs.declared.refusals.WordsRefusal.TheVariants as refusals
use Rattle.dw_words.specs.declared.request.Request.{Request}
use Rattle.dw_words.specs.declared.request.Request.TheVariants as requests
use Rattle.dw_words.specs.declared.request.TheConstants.{DEFAULT_WORKERS, MOST_UNITS}

-- ---- the commands' names

unfoldable pub list_command_named : WordBytes → Option Command
list_command_named name =
    if bytes_eq name (codes "lines") then Some commands.Lines
    else (if bytes_eq name (codes "ranges") then Some commands.Ranges
    else None)

-- a command that reads one file and takes no option
unfoldable pub command_named : WordBytes → Option Command
command_named name =
    if bytes_eq name (codes "units") then Some commands.Units
    else (if bytes_eq name (codes "sections") then Some commands.Sections
    else (if bytes_eq name (codes "abbrev") then Some commands.Abbrev
    else list_command_named name))

-- ---- what a command wants of the words behind it

-- a request, with texts in the place of references
pub data RequestView : Type 0 where
  of_file : Command → WordBytes → RequestView
  of_dump : WordBytes → ℕ → Bool → RequestView
  of_addresses : WordBytes → List ℕ → RequestView
  of_query : WordBytes → WordBytes → RequestView
  of_exercise : ℕ → ℕ → RequestView

-- the positional words, where no option is given
unfoldable pub words_alone : Meaning → Option (List WordBytes)
words_alone m = if is_some m.workers || m.stats then None else Some m.rest

-- COMMAND FILE
unfoldable pub file_request : Command → List WordBytes → Option RequestView
file_request command (file ∷ []) = Some (of_file command file)
file_request command words = None

-- the number of workers, or the one where none is given
abbrev pub worker_number : Option ℕ → ℕ
worker_number workers = unwrap_or workers DEFAULT_WORKERS

-- dump [--workers W] [--stats] FILE
unfoldable pub dump_request : ℕ → Bool → List WordBytes → Option RequestView
dump_request workers stats (file ∷ []) = Some (of_dump file workers stats)
dump_request workers stats words = None

-- all of the words as addresses
unfoldable pub addresses_of : List WordBytes → Option (List ℕ)
addresses_of [] = Some []
addresses_of (word ∷ words) =
    option_and_then (λ a. option_map (λ others. a ∷ others) (addresses_of words))
    (address_of_word word)

-- addr FILE ADDRESS..
unfoldable pub addresses_request : List WordBytes → Option RequestView
addresses_request (file ∷ word ∷ words) =
    option_map (of_addresses file) (addresses_of (word ∷ words))
addresses_request words = None

-- query NAME FILE
unfoldable pub query_request : List WordBytes → Option RequestView
query_request (visitor ∷ file ∷ []) = Some (of_query visitor file)
query_request words = None

abbrev pub as_unit_count : ℕ → Option ℕ
as_unit_count n = if nat_le 1 n && nat_le n MOST_UNITS then Some n else None

-- 1 to 9,999
unfoldable pub unit_count : WordBytes → Option ℕ
unit_count word = option_and_then as_unit_count (decimal_of word)

-- exercise N [--workers W]
unfoldable pub exercise_request : ℕ → List WordBytes → Option RequestView
exercise_request workers (word ∷ []) =
    option_map (λ units. of_exercise units workers) (unit_count word)
exercise_request workers words = None

-- ---- the meaning of a command line

-- the commands that read one file and take no option
unfoldable pub file_asked : WordBytes → Meaning → Option RequestView
file_asked name m =
    option_and_then (λ command. option_and_then (file_request command) (words_alone m))
    (command_named name)

abbrev pub exercise_asked : Meaning → Option RequestView
exercise_asked m =
    if m.stats then None else exercise_request (worker_number m.workers) m.rest

-- the commands that want no list of their own
unfoldable pub plain_asked : WordBytes → Meaning → Option RequestView
plain_asked name m =
    if bytes_eq name (codes "query") then option_and_then query_request (words_alone m)
    else (if bytes_eq name (codes "dump") then dump_request (worker_number m.workers) m.stats m.rest
    else (if bytes_eq name (codes "exercise") then exercise_asked m
    else file_asked name m))

-- the words behind a command of this name
unfoldable pub asked : WordBytes → Meaning → Option RequestView
asked name m =
    if bytes_eq name (codes "addr") then option_and_then addresses_request (words_alone m)
    else plain_asked name m

-- the words after the program's name
unfoldable pub meaning_of : List WordBytes → Option RequestView
meaning_of [] = None
meaning_of (name ∷ words) = option_and_then (asked name) (meaning words)

-- ---- what a call answers

abbrev pub request_view : Request → RequestView
request_view (requests.File command file) = of_file command file.now
request_view (requests.Dump file workers stats) = of_dump file.now workers stats
request_view (requests.Addresses file addresses) = of_addresses file.now addresses.items
request_view (requests.Query visitor file) = of_query visitor.now file.now
request_view (requests.Exercise units workers) = of_exercise units workers

-- a number of units that words may ask for
abbrev pub AreFewUnits : ℕ → Type 0
AreFewUnits n = (1 ≤ n) × (n ≤ MOST_UNITS)

-- the numbers of units and of workers of a request are such as words may ask for
abbrev pub IsWithinLimits : RequestView → Type 0
IsWithinLimits (of_file command file) = ⊤
IsWithinLimits (of_dump file workers stats) = AreFewWorkers workers
IsWithinLimits (of_addresses file addresses) = ⊤
IsWithinLimits (of_query visitor file) = ⊤
IsWithinLimits (of_exercise units workers) = AreFewUnits units × AreFewWorkers workers

-- the request, or that there is none; want of memory may come at any time
abbrev pub IsRequest : Result Request WordsRefusal → Option RequestView → Type 0
IsRequest (Ok request) m = m ≡ Some (request_view request)
IsRequest (Err refusals.NoMeaning) m = m ≡ None
IsRequest (Err refusals.OutOfMemory) m = ⊤

-- the same of a list of addresses
abbrev pub AreAddresses : {V : Type 0} → (V → List ℕ) → Result V WordsRefusal → Option (List ℕ) → Type 0
AreAddresses items (Ok addresses) m = m ≡ Some (items addresses)
AreAddresses items (Err refusals.NoMeaning) m = m ≡ None
AreAddresses items (Err refusals.OutOfMemory) m = ⊤
