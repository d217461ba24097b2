-- What contracts see of the sources and the sinks in memory.
use Rattle.std.specs.Prelude.{ℕ, ◌-◌, ◌==◌, ◌||◌, min, not, Bool, List, [], length, Option, Some, None, if◌then◌else◌, bytes_eq}
use Rattle.std.specs.List.{list_any}
use Rattle.dw_outside.specs.Faults.{counted}

-- a source of one file: its name and its bytes, the numbers of the calls that fail, how many calls
-- were made, and how many of them failed
pub record SourceState : Type 0 where
  pub name : List ℕ
  pub bytes : List ℕ
  pub failing : List ℕ
  pub calls : ℕ
  pub faults : ℕ

-- a sink: what it holds, the numbers of the calls that fail, how many calls were made, and how many
-- of them failed
pub record SinkState : Type 0 where
  pub bytes : List ℕ
  pub failing : List ℕ
  pub calls : ℕ
  pub faults : ℕ

-- a file that holds its bytes under its name
pub record NamedBytes : Type 0 where
  pub name : List ℕ
  pub bytes : List ℕ

-- whether the call behind so many calls is among those that fail; calls are numbered from 1
unfoldable pub fails_next : List ℕ → ℕ → Bool
fails_next failing calls = list_any (λ n. n == counted calls) failing

-- whether the next read under the name fails: by its number, or by the name
unfoldable pub refuses : SourceState → List ℕ → Bool
refuses s name = fails_next s.failing s.calls || not (bytes_eq s.name name)

-- the count of faults behind a call that failed, or that didn't
abbrev pub faults_after : Bool → ℕ → ℕ
faults_after failed faults = if failed then counted faults else faults

-- how many bytes a buffer of this size gets from the place on
abbrev pub read_count : List ℕ → ℕ → ℕ → ℕ
read_count bytes place size = min size (length bytes - place)

-- what is held under a name, by a source that tells of one name alone
abbrev pub told_under : List ℕ → List ℕ → List ℕ → Option (List ℕ)
told_under own bytes name = if bytes_eq own name then Some bytes else None

-- what is held under a name, where any other name holds nothing
abbrev pub held_under : List ℕ → List ℕ → List ℕ → List ℕ
held_under own bytes name = if bytes_eq own name then bytes else []
