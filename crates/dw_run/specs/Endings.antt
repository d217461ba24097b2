-- What a run leaves on standard error, and its status.
use Rattle.std.specs.Prelude.{◌≡◌, ℕ, ◌<◌, ◌≤◌, ◌⊎◌, List, [], ◌∷◌, ◌++◌, Option, codes}
use Rattle.dw_outside.specs.Faults.{Rose}
use Rattle.dw_outside.specs.Gains.{Gains, GainsPart}
use Rattle.dw_outside.specs.declared.stops.ReadStop.{ReadStop}
use Rattle.dw_outside.specs.declared.stops.ReadStop.TheVariants as read_stops
use Rattle.dw_outside.specs.declared.stops.WriteStop.{WriteStop}
use Rattle.dw_outside.specs.declared.stops.WriteStop.TheVariants as write_stops
use Rattle.dw_run.specs.declared.refusals.Refusal.{Refusal}
use Rattle.dw_run.specs.RefusalLines.{refusal_line}

-- a line of these words
abbrev pub line : List ℕ → List ℕ
line words = words ++ 10 ∷ []

-- the lines that speak of the words and of the outside: docs/FORMATS.md lists them
abbrev pub unread_line : List ℕ
unread_line = line (codes "dwtool: cannot read the file")

abbrev pub misunderstood_line : List ℕ
misunderstood_line = line (codes "dwtool: words not understood")

abbrev pub no_memory_line : List ℕ
no_memory_line = line (codes "dwtool: out of memory")

-- The line was written whole, and the status is the given one; or writing it failed (4) or wanted
-- memory (5).
pub record EndsWith (text : List ℕ) (wanted status : ℕ)
    (err0 err1 : Option (List ℕ)) (faults0 faults1 : ℕ) : Type 0 where
  pub answers : (status ≡ wanted) ⊎ (status ≡ 4) ⊎ (status ≡ 5)
  pub printed : status < 4 → Gains err0 err1 text
  pub part : GainsPart err0 err1 text
  pub failed : status ≡ 4 → Rose faults0 faults1
  pub later : faults0 ≤ faults1

-- what stands on standard error of a line, or of the line that memory was wanting
abbrev pub PartOfLine : List ℕ → Option (List ℕ) → Option (List ℕ) → Type 0
PartOfLine text err0 err1 = GainsPart err0 err1 text ⊎ GainsPart err0 err1 no_memory_line

-- the same for the line of a refusal, which wants memory before it is written
pub record EndsRefused (refusal : Refusal) (status : ℕ)
    (err0 err1 : Option (List ℕ)) (faults0 faults1 : ℕ) : Type 0 where
  pub answers : (status ≡ 1) ⊎ (status ≡ 4) ⊎ (status ≡ 5)
  pub printed : status < 4 → Gains err0 err1 (refusal_line refusal)
  pub part : PartOfLine (refusal_line refusal) err0 err1
  pub failed : status ≡ 4 → Rose faults0 faults1
  pub later : faults0 ≤ faults1

-- the file could not be read: the line that speaks of the source, or of memory
abbrev pub EndsUnread : ReadStop → ℕ → Option (List ℕ) → Option (List ℕ) → ℕ → ℕ → Type 0
EndsUnread read_stops.Failed status err0 err1 faults0 faults1 = EndsWith unread_line 3 status err0 err1 faults0 faults1
EndsUnread read_stops.OutOfMemory status err0 err1 faults0 faults1 = EndsWith no_memory_line 5 status err0 err1 faults0 faults1

-- a text was stopped: nothing more is written where the sink failed, or the line that memory was wanting
abbrev pub EndsStopped : WriteStop → ℕ → Option (List ℕ) → Option (List ℕ) → ℕ → ℕ → Type 0
EndsStopped write_stops.Failed status err0 err1 faults0 faults1 = (status ≡ 4) × (err1 ≡ err0) × (faults1 ≡ faults0)
EndsStopped write_stops.OutOfMemory status err0 err1 faults0 faults1 = EndsWith no_memory_line 5 status err0 err1 faults0 faults1
