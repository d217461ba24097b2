-- What contracts see of the seats of a dump, and what a dump leaves of them.
use Rattle.std.specs.Prelude.{◌≡◌, ◌⊎◌, ℕ, List, [], ◌∷◌}
use Rattle.abbrev_decl.specs.Lookup.{Notes}
use Rattle.elf_sections.specs.Shapes.{SectionsView}
use Rattle.map_cells.specs.Seen.{PassView, Follows}
use Rattle.handle_cache.specs.Handles.{HandleView, Belongs, front_keys, is_spent}
use Rattle.dump_workers.specs.declared.seat.Work.{Work}
use Rattle.dump_workers.specs.FileKeys.{IsFileKey, GainsUnits, CountsUnits}

-- a worker's pass and its counter, and what it holds during a dump
pub record DumpSeatView : Type 0 where
  pub pass : PassView
  pub steps : ℕ
  pub work : Work

-- the seat has its pass and its counter still
pub record SameSeat (old new : DumpSeatView) : Type 0 where
  pub pass : new.pass ≡ old.pass
  pub steps : new.steps ≡ old.steps

-- the passes are of the handle's table, and at rest
abbrev pub EachBelongs : HandleView → List DumpSeatView → Type 0
EachBelongs h [] = Unit {0}
EachBelongs h (seat ∷ seats) = Belongs h seat.pass × EachBelongs h seats

-- as many seats as before, and the pass in each place follows
abbrev pub EachFollows : List DumpSeatView → List DumpSeatView → Type 0
EachFollows [] [] = Unit {0}
EachFollows [] (later ∷ laters) = ⊥
EachFollows (seat ∷ seats) [] = ⊥
EachFollows (seat ∷ seats) (later ∷ laters) = Follows seat.pass later.pass × EachFollows seats laters

-- What reading the units of a file makes of the pass in each place: own entries gain keys that the file uses.
abbrev pub EachGains : SectionsView → List DumpSeatView → List DumpSeatView → Type 0
EachGains s [] [] = Unit {0}
EachGains s [] (later ∷ laters) = ⊥
EachGains s (seat ∷ seats) [] = ⊥
EachGains s (seat ∷ seats) (later ∷ laters) = GainsUnits s seat.pass later.pass × EachGains s seats laters

-- What it makes of the counter in each place: where the pass knew all that the file uses nothing is counted.
abbrev pub EachCounts : SectionsView → List DumpSeatView → List DumpSeatView → Type 0
EachCounts s [] [] = Unit {0}
EachCounts s [] (later ∷ laters) = ⊥
EachCounts s (seat ∷ seats) [] = ⊥
EachCounts s (seat ∷ seats) (later ∷ laters) =
    CountsUnits s seat.pass seat.steps later.steps × EachCounts s seats laters

-- the key is in the front of some seat, or some seat's front has as many entries as the table has room for
abbrev pub SomeSeatNotes : ℕ → List DumpSeatView → Type 0
SomeSeatNotes k [] = ⊥
SomeSeatNotes k (seat ∷ seats) = Notes (front_keys seat.pass) (is_spent seat.pass) k ⊎ SomeSeatNotes k seats

-- each key that the file uses is
abbrev pub SeatsNoteFile : SectionsView → List DumpSeatView → Type 0
SeatsNoteFile s seats = (k : ℕ) → IsFileKey s k → SomeSeatNotes k seats
