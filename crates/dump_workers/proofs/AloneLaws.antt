-- A dump by one seat.
use Rattle.std.specs.Prelude.{◌≡◌, ℕ, ◌+◌, ◌<◌, List, [], ◌∷◌, length, slice_set, Option, Result}
use Rattle.std.proofs.Common.{arith, ap, subst, sym, ◌∙◌, inl}
use mathlib.Core.Logic.{dite}
use native.Mathlib.Decide.{ℕ_discrete}
use Rattle.elf_sections.specs.Shapes.{SectionsView}
use Rattle.map_cells.specs.Seen.{PassView, Follows}
use Rattle.handle_cache.proofs.Calls.{still_noted}
use Rattle.unit_headers.specs.Headers.{unit_count}
use Rattle.dump_workers.specs.declared.ends.DumpFault.{DumpFault}
use Rattle.dump_workers.specs.declared.ends.RefusedUnit.{RefusedUnit}
use Rattle.dump_workers.specs.Dumps.{Prints, dump_from, dump_of}
use Rattle.dump_workers.specs.FileKeys.{NotesUnit, NotesUnits}
use Rattle.dump_workers.specs.Seats.{DumpSeatView, SeatsNoteFile}
use Rattle.dump_workers.specs.UnitDumps.{entries_from, file_entries}

-- what is printed of all units is the dump
pub as_dump : (s : SectionsView) (units : ℕ) (r : Result (Option RefusedUnit) DumpFault) (old new : Option (List ℕ)) → units ≡ unit_count s.info s.order
    → Prints r (dump_from s 0 units) old new → Prints r (dump_of s) old new
unfolding dump_of
as_dump s units r old new count printed = subst (λ (n : ℕ). Prints r (dump_from s 0 n) old new) count printed

pub as_entries : (s : SectionsView) (units entries : ℕ) → units ≡ unit_count s.info s.order → entries ≡ entries_from s 0 units → entries ≡ file_entries s
unfolding file_entries
as_entries s units entries count all = all ∙ ap (entries_from s 0) count

-- the units below, and one more
pub notes_next : (s : SectionsView) (unit : ℕ) (p q : PassView) → Follows p q → ((u : ℕ) → u < unit → NotesUnit s u p) → NotesUnit s unit q
    → (u : ℕ) → u < unit + 1 → NotesUnit s u q
notes_next s unit p q follows before here u low =
    dite (ℕ_discrete u unit) (λ is. subst (λ (n : ℕ). NotesUnit s n q) (sym is) here)
    (λ isnt. λ k uses. still_noted p q k follows (before u (omega (arith, low, isnt)) k uses))

-- the only seat notes the file
pub alone_notes : (s : SectionsView) (xs : List DumpSeatView) (y : DumpSeatView) → length xs ≡ 1 → NotesUnits s y.pass → SeatsNoteFile s (slice_set xs 0 y)
alone_notes s [] y one notes = absurd (omega (arith, one))
alone_notes s (x ∷ xs) y one notes = λ k uses. inl (notes uses.unit uses.counted k uses.uses)
