-- What was read of a unit, and by which seats.
use Rattle.std.specs.Prelude.{◌≡◌, ℕ, List, map, Ok, Err, IsOk}
use Rattle.elf_sections.specs.Shapes.{SectionsView}
use Rattle.unit_draws.specs.Windows.{IsUnitOfWindow}
use Rattle.unit_headers.specs.Headers.{unit_count}
use Rattle.dump_workers.specs.declared.reading.Reading.{Reading}
use Rattle.dump_workers.specs.declared.reading.UnitRead.{UnitRead}
use Rattle.dump_workers.specs.declared.reading.UnitRead.TheVariants.{Whole, Refused, Skipped, Handed}
use Rattle.dump_workers.specs.RefusedUnits.{IsBehindRefused}
use Rattle.dump_workers.specs.UnitDumps.{unit_dump, entry_count}

-- This was read of the unit: its text and how many entries it has, or its refusal; or nothing, behind a refused unit.
-- A text that was handed on is no longer here, but the unit has one.
abbrev pub IsRead : SectionsView → ℕ → UnitRead → Type 0
IsRead s unit (Whole text entries) = (unit_dump s unit ≡ Ok text.items) × (entries ≡ entry_count s unit)
IsRead s unit (Refused fault) = unit_dump s unit ≡ Err fault
IsRead s unit Skipped = IsBehindRefused s unit
IsRead s unit Handed = IsOk (unit_dump s unit)

-- what was read of a unit of the window
pub record IsReading (s : SectionsView) (window : ℕ) (r : Reading) : Type 0 where
  pub inside : IsUnitOfWindow (unit_count s.info s.order) window r.unit
  pub read : IsRead s r.unit r.read

-- the units that were read, in the order of the readings
abbrev pub units_read : List Reading → List ℕ
units_read readings = map (λ (r : Reading). r.unit) readings
