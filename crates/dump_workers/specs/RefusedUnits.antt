-- Which units of a file are refused.
use Rattle.std.specs.Prelude.{ℕ, ◌*◌, ◌/◌, ◌<◌, ◌≤◌, List, Result, Ok, Err, IsErr}
use Rattle.elf_sections.specs.declared.refusals.ElfRefusal.{ElfRefusal}
use Rattle.elf_sections.specs.Names.{elf_of}
use Rattle.elf_sections.specs.Rows.{ElfView}
use Rattle.elf_sections.specs.Shapes.{SectionsView, sections_of}
use Rattle.unit_draws.specs.declared.windows.TheConstants.{WINDOW}
use Rattle.dump_workers.specs.UnitDumps.{unit_dump}

abbrev pub RefusesUnitOf : Result ElfView ElfRefusal → ℕ → Type 0
RefusesUnitOf (Ok elf) unit = IsErr (unit_dump (sections_of elf) unit)
RefusesUnitOf (Err e) unit = ⊥

-- the unit of the file of these bytes is refused
abbrev pub RefusesUnit : List ℕ → ℕ → Type 0
RefusesUnit file unit = RefusesUnitOf (elf_of file) unit

-- a unit of the same window before this one is refused
pub record IsBehindRefused (s : SectionsView) (unit : ℕ) : Type 0 where
  pub refused : ℕ
  pub from : WINDOW * (unit / WINDOW) ≤ refused
  pub before : refused < unit
  pub refuses : IsErr (unit_dump s refused)
