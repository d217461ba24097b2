-- The dump of a file: the texts of its units in order, up to the first unit that is refused. It is a definition of
-- our own, and reads unit after unit.
use Rattle.std.specs.Prelude.{◌≡◌, ℕ, zero, suc, ◌+◌, List, [], ◌++◌, Option, Some, None, Result, Ok, Err}
use Rattle.dw_outside.specs.Gains.{Gains, GainsPart}
use Rattle.elf_sections.specs.Shapes.{SectionsView}
use Rattle.unit_headers.specs.Headers.{unit_count}
use Rattle.unit_text.specs.Pieces.{Text}
use Rattle.dump_workers.specs.declared.ends.DumpEnd.{DumpEnd}
use Rattle.dump_workers.specs.declared.ends.DumpEnd.TheVariants.{Whole, Refused}
use Rattle.dump_workers.specs.declared.ends.DumpFault.{DumpFault}
use Rattle.dump_workers.specs.declared.ends.RefusedUnit.{RefusedUnit}
use Rattle.dump_workers.specs.FileKeys.{RefusesNone}
use Rattle.dump_workers.specs.UnitDumps.{unit_dump, file_entries}

-- the texts, and the unit that ends them, where one is refused
pub record DumpText : Type 0 where
  pub text : List ℕ
  pub refused : Option RefusedUnit

-- the text of a unit and the dump of the units behind it, or the unit's refusal alone
abbrev pub unit_dumped : ℕ → Text → DumpText → DumpText
unit_dumped unit (Ok text) others = record { text = text ++ others.text; refused = others.refused }
unit_dumped unit (Err fault) others =
    record { text = []; refused = Some (record { unit = unit; fault = fault }) }

-- the dump of so many units from one on
unfoldable pub dump_from : SectionsView → ℕ → ℕ → DumpText
dump_from s unit zero = record { text = []; refused = None }
dump_from s unit (suc n) = unit_dumped unit (unit_dump s unit) (dump_from s (unit + 1) n)

-- the dump of all units
unfoldable pub dump_of : SectionsView → DumpText
dump_of s = dump_from s 0 (unit_count s.info s.order)

-- A sink took all of the text, and the refused unit is the one that ends it; or the sink stopped within the text.
abbrev pub Prints : Result (Option RefusedUnit) DumpFault → DumpText → Option (List ℕ) → Option (List ℕ) → Type 0
Prints (Ok refused) dump old new = (refused ≡ dump.refused) × Gains old new dump.text
Prints (Err fault) dump old new = GainsPart old new dump.text

-- how a dump ended, with the refused unit alone
abbrev pub refused_by : DumpEnd → Option RefusedUnit
refused_by (Whole w) = None
refused_by (Refused unit fault) = Some (record { unit = unit; fault = fault })

-- What a dump's answer says of the sink: it took the texts of all units, or those before the first refused one, which
-- is told; or it took a part of these bytes.
abbrev pub Ends : Result DumpEnd DumpFault → DumpText → Option (List ℕ) → Option (List ℕ) → Type 0
Ends (Ok end) dump old new = Prints (Ok (refused_by end)) dump old new
Ends (Err fault) dump old new = Prints (Err fault) dump old new

-- what a whole dump tells: the numbers of units, of entries and of workers
abbrev pub CountsWhole : SectionsView → ℕ → DumpEnd → Type 0
CountsWhole s workers (Whole w) =
    (w.units ≡ unit_count s.info s.order) × (w.entries ≡ file_entries s) × (w.workers ≡ workers)
CountsWhole s workers (Refused unit fault) = Unit {0}

-- a whole dump has refused no unit
abbrev pub WholeRefusesNone : SectionsView → DumpEnd → Type 0
WholeRefusesNone s (Whole w) = RefusesNone s
WholeRefusesNone s (Refused unit fault) = Unit {0}
