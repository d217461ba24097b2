-- What a query prints.
use Rattle.std.specs.Prelude.{ℕ, List, [], Some, Result, Ok, Err}
use Rattle.elf_sections.specs.Shapes.{SectionsView}
use Rattle.visit_queries.specs.Seen.{Meanings, report_on}
use Rattle.visit_queries.specs.Shown.{RefusedUnit, met_in}
use Rattle.dw_run.specs.declared.refusals.Refusal.TheVariants as refusals
use Rattle.dw_run.specs.CommandTexts.{CommandText, whole}

-- the whole report, or nothing but the refusal of a unit that was reached
abbrev pub report_printed : Result (List ℕ) RefusedUnit → CommandText
report_printed (Ok text) = whole text
report_printed (Err refused) =
    record { text = []; refusal = Some (refusals.Unit refused.unit refused.fault) }

-- the report of a visitor on all that is met in a file
abbrev pub query_printed : Meanings → SectionsView → CommandText
query_printed visitor s = report_printed (report_on visitor (met_in s))
