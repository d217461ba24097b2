-- The text of all abbreviation tables, as our text format has it (DWARF 5 section 7.5.3).
use Rattle.std.specs.Prelude.{◌≡◌, ℕ, zero, suc, ◌+◌, ◌<◌, ◌≤◌, nat_lt, if◌then◌else◌, List, [], ◌∷◌, ◌++◌, length, Option, Some, None, Result, Ok, Err, codes}
use Rattle.dw_fields.specs.declared.fault_code.Fault.{Fault}
use Rattle.dw_fields.specs.declared.fault_code.Code.TheVariants.{DeclTruncated}
use Rattle.dw_fields.specs.Codes.{fault}
use Rattle.dw_fields.specs.Reading.{uleb_at}
use Rattle.dw_text.specs.Added.{labelled}
use Rattle.dw_text.specs.Numbers.{hex}
use Rattle.abbrev_decl.specs.Pairs.{from}
use Rattle.abbrev_decl.specs.Shapes.{DeclView}
use Rattle.abbrev_decl.specs.Declarations.{declaration_at}
use Rattle.unit_text.specs.Declarations.{declaration_text}

-- a text in front of a text that comes with something
abbrev pub after : {X : Type 0} → List ℕ → List ℕ × X → List ℕ × X
after text t = (text ++ t.0, t.1)

-- the place behind a code 0, which may be padded
unfoldable pub zero_end : List ℕ → ℕ → ℕ
zero_end section place = elim (uleb_at (from section place)) [ Ok code ↦ code.1 | Err f ↦ place ]

-- What stands at a place of a table, and then the rest of the table: a declaration, the code 0 that ends the table, or a
-- fault. The text comes with the place behind the table, or with the fault.
abbrev pub table_on : Result (Option (DeclView × ℕ)) Fault → ℕ → (ℕ → List ℕ × Result ℕ Fault)
    → List ℕ × Result ℕ Fault
table_on (Err f) end rest = ([], Err f)
table_on (Ok None) end rest = ([], Ok end)
table_on (Ok (Some (declaration, next))) end rest = after (declaration_text declaration) (rest next)

-- at most `most` declarations from a place on
abbrev pub table_from : ℕ → List ℕ → ℕ → List ℕ × Result ℕ Fault
table_from zero section place = ([], Err (fault DeclTruncated place))
table_from (suc most) section place =
    table_on (declaration_at section place) (zero_end section place)
    (λ next. table_from most section next)

-- the declarations of the table at a place; a section has fewer of them than bytes
unfoldable pub table_from_start : List ℕ → ℕ → List ℕ × Result ℕ Fault
table_from_start section table = table_from (length section + 1) section table

-- the line of the table at a place
abbrev pub table_line : ℕ → List ℕ
table_line table = labelled (codes "table 0x") (hex table) ++ (10 ∷ [])

-- the line of the table at a place, and its declarations
unfoldable pub headed_table : List ℕ → ℕ → List ℕ × Result ℕ Fault
headed_table section table = after (table_line table) (table_from_start section table)

-- A table, and then the tables behind it where it ends with a code 0. The text comes with the fault, if there is one.
abbrev pub tables_on : List ℕ × Result ℕ Fault → (ℕ → List ℕ × Option Fault) → List ℕ × Option Fault
tables_on (text, Err f) rest = (text, Some f)
tables_on (text, Ok next) rest = after text (rest next)

-- at most `most` tables from a place on, up to the section's end
abbrev pub tables_from : ℕ → List ℕ → ℕ → List ℕ × Option Fault
tables_from zero section table = ([], None)
tables_from (suc most) section table =
    if nat_lt table (length section)
    then tables_on (headed_table section table) (λ next. tables_from most section next)
    else ([], None)

-- all tables of a section; it has fewer of them than bytes
unfoldable pub tables_text : List ℕ → List ℕ × Option Fault
tables_text section = tables_from (length section + 1) section 0

-- A call inside appended the text, and answers what comes with it; or some part was appended and memory is wanting.
abbrev pub AddsTo : {X E : Type 0} → Result X E → List ℕ → List ℕ → List ℕ × X → Type 0
AddsTo (Ok x) old new t = (x ≡ t.1) × (new ≡ old ++ t.0)
AddsTo (Err e) old new t = (part : List ℕ) × (new ≡ old ++ part)

-- a table that ends with a code 0 ends behind its start and inside the section
abbrev pub TableEnds : ℕ → ℕ → Result ℕ Fault → Type 0
TableEnds table end (Ok next) = (table < next) × (next ≤ end)
TableEnds table end (Err f) = Unit {0}
