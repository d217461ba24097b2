-- The place of a row that was found among the kept ones.
use Rattle.std.proofs.Common.{◌≡◌, ◌∙◌, ◌<◌, ◌^◌, ℕ, suc, Bool, true, false, cond, List, [], ◌∷◌, ◌++◌, length, map, slice_get, Option, Some, None, option_map, Result, Ok, Err, refl, sym, ap, subst, arith}
use Rattle.std.specs.Option.{option_or}
use Rattle.std.specs.Result.{result_ok}
use Rattle.std.proofs.lemmas.List.{append_assoc, length-append}
use Rattle.dw_fields.specs.declared.fault_code.Fault.{Fault}
use Rattle.line_machine.specs.declared.registers.Row.{Row}
use Rattle.line_programs.specs.LineTables.{TableView}
use Rattle.line_programs.specs.Shapes.{LineView}
use Rattle.row_index.specs.declared.rows.KeptRow.{KeptRow}
use Rattle.row_index.specs.Kept.{kept_row}
use Rattle.row_index.specs.Rows.{covers, row_behind, row_at, of_unit, found_from, found_in}
use Rattle.address_lookup.specs.declared.names.UnitNames.{UnitNames}
use Rattle.address_lookup.specs.Kept.{KeptTable, kept_table, kept_place, found_place, kept_place_of}
use Rattle.address_lookup.specs.Places.{PlaceView, covering, covering_behind, place_in_file, place_in_unit, place_of_line}
use Rattle.address_lookup.proofs.Lookups.{cut_number}

by_test : (test : Bool) (row : Row) (x : Option KeptRow) (y : Option Row) → x ≡ option_map kept_row y → cond test (Some (kept_row row)) x ≡ option_map kept_row (cond test (Some row) y)
by_test true row x y e = refl
by_test false row x y e = e

behind_kept : (row : Row) (rest : List Row) (a : ℕ) → row_behind (kept_row row) (map kept_row rest) a ≡ option_map kept_row (covering_behind row rest a)
behind_kept row [] a = refl
behind_kept row (next ∷ rest) a = by_test (covers (kept_row row) (kept_row next) a) row (row_behind (kept_row next) (map kept_row rest) a) (covering_behind next rest a) (behind_kept next rest a)

-- an address belongs to the same row among the kept ones
row_kept : (rows : List Row) (a : ℕ) → row_at (map kept_row rows) a ≡ option_map kept_row (covering rows a)
row_kept [] a = refl
row_kept (row ∷ rest) a = behind_kept row rest a

-- the place of an address in a table as it is kept
abbrev kept_in : ℕ → Option KeptTable → ℕ → Option PlaceView
kept_in unit (Some table) a = option_map (λ (row : KeptRow). place_of_line unit table.0 row.file row.line) (row_at table.1 a)
kept_in unit None a = None

place_kept : (unit : ℕ) (program : LineView) (found : Option Row) → length program.files < 2 ^ 32
    → option_map (λ (row : KeptRow). place_of_line unit program row.file row.line) (option_map kept_row found) ≡ option_map (λ (row : Row). place_of_line unit program row.file row.line) found
place_kept unit program None few = refl
place_kept unit program (Some row) few = ap (λ file. Some (place_in_file unit row.line program file)) (cut_number program.files row.file few)

-- the greatest number of files that a kept row tells apart
abbrev IsNumbered : Option KeptTable → Type 0
IsNumbered (Some table) = length table.0.files < 2 ^ 32
IsNumbered None = Unit {0}

table_kept : (unit : ℕ) (table : Result TableView Fault) (a : ℕ) → IsNumbered (result_ok (kept_table table)) → kept_in unit (result_ok (kept_table table)) a ≡ place_in_unit unit (result_ok table) a
table_kept unit (Ok table) a few =
    ap (option_map (λ (row : KeptRow). place_of_line unit table.0 row.file row.line)) (row_kept table.1 a) ∙ place_kept unit table.0 (covering table.1 a) few
table_kept unit (Err f) a few = refl

-- what a table that was read tells
pub table_tells : (unit : UnitNames) (rows : List KeptRow) (table : Result TableView Fault) (a : ℕ) → length unit.header.files < 2 ^ 32
    → ◌≡◌ {A = Option KeptTable} (Some (unit.header, rows)) (result_ok (kept_table table)) → option_map (kept_place unit) (row_at rows a) ≡ place_in_unit unit.number (result_ok table) a
table_tells unit rows table a few e =
    let numbered : IsNumbered (result_ok (kept_table table)) = subst IsNumbered e few in
    ap (λ kept. kept_in unit.number kept a) e ∙ table_kept unit.number table a numbered

-- one that was refused tells nothing
pub table_refused : (unit : ℕ) (table : Result TableView Fault) (a : ℕ) → ◌≡◌ {A = Option KeptTable} None (result_ok (kept_table table)) → None ≡ place_in_unit unit (result_ok table) a
table_refused unit table a e =
    let numbered : IsNumbered (result_ok (kept_table table)) = subst IsNumbered e tt in
    ap (λ kept. kept_in unit kept a) e ∙ table_kept unit table a numbered

get_at : {X : Type 0} (front back : List X) (x : X) → slice_get (front ++ x ∷ back) (length front) ≡ Some x
get_at [] back x = refl
get_at (first ∷ front) back x = get_at front back x

found_here : (row : Option KeptRow) (front units : List UnitNames) (unit : UnitNames) (others : Option (ℕ × KeptRow)) (rest : Option PlaceView)
    → found_place (front ++ unit ∷ units) others ≡ rest
    → found_place (front ++ unit ∷ units) (option_or (of_unit (length front) row) others) ≡ option_or (option_map (kept_place unit) row) rest
found_here None front units unit others rest e = e
found_here (Some row) front units unit others rest e = ap (option_map (λ (u : UnitNames). kept_place u row)) (get_at front units unit)

found_behind : (front units : List UnitNames) (rows : List (List KeptRow)) (a : ℕ) → length units ≡ length rows
    → found_place (front ++ units) (found_from (length front) rows a) ≡ kept_place_of units rows a
found_behind front [] [] a e = refl
found_behind front [] (rows ∷ others) a e = absurd (omega (arith, e))
found_behind front (unit ∷ units) [] a e = absurd (omega (arith, e))
found_behind front (unit ∷ units) (rows ∷ others) a e =
    let size : suc (length front) ≡ length (front ++ unit ∷ []) = omega (arith, length-append front (unit ∷ [])) in
    found_here (row_at rows a) front units unit (found_from (suc (length front)) others a) (kept_place_of units others a)
    (ap (λ xs. found_place xs (found_from (suc (length front)) others a)) (sym (append_assoc front (unit ∷ []) units))
    ∙ ap (λ n. found_place (front ++ unit ∷ [] ++ units) (found_from n others a)) size
    ∙ found_behind (front ++ unit ∷ []) units others a (omega (arith, e)))

-- the row that is found tells the place of the first unit that has one
pub found_first : (units : List UnitNames) (rows : List (List KeptRow)) (a : ℕ) → length units ≡ length rows → found_place units (found_in rows a) ≡ kept_place_of units rows a
found_first units rows a e = found_behind [] units rows a e
