-- Tables that are gathered one behind another, and what they tell.
use Rattle.std.proofs.Common.{◌≡◌, ◌∙◌, ◌-◌, ◌+◌, ◌<◌, ◌≤◌, ℕ, suc, List, [], ◌∷◌, ◌++◌, length, Option, Some, None, option_map, refl, sym, ap, arith}
use Rattle.std.specs.Option.{option_or}
use Rattle.elf_sections.specs.Shapes.{SectionsView}
use Rattle.line_machine.specs.declared.registers.Row.{Row}
use Rattle.line_programs.specs.LineTables.{TableView}
use Rattle.row_index.specs.declared.rows.KeptRow.{KeptRow}
use Rattle.row_index.specs.Rows.{row_at}
use Rattle.unit_headers.specs.Headers.{unit_count}
use Rattle.address_lookup.specs.declared.names.UnitNames.{UnitNames}
use Rattle.address_lookup.specs.declared.programs.ProgramKey.{ProgramKey}
use Rattle.address_lookup.specs.Built.{TellsNothing}
use Rattle.address_lookup.specs.Kept.{kept_place, kept_place_of}
use Rattle.address_lookup.specs.Places.{PlaceView, covering, place_from, place_in_unit, place_of, place_of_line}
use Rattle.address_lookup.specs.Programs.{table_at, unit_table}

pub or_none : {X : Type 0} (x : Option X) → option_or x None ≡ x
or_none None = refl
or_none (Some x) = refl

pub or_associates : {X : Type 0} (x y z : Option X) → option_or (option_or x y) z ≡ option_or x (option_or y z)
or_associates None y z = refl
or_associates (Some x) y z = refl

-- a unit more behind the others
pub kept_more : (units : List UnitNames) (rows : List (List KeptRow)) (unit : UnitNames) (last : List KeptRow) (a : ℕ) → length units ≡ length rows
    → kept_place_of (units ++ unit ∷ []) (rows ++ last ∷ []) a ≡ option_or (kept_place_of units rows a) (option_map (kept_place unit) (row_at last a))
kept_more [] [] unit last a e = or_none (option_map (kept_place unit) (row_at last a))
kept_more [] (first ∷ rows) unit last a e = absurd (omega (arith, e))
kept_more (first ∷ units) [] unit last a e = absurd (omega (arith, e))
kept_more (first ∷ units) (rows ∷ others) unit last a e =
    ap (option_or (option_map (kept_place first) (row_at rows a))) (kept_more units others unit last a (omega (arith, e)))
    ∙ sym (or_associates (option_map (kept_place first) (row_at rows a)) (kept_place_of units others a) (option_map (kept_place unit) (row_at last a)))

-- a table was added: what it tells stands behind what was known
abbrev pub AddedTo : ℕ → Option TableView → (ℕ → Option PlaceView) → (ℕ → Option PlaceView) → Type 0
AddedTo unit table known now = (a : ℕ) (x : Option PlaceView) → option_or (now a) x ≡ option_or (known a) (option_or (place_in_unit unit table a) x)

-- what told nothing new still tells nothing new
grown : {X : Type 0} (known added later x : Option X) → ((y : Option X) → option_or known (option_or later y) ≡ option_or known y)
    → option_or known (option_or added (option_or later x)) ≡ option_or known (option_or added x)
grown (Some v) added later x h = refl
grown None added later x h = ap (option_or added) (h x)

pub nothing_later : (s : SectionsView) (unit : ℕ) (table : Option TableView) (known now : ℕ → Option PlaceView) (key : ProgramKey)
    → AddedTo unit table known now → TellsNothing s known key → TellsNothing s now key
nothing_later s unit table known now key added h other a x =
    added a (option_or (place_in_unit other (table_at s key) a) x)
    ∙ grown (known a) (place_in_unit unit table a) (place_in_unit other (table_at s key) a) x (λ y. h other a y)
    ∙ sym (added a x)

-- a table tells nothing new behind itself
twice : (found : Option Row) (f g : Row → PlaceView) (x : Option PlaceView) → option_or (option_map f found) (option_or (option_map g found) x) ≡ option_or (option_map f found) x
twice None f g x = refl
twice (Some row) f g x = refl

twice_in : (unit other : ℕ) (table : Option TableView) (a : ℕ) (x : Option PlaceView)
    → option_or (place_in_unit unit table a) (option_or (place_in_unit other table a) x) ≡ option_or (place_in_unit unit table a) x
twice_in unit other None a x = refl
twice_in unit other (Some table) a x =
    twice (covering table.1 a) (λ (row : Row). place_of_line unit table.0 row.file row.line) (λ (row : Row). place_of_line other table.0 row.file row.line) x

pub nothing_again : (s : SectionsView) (unit : ℕ) (known now : ℕ → Option PlaceView) (key : ProgramKey)
    → AddedTo unit (table_at s key) known now → TellsNothing s now key
nothing_again s unit known now key added other a x =
    added a (option_or (place_in_unit other (table_at s key) a) x)
    ∙ ap (option_or (known a)) (twice_in unit other (table_at s key) a x)
    ∙ sym (added a x)

-- The units before one, and those from it on.
abbrev pub TellsFrom : SectionsView → ℕ → (ℕ → Option PlaceView) → Type 0
TellsFrom s unit known = (a : ℕ) → option_or (known a) (place_from (unit_count s.info s.order - unit) s unit a) ≡ place_of s a

pub tells_next : (s : SectionsView) (unit : ℕ) (known now : ℕ → Option PlaceView) → unit < unit_count s.info s.order
    → AddedTo unit (unit_table s unit) known now → TellsFrom s unit known → TellsFrom s (unit + 1) now
tells_next s unit known now within added h a =
    let count : ℕ = unit_count s.info s.order in
    let more : suc (count - (unit + 1)) ≡ count - unit = omega (arith, within) in
    let next : suc unit ≡ unit + 1 = omega arith in
    added a (place_from (count - (unit + 1)) s (unit + 1) a)
    ∙ ap (λ n. option_or (known a) (option_or (place_in_unit unit (unit_table s unit) a) (place_from (count - (unit + 1)) s n a))) (sym next)
    ∙ ap (λ n. option_or (known a) (place_from n s unit a)) more
    ∙ h a

pub tells_all : (s : SectionsView) (unit : ℕ) (known : ℕ → Option PlaceView) → unit_count s.info s.order ≤ unit → TellsFrom s unit known → (a : ℕ) → known a ≡ place_of s a
tells_all s unit known done h a =
    let none : 0 ≡ unit_count s.info s.order - unit = omega (arith, done) in
    sym (or_none (known a)) ∙ ap (λ n. option_or (known a) (place_from n s unit a)) none ∙ h a

pub tells_none : (s : SectionsView) (known : ℕ → Option PlaceView) → ((a : ℕ) → known a ≡ None) → TellsFrom s 0 known
unfolding place_of
tells_none s known none a =
    let all : unit_count s.info s.order - 0 ≡ unit_count s.info s.order = omega arith in
    ap (λ x. option_or x (place_from (unit_count s.info s.order - 0) s 0 a)) (none a) ∙ ap (λ n. place_from n s 0 a) all
