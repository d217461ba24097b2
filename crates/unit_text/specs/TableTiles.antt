-- The abbreviation tables of a section in the words of the format (DWARF 5 section 7.5.3): they tile the section.
use Rattle.std.specs.Prelude.{◌≡◌, ℕ, ◌<◌, List, [], ◌∷◌, ◌++◌, length, Option, Some, None, Ok, Err}
use Rattle.std.specs.List.{flat_map}
use Rattle.dw_fields.specs.declared.fault_code.Fault.{Fault}
use Rattle.abbrev_decl.specs.Shapes.{DeclView}
use Rattle.abbrev_decl.specs.Declarations.{declaration_at}
use Rattle.unit_text.specs.Declarations.{declaration_text}
use Rattle.unit_text.specs.Tables.{table_line, zero_end}

-- a table: where it begins, its declarations in their order, and the place behind the last of them
pub record AbbrevTable : Type 0 where
  pub place : ℕ
  pub declarations : List DeclView
  pub last : ℕ

-- From a place on these declarations stand, one behind another: each begins where its predecessor ends, up to a last place.
abbrev pub DeclarationsStand : List ℕ → ℕ → List DeclView → ℕ → Type 0
DeclarationsStand section place [] last = place ≡ last
DeclarationsStand section place (declaration ∷ others) last =
    (next : ℕ) × (declaration_at section place ≡ Ok (Some (declaration, next)))
    × DeclarationsStand section next others last

-- a table begins at a place, and its declarations stand from there on
pub record BeginsAt (section : List ℕ) (place : ℕ) (table : AbbrevTable) : Type 0 where
  pub begins : table.place ≡ place
  pub stand : DeclarationsStand section place table.declarations table.last

-- From a place on these tables stand, one behind another: each is its declarations and the code 0 that ends them, and the
-- next one begins behind that code.
abbrev pub TablesStand : List ℕ → ℕ → List AbbrevTable → ℕ → Type 0
TablesStand section place [] end = place ≡ end
TablesStand section place (table ∷ others) end =
    BeginsAt section place table × (declaration_at section table.last ≡ Ok None)
    × TablesStand section (zero_end section table.last) others end

-- What stands behind the tables that a code 0 ends: nothing, at the section's end; or one more table, behind whose last
-- declaration neither a declaration nor a code 0 stands, but this fault.
abbrev pub TablesEnd : List ℕ → ℕ → List AbbrevTable → Option Fault → Type 0
TablesEnd section end unended None = (end ≡ length section) × (unended ≡ [])
TablesEnd section end unended (Some fault) =
    (end < length section) × (table : AbbrevTable) × (unended ≡ table ∷ [])
    × BeginsAt section end table × (declaration_at section table.last ≡ Err fault)

-- the line of a table and the lines of its declarations
abbrev pub text_of_table : AbbrevTable → List ℕ
text_of_table table = table_line table.place ++ flat_map declaration_text table.declarations

-- From a place on, tables tile the section up to its end or up to a fault, and the text is theirs in their order.
pub record TablesTile (section : List ℕ) (place : ℕ) (text : List ℕ)
    (stop : Option Fault) : Type 0 where
  pub tables : List AbbrevTable
  pub end : ℕ
  pub unended : List AbbrevTable
  pub stand : TablesStand section place tables end
  pub ends : TablesEnd section end unended stop
  pub texts : text ≡ flat_map text_of_table (tables ++ unended)
