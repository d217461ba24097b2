-- Abbreviation declarations: DWARF 5, section 7.5.3.
use Rattle.std.specs.Prelude.{ℕ, ◌+◌, ◌≡◌, ◌<◌, ◌≤◌, ◌==◌, List, Result, Ok, Err, Option, Some, None, length, if◌then◌else◌, nat_lt}
use Rattle.dw_fields.specs.declared.fault_code.Fault.{Fault}
use Rattle.dw_fields.specs.declared.fault_code.Code.TheVariants.{ChildrenByte}
use Rattle.dw_fields.specs.Codes.{fault}
use Rattle.dw_fields.specs.Reading.{refuse, ◌>>=◌, ◌>>◌, number_at, uleb_at}
use Rattle.abbrev_decl.specs.declared.pairs.AttrSpec.{AttrSpec}
use Rattle.abbrev_decl.specs.declared.declarations.Head.{Head}
use Rattle.abbrev_decl.specs.Pairs.{from, in_table, pairs_at}
use Rattle.abbrev_decl.specs.Shapes.{DeclView}

-- The front of a declaration, up to its pairs: a code in ULEB128, a tag in ULEB128, and a byte that
-- says whether entries with this code have children. None is the code 0, which ends a table.
unfoldable pub head_at : List ℕ → ℕ → Result (Option Head) Fault
head_at section place = do
  code ← in_table (uleb_at (from section place))
  (if code.0 == 0 then Ok None else (do
    tag ← in_table (uleb_at (from section code.1))
    children ← in_table (number_at 1 (from section tag.1))
    refuse (nat_lt 1 children.0) (fault ChildrenByte tag.1)
    Ok (Some (record {
      code = code.0;
      tag = tag.0;
      children = children.0 == 1;
      pairs = children.1;
    }))))

-- A declaration that begins at a place, of its front and its pairs.
abbrev pub at_head : ℕ → Head → List AttrSpec → DeclView
at_head place head pairs = record {
  code = head.code;
  tag = head.tag;
  children = head.children;
  place = place;
  pairs = pairs;
}

-- The same with the place behind the pairs.
abbrev pub with_pairs : ℕ → Head → Result (List AttrSpec × ℕ) Fault
    → Result (Option (DeclView × ℕ)) Fault
with_pairs place head (Err f) = Err f
with_pairs place head (Ok pairs) = Ok (Some (at_head place head pairs.0, pairs.1))

abbrev pub declared : List ℕ → ℕ → Result (Option Head) Fault
    → Result (Option (DeclView × ℕ)) Fault
declared section place (Err f) = Err f
declared section place (Ok None) = Ok None
declared section place (Ok (Some head)) = with_pairs place head (pairs_at section head.pairs)

-- The declaration at a place and the place behind it; none where a code 0 stands there; or the first
-- fault in the order of the fields.
unfoldable pub declaration_at : List ℕ → ℕ → Result (Option (DeclView × ℕ)) Fault
declaration_at section place = declared section place (head_at section place)

-- A declaration that was read ends inside its section, and has at least 5 bytes.
abbrev pub EndsInside : ℕ → ℕ → Result (Option (DeclView × ℕ)) Fault → Type 0
EndsInside place end (Ok (Some (declaration, next))) = (place + 5 ≤ next) × (next ≤ end)
EndsInside place end (Ok None) = Unit {0}
EndsInside place end (Err f) = Unit {0}

-- A declaration stands at a place.
abbrev pub Stands : Result (Option (DeclView × ℕ)) Fault → Type 0
Stands (Ok (Some found)) = Unit {0}
Stands (Ok None) = ⊥
Stands (Err f) = ⊥

-- It is this one.
abbrev pub StandsAs : DeclView → Result (Option (DeclView × ℕ)) Fault → Type 0
StandsAs declaration (Ok (Some found)) = declaration ≡ found.0
StandsAs declaration (Ok None) = ⊥
StandsAs declaration (Err f) = ⊥

-- A front that was read ends inside its section, and has at least 3 bytes.
abbrev pub HeadInside : ℕ → ℕ → Result (Option Head) Fault → Type 0
HeadInside place end (Ok (Some head)) = (place + 3 ≤ head.pairs) × (head.pairs ≤ end)
HeadInside place end (Ok None) = Unit {0}
HeadInside place end (Err f) = Unit {0}

-- A declaration stands where it says, inside its section.
pub record StandsInside (section : List ℕ) (declaration : DeclView) : Type 0 where
  pub inside : declaration.place < length section
  pub next : ℕ
  pub stands : declaration_at section declaration.place ≡ Ok (Some (declaration, next))
