-- Entries of a unit (DWARF 5 sections 2.3 and 7.5.2 to 7.5.4).
use Rattle.std.specs.Prelude.{ℕ, ◌+◌, ◌-◌, ◌==◌, nat_le, Bool, zero, suc, List, [], ◌∷◌, Option, Some, None, Result, Ok, Err, if◌then◌else◌}
use Rattle.dw_fields.specs.declared.fault_code.Code.TheVariants.{CodeMissing}
use Rattle.dw_fields.specs.declared.fault_code.Fault.{Fault}
use Rattle.dw_fields.specs.Codes.{fault}
use Rattle.dw_fields.specs.Span.{Span, at}
use Rattle.dw_fields.specs.Reading.{Reader, ◌>>=◌, uleb_at}
use Rattle.dw_fields.specs.Walk.{walk}
use Rattle.abbrev_decl.specs.declared.pairs.AttrSpec.{AttrSpec}
use Rattle.abbrev_decl.specs.declared.lookup.FindFault.{FindFault}
use Rattle.abbrev_decl.specs.declared.lookup.FindFault.TheVariants as faults
use Rattle.abbrev_decl.specs.Shapes.{DeclView}
use Rattle.abbrev_decl.specs.Lookup.{first_declaration}
use Rattle.form_values.specs.declared.raw.Widths.{Widths}
use Rattle.form_values.specs.FormTable.{value_at}
use Rattle.entry_tree.specs.declared.first.RootCode.{RootCode}
use Rattle.entry_tree.specs.Views.{AttrView, EntryView}

-- the attribute of a pair
unfoldable pub attr_at : Widths → AttrSpec → Reader AttrView
attr_at widths pair s = do
  value ← value_at pair.form widths pair.implicit s
  Ok (record { name = pair.name; form = pair.form; place = s.place; raw = value.0 }, value.1)

-- the attributes of the pairs, one behind the other
unfoldable pub attrs_at : Widths → List AttrSpec → Reader (List AttrView)
attrs_at widths [] s = Ok ([], s.place)
attrs_at widths (pair ∷ pairs) s = do
  first ← attr_at widths pair s
  others ← attrs_at widths pairs (at s first.1)
  Ok (first.0 ∷ others.0, others.1)

-- a declaration that isn't found: where the code is missing, the entry is refused
abbrev pub found_at : ℕ → Result DeclView FindFault → Result DeclView Fault
found_at place (Ok declaration) = Ok declaration
found_at place (Err faults.CodeMissing) = Err (fault CodeMissing place)
found_at place (Err (faults.Broken f)) = Err f

-- The entry at `place` whose code isn't 0 and ends where the span begins; and whether it has children.
-- Its declaration is the first of the code in the table.
unfoldable pub coded_at : List ℕ → ℕ → Widths → ℕ → ℕ → ℕ → Reader (Bool × EntryView)
coded_at section table widths depth place code s = do
  declaration ← found_at place (first_declaration section table code)
  attrs ← attrs_at widths declaration.pairs s
  Ok (
    (
      declaration.children,
      record
          { place = place; depth = depth; code = code; tag = declaration.tag; attrs = attrs.0 },
    ),
    attrs.1,
  )

-- behind an entry with children the depth is one more
abbrev pub depth_behind : Bool → ℕ → ℕ
depth_behind children depth = if children then depth + 1 else depth

-- an entry, with the depth behind it in place of whether it has children
abbrev pub behind_entry : ℕ → Result ((Bool × EntryView) × ℕ) Fault
    → Result ((ℕ × EntryView) × ℕ) Fault
behind_entry depth (Ok read) = Ok ((depth_behind read.0.0 depth, read.0.1), read.1)
behind_entry depth (Err f) = Err f

-- What stands at a depth: a code 0 makes the depth one less, and is passed over at depth 0; any other
-- code begins an entry. The answer is the depth behind it, and the entry.
unfoldable pub entry_at : List ℕ → ℕ → Widths → ℕ → Reader (ℕ × List EntryView)
entry_at section table widths depth s = do
  code ← uleb_at s
  (if code.0 == 0 then Ok ((depth - 1, []), code.1) else (do
    entry ← behind_entry depth (coded_at section table widths depth s.place code.0 (at s code.1))
    Ok ((entry.0.0, entry.0.1 ∷ []), entry.1)))

-- the entries from depth 0 up to the span's end, at whatever depth that is
unfoldable pub entries_in : List ℕ → ℕ → Widths → Span → Result (List EntryView) Fault
entries_in section table widths s = walk (entry_at section table widths) (s.end - s.place) 0 s

-- the first code that isn't 0, with its place and the place behind it
abbrev pub first_code_from : ℕ → Span → Result (Option RootCode) Fault
first_code_from zero s = Ok None
first_code_from (suc most) s =
    if nat_le s.end s.place then Ok None else (do
      code ← uleb_at s
      (if code.0 == 0 then first_code_from most (at s code.1)
          else Ok (Some (record { place = s.place; code = code.0; next = code.1 }))))

unfoldable pub first_code_in : Span → Result (Option RootCode) Fault
first_code_in s = first_code_from (s.end - s.place) s

-- the entry of the first code, with the place behind it
abbrev pub root_coded : List ℕ → ℕ → Widths → Span → Option RootCode
    → Result (Option (EntryView × ℕ)) Fault
root_coded section table widths s None = Ok None
root_coded section table widths s (Some first) = do
  entry ← coded_at section table widths 0 first.place first.code (at s first.next)
  Ok (Some (entry.0.1, entry.1))

-- the root: the first entry, with the place behind it; zeros before it are passed over
unfoldable pub root_in : List ℕ → ℕ → Widths → Span → Result (Option (EntryView × ℕ)) Fault
root_in section table widths s = do
  first ← first_code_in s
  root_coded section table widths s first
