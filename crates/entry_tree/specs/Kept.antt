-- Entries with those of their attributes alone that a reader keeps.
use Rattle.std.specs.Prelude.{ℕ, ◌-◌, ◌==◌, Bool, List, [], ◌∷◌, map, Result, Ok, Err, if◌then◌else◌}
use Rattle.std.specs.List.{filter}
use Rattle.dw_fields.specs.declared.fault_code.Fault.{Fault}
use Rattle.dw_fields.specs.Span.{Span, at}
use Rattle.dw_fields.specs.Reading.{Reader, ◌>>=◌, uleb_at}
use Rattle.dw_fields.specs.Walk.{walk}
use Rattle.abbrev_decl.specs.Lookup.{first_declaration}
use Rattle.form_values.specs.declared.raw.Widths.{Widths}
use Rattle.entry_tree.specs.Views.{AttrView, EntryView}
use Rattle.entry_tree.specs.Entries.{attrs_at, behind_entry, found_at}

-- the attributes whose numbers are kept, in their order
abbrev pub kept_attrs : (ℕ → Bool) → List AttrView → List AttrView
kept_attrs keeps attrs = filter (λ (a : AttrView). keeps a.name) attrs

-- an entry with these attributes alone
abbrev pub kept_entry : (ℕ → Bool) → EntryView → EntryView
kept_entry keeps e = record e { attrs = kept_attrs keeps e.attrs }

-- Kept entries: all of them, each with these attributes alone; a refusal is the same.
abbrev pub kept_entries : (ℕ → Bool) → Result (List EntryView) Fault
    → Result (List EntryView) Fault
kept_entries keeps (Ok entries) = Ok (map (kept_entry keeps) entries)
kept_entries keeps (Err f) = Err f

-- attributes that were read, without those that are not kept
abbrev pub kept_read : (ℕ → Bool) → Result (List AttrView × ℕ) Fault
    → Result (List AttrView × ℕ) Fault
kept_read keeps (Ok read) = Ok (kept_attrs keeps read.0, read.1)
kept_read keeps (Err f) = Err f

-- the steps of `Entries`, of which the attributes that are kept are left

unfoldable pub kept_coded_at : (ℕ → Bool) → List ℕ → ℕ → Widths → ℕ → ℕ → ℕ
    → Reader (Bool × EntryView)
kept_coded_at keeps section table widths depth place code s = do
  declaration ← found_at place (first_declaration section table code)
  attrs ← kept_read keeps (attrs_at widths declaration.pairs s)
  Ok (
    (
      declaration.children,
      record
          { place = place; depth = depth; code = code; tag = declaration.tag; attrs = attrs.0 },
    ),
    attrs.1,
  )

unfoldable pub kept_entry_at : (ℕ → Bool) → List ℕ → ℕ → Widths → ℕ → Reader (ℕ × List EntryView)
kept_entry_at keeps section table widths depth s = do
  code ← uleb_at s
  (if code.0 == 0 then Ok ((depth - 1, []), code.1) else (do
    entry ← behind_entry depth
        (kept_coded_at keeps section table widths depth s.place code.0 (at s code.1))
    Ok ((entry.0.0, entry.0.1 ∷ []), entry.1)))

unfoldable pub kept_entries_in : (ℕ → Bool) → List ℕ → ℕ → Widths → Span
    → Result (List EntryView) Fault
kept_entries_in keeps section table widths s =
    walk (kept_entry_at keeps section table widths) (s.end - s.place) 0 s
