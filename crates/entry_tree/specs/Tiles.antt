-- The entries of a unit in the words of the format: they tile its area.
use Rattle.std.specs.Prelude.{◌≡◌, ℕ, ◌<◌, ◌≤◌, ◌++◌, List, [], ◌∷◌, Result, Ok, Err}
use Rattle.dw_fields.specs.declared.fault_code.Fault.{Fault}
use Rattle.dw_fields.specs.Span.{Span, at}
use Rattle.form_values.specs.declared.raw.Widths.{Widths}
use Rattle.entry_tree.specs.Views.{EntryView}
use Rattle.entry_tree.specs.Entries.{entry_at}

-- what one code gave: the place and the depth behind it, and the entry, if the code isn't 0
pub record Piece : Type 0 where
  pub next : ℕ
  pub depth : ℕ
  pub entries : List EntryView

-- From a place and a depth on, pieces stand one behind the other up to a place and a depth: each
-- begins where its predecessor ends and takes at least one byte. Their entries in a row are the list.
abbrev pub PiecesStand : List ℕ → ℕ → Widths → Span → ℕ → ℕ → List Piece → ℕ → ℕ → List EntryView
    → Type 0
PiecesStand section table widths s depth place [] last_depth last entries =
    (depth ≡ last_depth) × (place ≡ last) × (entries ≡ [])
PiecesStand section table widths s depth place (piece ∷ pieces) last_depth last entries =
    (place < piece.next)
    × (entry_at section table widths depth (at s place)
    ≡ Ok ((piece.depth, piece.entries), piece.next))
    × (others : List EntryView) × (entries ≡ piece.entries ++ others)
    × PiecesStand section table widths s piece.depth piece.next pieces last_depth last others

-- what ends the pieces: the area's end, or a refusal at a place before it
abbrev pub PiecesEnd : List ℕ → ℕ → Widths → Span → ℕ → ℕ → List EntryView
    → Result (List EntryView) Fault → Type 0
PiecesEnd section table widths s depth last entries (Ok all) = (s.end ≤ last) × (all ≡ entries)
PiecesEnd section table widths s depth last entries (Err f) =
    (last < s.end) × (entry_at section table widths depth (at s last) ≡ Err f)

-- From a place and a depth on, the answer is the entries of the pieces that tile the area up to its end,
-- at whatever depth that is; or the refusal met where the pieces before it end.
pub record AreEntriesFrom (section : List ℕ) (table : ℕ) (widths : Widths) (s : Span)
    (depth place : ℕ)
    (answer : Result (List EntryView) Fault) : Type 0 where
  pub pieces : List Piece
  pub last_depth : ℕ
  pub last : ℕ
  pub entries : List EntryView
  pub stand : PiecesStand section table widths s depth place pieces last_depth last entries
  pub end : PiecesEnd section table widths s last_depth last entries answer

-- The whole area: from its start, at depth 0.
abbrev pub TileArea : List ℕ → ℕ → Widths → Span → Result (List EntryView) Fault → Type 0
TileArea section table widths s answer = AreEntriesFrom section table widths s 0 s.place answer
