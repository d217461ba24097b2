-- Entries that were taken one after another as they were read.
use Rattle.std.specs.Prelude.{◌≡◌, ◌-◌, ◌<◌, ◌≤◌, ◌++◌, ◌∷◌, [], ℕ, Bool, List, Option, Result, Ok, Err, length}
use Rattle.dw_fields.specs.declared.fault_code.Fault.{Fault}
use Rattle.dw_fields.specs.Span.{Span, at}
use Rattle.dw_fields.specs.Reading.{IsAddressSize, Reader}
use Rattle.dw_fields.specs.Walk.{walk, ahead}
use Rattle.abbrev_decl.specs.Shapes.{DeclView}
use Rattle.unit_headers.specs.declared.header.UnitHeader.{UnitHeader}
use Rattle.unit_headers.specs.declared.refusal.UnitRefusal.{UnitRefusal}
use Rattle.unit_headers.specs.declared.refusal.UnitRefusal.TheVariants.{Refused, OutOfMemory}
use Rattle.unit_headers.specs.Refusals.{Refuses}
use Rattle.form_values.specs.View.{widths_of}
use Rattle.entry_tree.specs.declared.entry.EntryHead.{EntryHead}
use Rattle.entry_tree.specs.Views.{AttrView, EntryView}
use Rattle.entry_tree.specs.Kept.{kept_entry_at}
use Rattle.entry_tree.specs.Keys.{GainsOnly, IsKeyAmong, KeysNoted}
use Rattle.entry_tree.specs.Remembered.{Remembers}

-- an entry of which nothing but the head was read
abbrev pub begun : EntryHead → EntryView
begun h = record { place = h.place; depth = h.depth; code = h.code; tag = h.tag; attrs = [] }

-- the entry with these attributes more
abbrev pub with_attrs : EntryView → List AttrView → EntryView
with_attrs e more = record e { attrs = e.attrs ++ more }

abbrev pub with_attr : EntryView → AttrView → EntryView
with_attr e a = with_attrs e (a ∷ [])

-- All that a reader gives was taken, and the cut stands behind it.
pub record TookAt {X : Type 0} (read : Reader X) (old new : Span) (taken : X → Type 0) : Type 0 where
  pub found : X
  pub is : read old ≡ Ok (found, new.place)
  pub moved : new ≡ at old new.place
  pub took : taken found

-- the same, or the refusal of the reader; then nothing is said of what was taken
abbrev pub TakesAt : {U X : Type 0} → Result U UnitRefusal → Reader X → Span → Span → (U → X → Type 0) → Type 0
TakesAt (Ok u) read old new took = TookAt read old new (took u)
TakesAt (Err e) read old new took = Refuses e (read old)

-- All entries were taken, or the answer is their refusal.
abbrev pub Takes : {U X : Type 0} → Result U UnitRefusal → Result X Fault → (X → Type 0) → Type 0
Takes (Ok u) (Ok found) took = took found
Takes (Ok u) (Err f) took = ⊥
Takes (Err e) read took = Refuses e read

-- A cursor over the entries of a unit: its header, the part of the area that is left, how deep the next entry stands, and the
-- declarations that it remembers.
pub record CursorView : Type 0 where
  pub header : UnitHeader
  pub left : Span
  pub depth : ℕ
  pub slots : List (Option DeclView)

-- the entries that a cursor has before it, or the first refusal among them
unfoldable pub entries_left : (ℕ → Bool) → List ℕ → CursorView → Result (List EntryView) Fault
entries_left keeps section c =
    walk (kept_entry_at keeps section c.header.«abbrev» (widths_of c.header)) (c.left.end - c.left.place)
    c.depth c.left

-- A source of declarations with this section, these keys seen and this room serves a cursor: the unit's table begins in the section, and
-- what the cursor remembers is the source's.
pub record ServesCursor (section seen : List ℕ) (spent : Bool) (c : CursorView) : Type 0 where
  pub size : IsAddressSize c.header.address_size
  pub inside : c.header.«abbrev» ≤ length section
  pub remembers : Remembers section c.header.«abbrev» seen spent c.slots

-- Entries were taken, and their keys are noted: `taken` says so of the sink.
pub record TookEntries (taken : List EntryView → Type 0) (table : ℕ) (seen : List ℕ) (spent : Bool) (placed grown : List ℕ)
    (entries : List EntryView) : Type 0 where
  pub took : taken entries
  pub keys : GainsOnly (IsKeyAmong table entries) placed grown
  pub noted : KeysNoted seen spent table entries

-- A cursor went on: what it had before it is the entries that were taken and what it has before it now.
pub record WentOn (keeps : ℕ → Bool) (section : List ℕ) (old new : CursorView) (taken : List EntryView → Type 0) : Type 0 where
  pub entries : List EntryView
  pub is : entries_left keeps section old ≡ ahead entries (entries_left keeps section new)
  pub header : new.header ≡ old.header
  pub moved : new.left ≡ at old.left new.left.place
  pub took : taken entries

-- the same of a call that goes on, or the refusal of what is before the cursor
abbrev pub CursorTakes : Result (Unit {0}) UnitRefusal → (ℕ → Bool) → List ℕ → CursorView → CursorView
    → (List EntryView → Type 0) → Type 0
CursorTakes (Ok u) keeps section old new took = WentOn keeps section old new took
CursorTakes (Err e) keeps section old new took = Refuses e (entries_left keeps section old)
