-- A unit whose text is made as its entries are read. A value that can't be resolved is remembered: what is refused in reading a later
-- entry goes before it.
use Rattle.std.specs.Prelude.{◌≡◌, ℕ, ◌+◌, ◌<◌, ◌^◌, List, Option, Some, None, Result, Ok, Err, length}
use Rattle.dw_fields.specs.declared.fault_code.Fault.{Fault}
use Rattle.dw_fields.specs.Reading.{◌>>=◌}
use Rattle.entry_tree.specs.Units.{entries_of}
use Rattle.entry_tree.specs.Views.{EntryView}
use Rattle.unit_text.specs.Lists.{entry_lists, lists_text}
use Rattle.unit_text.specs.Pieces.{Text, joined, texts_of}
use Rattle.unit_text.specs.UnitView.{UnitView}
use Rattle.unit_text.specs.Units.{read_unit_text}

-- The text of a unit: refused at an entry that can't be read, wherever it stands, or else at a value that can't be
-- resolved.
unfoldable pub streamed_unit : UnitView → Text
streamed_unit u = entries_of u.sections u.header >>= read_unit_text u

-- its lists: refused at an entry, or else in a list
unfoldable pub streamed_lists : UnitView → Text
streamed_lists u = entries_of u.sections u.header >>= lists_text u

-- how many entries were read
abbrev pub count_of_entries : Result (List EntryView) Fault → ℕ
count_of_entries (Ok entries) = length entries
count_of_entries (Err f) = 0

-- what stands of a text that is made piece by piece: the pieces so far, or the first refusal of one
abbrev pub made_text : List ℕ → Option Fault → Text
made_text pieces None = Ok pieces
made_text pieces (Some f) = Err f

-- What a sink made of the entries that it took: the unit, the text, and how many entries there were.
pub record Made : Type 0 where
  pub unit : UnitView
  pub text : Text
  pub entries : ℕ

-- One more piece was made.
pub record AddedPiece (old new : Made) (piece : Text) : Type 0 where
  pub unit : new.unit ≡ old.unit
  pub text : new.text ≡ joined old.text piece
  pub entries : new.entries ≡ old.entries

-- The texts of these entries were made. Their number is told as long as it has 32 bits.
pub record AddedTexts (text_of : UnitView → EntryView → Text) (old new : Made) (es : List EntryView) : Type 0 where
  pub unit : new.unit ≡ old.unit
  pub text : new.text ≡ joined old.text (texts_of (text_of old.unit) es)
  pub entries : old.entries + length es < 2 ^ 32 → new.entries ≡ old.entries + length es

-- what a sink made of the lists of entries, and the place of the entry that was begun last
pub record MadeLists : Type 0 where
  pub made : Made
  pub place : ℕ

-- The lists of an entry were made, whose other attributes are still to come.
pub record BeganLists (old new : MadeLists) (e : EntryView) : Type 0 where
  pub lists : AddedPiece old.made new.made (entry_lists old.made.unit e)
  pub place : new.place ≡ e.place
