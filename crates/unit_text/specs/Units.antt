-- The text of a unit that was read, as our text format has it: the unit's line, and for each entry a line and a line for
-- each attribute. It is refused where a value can't be resolved: the first in the order of entries and attributes.
use Rattle.std.specs.Prelude.{ℕ, List, [], ◌∷◌, ◌++◌, Ok, codes}
use Rattle.dw_text.specs.Added.{labelled}
use Rattle.dw_text.specs.Numbers.{decimal, hex}
use Rattle.dw_names.specs.Texts.{tag_text, attribute_text}
use Rattle.entry_tree.specs.Views.{AttrView, EntryView}
use Rattle.unit_text.specs.Pieces.{Text, joined, texts_of}
use Rattle.unit_text.specs.UnitView.{UnitView}
use Rattle.unit_text.specs.UnitLine.{unit_line}
use Rattle.unit_text.specs.Values.{value_text}

-- the entry's place, depth and tag
unfoldable pub entry_line : EntryView → List ℕ
entry_line entry =
    labelled (codes "[0x") (hex entry.place) ++ labelled (codes "] ") (decimal entry.depth)
    ++ labelled (codes " ") (tag_text entry.tag) ++ (10 ∷ [])

-- an attribute's name, and behind it the text of its value
unfoldable pub value_line : ℕ → Text → Text
value_line name value =
    joined (Ok (labelled (codes "  ") (attribute_text name)))
    (joined value (Ok (10 ∷ [])))

module _ (u : UnitView) where
  -- the attribute's name and its value
  unfoldable pub attr_text : AttrView → Text
  attr_text attr = value_line attr.name (value_text u attr.place attr.raw)

  unfoldable pub attrs_text : List AttrView → Text
  attrs_text attrs = texts_of attr_text attrs

  unfoldable pub entry_text : EntryView → Text
  entry_text entry = joined (Ok (entry_line entry)) (attrs_text entry.attrs)

  unfoldable pub entries_text : List EntryView → Text
  entries_text entries = texts_of entry_text entries

  unfoldable pub read_unit_text : List EntryView → Text
  read_unit_text entries = joined (Ok (unit_line u.header)) (entries_text entries)
