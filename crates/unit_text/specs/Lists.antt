-- The range lists and location lists of a unit's entries, as our text format has them.
use Rattle.std.specs.Prelude.{ℕ, ◌==◌, ◌&&◌, ◌||◌, Bool, true, false, List, [], ◌∷◌, ◌++◌, length, codes, Option, Some, None, Result, Ok, if◌then◌else◌}
use Rattle.dw_fields.specs.declared.fault_code.Fault.{Fault}
use Rattle.dw_fields.specs.Reading.{◌>>=◌}
use Rattle.dw_names.specs.Texts.{attribute_text}
use Rattle.dw_numbers.specs.declared.attribute.TheConstants.{LOCATION, STRING_LENGTH, RETURN_ADDR, DATA_MEMBER_LOCATION, FRAME_BASE}
use Rattle.dw_numbers.specs.declared.attribute.TheConstants.{SEGMENT, STATIC_LINK, USE_LOCATION, VTABLE_ELEM_LOCATION, RANGES}
use Rattle.dw_text.specs.Added.{labelled}
use Rattle.dw_text.specs.Bytes.{hex_bytes}
use Rattle.dw_text.specs.Numbers.{decimal, hex}
use Rattle.entry_tree.specs.Views.{AttrView, EntryView}
use Rattle.form_values.specs.View.{RawView, Offset, RangeIndex, LocationIndex}
use Rattle.form_values.specs.Resolved.{list_of, refused_at}
use Rattle.range_lists.specs.declared.bounds.Range.{Range}
use Rattle.range_lists.specs.Locations.{LocationView, locations_of}
use Rattle.range_lists.specs.Ranges.{ranges_of}
use Rattle.unit_text.specs.Pieces.{Text, joined, texts_of}
use Rattle.unit_text.specs.UnitView.{UnitView}

-- DW_AT_ranges gives a range list where its value is an offset or an index of a range list.
abbrev pub is_range_list : RawView → Bool
is_range_list (Offset n) = true
is_range_list (RangeIndex n) = true
is_range_list _ = false

abbrev pub is_location_list : RawView → Bool
is_location_list (Offset n) = true
is_location_list (LocationIndex n) = true
is_location_list _ = false

-- the attributes whose value may be a location list (DWARF 5 section 7.5.4)
unfoldable pub is_location_attribute : ℕ → Bool
is_location_attribute name =
    (name == LOCATION) || (name == STRING_LENGTH) || (name == RETURN_ADDR)
    || (name == DATA_MEMBER_LOCATION) || (name == FRAME_BASE) || (name == SEGMENT)
    || (name == STATIC_LINK) || (name == USE_LOCATION) || (name == VTABLE_ELEM_LOCATION)

-- the attributes that may have a list
unfoldable pub is_list_attribute : ℕ → Bool
is_list_attribute name = (name == RANGES) || is_location_attribute name

-- the place of the list that an attribute stands for, or the refusal, which counts at the attribute
unfoldable pub list_place : UnitView → AttrView → Result ℕ Fault
list_place u a = refused_at a.place (list_of a.raw u.header.wide u.sections u.facts.bases)

unfoldable pub range_text : Range → List ℕ
range_text r = labelled (codes " 0x") (hex r.low) ++ labelled (codes " 0x") (hex r.high)

unfoldable pub range_line : Range → Text
range_line r = Ok (range_text r ++ 10 ∷ [])

-- the addresses that a location holds for; no range is the default location
unfoldable pub bounds_text : Option Range → List ℕ
bounds_text None = codes " default"
bounds_text (Some r) = range_text r

-- how many bytes, and their digits where there are any
unfoldable pub expression_text : List ℕ → List ℕ
expression_text [] = codes " 0"
expression_text (b ∷ bytes) =
    labelled (codes " ") (decimal (length (b ∷ bytes)))
    ++ labelled (codes " ") (hex_bytes (b ∷ bytes))

unfoldable pub location_line : LocationView → Text
location_line l = Ok (bounds_text l.range ++ expression_text l.expression ++ 10 ∷ [])

unfoldable pub ranges_title : ℕ → List ℕ
ranges_title place = labelled (codes "ranges of 0x") (hex place) ++ 10 ∷ []

unfoldable pub locations_title : ℕ → ℕ → List ℕ
locations_title place name =
    labelled (codes "locations of 0x") (hex place) ++ labelled (codes " ") (attribute_text name)
    ++ 10 ∷ []

unfoldable pub range_list_text : ℕ → List Range → Text
range_list_text place ranges = joined (Ok (ranges_title place)) (texts_of range_line ranges)

unfoldable pub location_list_text : ℕ → ℕ → List LocationView → Text
location_list_text place name locations =
    joined (Ok (locations_title place name)) (texts_of location_line locations)

-- the range list of an attribute of the entry at `place`
unfoldable pub ranges_text : UnitView → ℕ → AttrView → Text
ranges_text u place a = do
  offset ← list_place u a
  ranges ← ranges_of u.sections u.header.version u.header.address_size u.facts offset
  range_list_text place ranges

-- the location list of an attribute of the entry at `place`
unfoldable pub locations_text : UnitView → ℕ → AttrView → Text
locations_text u place a = do
  offset ← list_place u a
  locations ← locations_of u.sections u.header.version u.header.address_size u.facts offset
  location_list_text place a.name locations

-- the list of an attribute, if it has one
unfoldable pub attr_lists : UnitView → ℕ → AttrView → Text
attr_lists u place a =
    if (a.name == RANGES) && is_range_list a.raw then ranges_text u place a else (
    if is_location_attribute a.name && is_location_list a.raw then locations_text u place a
    else Ok [])

-- the lists of an entry, in the order of its attributes
unfoldable pub entry_lists : UnitView → EntryView → Text
entry_lists u e = texts_of (attr_lists u e.place) e.attrs

-- The lists of a unit's entries in their order: the text, or the first refusal.
unfoldable pub lists_text : UnitView → List EntryView → Text
lists_text u entries = texts_of (entry_lists u) entries
