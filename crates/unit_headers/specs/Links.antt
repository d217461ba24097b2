-- The units of `.debug_info` (DWARF 5 section 7.5.1.1): unit 0 begins at the section's start, each
-- other one where its predecessor ends, and the chain ends at the section's end or at the first link
-- that can't be followed.
use Rattle.std.specs.Prelude.{◌≡◌, ℕ, zero, suc, ◌+◌, ◌<◌, ◌≤◌, ◌==◌, nat_le, if◌then◌else◌, List, [], ◌∷◌, length, Result, Ok, Err}
use Rattle.dw_fields.specs.declared.byte_order.Order.{Order}
use Rattle.dw_fields.specs.declared.cursor.Length.{Length}
use Rattle.dw_fields.specs.declared.fault_code.Code.TheVariants.{UnitTruncated, UnitLimit}
use Rattle.dw_fields.specs.declared.fault_code.Fault.{Fault}
use Rattle.dw_fields.specs.Codes.{fault}
use Rattle.dw_fields.specs.Span.{Span}
use Rattle.dw_fields.specs.Reading.{length_at}
use Rattle.unit_headers.specs.declared.chain.TheConstants.{UNIT_LIMIT}
use Rattle.unit_headers.specs.declared.chain.Link.{Link}
use Rattle.unit_headers.specs.declared.chain.Link.TheVariants.{Whole, Broken}
use Rattle.unit_headers.specs.Kinds.{in_unit}

-- a section's bytes from a place on
abbrev pub section_from : List ℕ → Order → ℕ → Span
section_from info order place =
    record { bytes = info; place = place; end = length info; order = order }

-- the unit behind its length, if it ends within the section
abbrev pub whole_link : ℕ → ℕ → Length × ℕ → Link
whole_link size place read =
    if nat_le (read.1 + read.0.value) size
    then Whole place read.1 (read.1 + read.0.value) read.0.wide
    else Broken (fault UnitTruncated place)

abbrev pub link_of : ℕ → ℕ → Result (Length × ℕ) Fault → Link
link_of size place (Ok read) = whole_link size place read
link_of size place (Err f) = Broken f

-- The unit with this number that begins at this place. Its number is below the limit, its length
-- isn't reserved, and it is whole in the section; else the first of these that fails breaks the
-- chain at the unit's place.
unfoldable pub link_at : List ℕ → Order → ℕ → ℕ → Link
link_at info order number place =
    if number == UNIT_LIMIT then Broken (fault UnitLimit place)
    else link_of (length info) place (in_unit (length_at (section_from info order place)))

-- a link, and what stands behind it
abbrev pub followed : Link → (ℕ → List Link) → List Link
followed (Whole place body end wide) after = Whole place body end wide ∷ after end
followed (Broken f) after = Broken f ∷ []

-- at most so many links from the one with this number that begins at this place
unfoldable pub links_from : ℕ → List ℕ → Order → ℕ → ℕ → List Link
links_from zero info order number place = []
links_from (suc most) info order number place =
    if nat_le (length info) place then []
    else followed (link_at info order number place)
    (λ end. links_from most info order (number + 1) end)

-- all links of a section: each has at least one byte
unfoldable pub unit_chain : List ℕ → Order → List Link
unit_chain info order = links_from (length info) info order 0 0

-- a link that was followed lies in the section, has at least 4 bytes, and isn't the one past the limit
abbrev pub LeadsOn : ℕ → ℕ → ℕ → Link → Type 0
LeadsOn size number place (Whole start body end wide) =
    (start ≡ place) × (place + 4 ≤ body) × (body ≤ end) × (end ≤ size) × (number < UNIT_LIMIT)
LeadsOn size number place (Broken f) = Unit {0}

-- a link of the chain lies in the section
abbrev pub LiesIn : ℕ → Link → Type 0
LiesIn size (Whole place body end wide) = (body ≤ end) × (end ≤ size)
LiesIn size (Broken f) = Unit {0}

-- These links tile the section from the place on: each begins where its predecessor ends, and the last
-- ends at the section's end or is the one that can't be followed.
abbrev pub Tile : List ℕ → Order → ℕ → ℕ → List Link → Type 0
Tile info order number place [] = place ≡ length info
Tile info order number place (Whole start body end wide ∷ links) =
    (start ≡ place) × (link_at info order number place ≡ Whole start body end wide)
    × Tile info order (number + 1) end links
Tile info order number place (Broken f ∷ links) =
    (link_at info order number place ≡ Broken f) × (links ≡ [])
