-- A part of a section's bytes with a place in it, as a `Cut` is seen.
use Rattle.std.specs.Prelude.{ℕ, List, ◌-◌, take, drop}
use Rattle.dw_fields.specs.declared.byte_order.Order.{Order}

-- the section's bytes, the place of the next field, the end that no field passes, and the order of
-- numbers
pub record Span : Type 0 where
  pub bytes : List ℕ
  pub place : ℕ
  pub end : ℕ
  pub order : Order

-- the same part at another place
abbrev pub at : Span → ℕ → Span
at s place = record s { place = place }

-- the same part with another end
abbrev pub until : Span → ℕ → Span
until s end = record s { end = end }

-- the bytes from the place to the end
abbrev pub rest_of : Span → List ℕ
rest_of s = take (s.end - s.place) (drop s.place s.bytes)
