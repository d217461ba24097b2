-- What an index of units is made of.
use Rattle.std.specs.Prelude.{ℕ, List}
use Rattle.dw_fields.specs.declared.byte_order.Order.{Order}

-- the bytes of `.debug_info`, the order of their numbers, and the length of `.debug_abbrev`
pub record Units : Type 0 where
  pub info : List ℕ
  pub order : Order
  pub abbrev_length : ℕ
