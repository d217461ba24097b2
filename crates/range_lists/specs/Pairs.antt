-- The entries of the lists of version 4: DWARF 4, sections 2.6.2, 2.17.3, 7.7.3 and 7.23.
use Rattle.std.specs.Prelude.{ℕ, ◌+◌, ◌-◌, ◌*◌, ◌^◌, ◌==◌, ◌&&◌, nat_le, if◌then◌else◌, Result, Ok, Err}
use Rattle.dw_fields.specs.declared.fault_code.Fault.{Fault}
use Rattle.dw_fields.specs.declared.fault_code.Code.TheVariants.{ListUnended}
use Rattle.dw_fields.specs.Codes.{fault}
use Rattle.dw_fields.specs.Span.{at}
use Rattle.dw_fields.specs.Reading.{Reader, ◌>>=◌, wrapped_address}
use Rattle.range_lists.specs.declared.operands.Operands.{Operands}
use Rattle.range_lists.specs.declared.operands.Operands.TheVariants.{End, Base}
use Rattle.range_lists.specs.Context.{Context}
use Rattle.range_lists.specs.Operands.{address_operand_at, between}

-- the greatest address of so many bytes
abbrev pub greatest_address : ℕ → ℕ
greatest_address size = 2 ^ (8 * size) - 1

-- What a pair says: two zeros end the list, the greatest address selects the second one as the base,
-- and any other two are counted from the base.
unfoldable pub pair_of : ℕ → ℕ → ℕ → ℕ → Operands
pair_of size base first second =
    if (first == 0) && (second == 0) then End
    else (if first == greatest_address size then Base second
    else between (wrapped_address size (base + first)) (wrapped_address size (base + second)))

-- the first address of a pair; a list may not end with the section
unfoldable pub first_address_at : Context → Reader ℕ
first_address_at c s =
    if nat_le s.end s.place then Err (fault ListUnended s.place) else address_operand_at c s

-- a pair of addresses
unfoldable pub pair_at : Context → ℕ → Reader Operands
pair_at c base s = do
  first ← first_address_at c s
  second ← address_operand_at c (at s first.1)
  Ok (pair_of c.size base first.0 second.0, second.1)
