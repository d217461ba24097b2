-- A list, entry after entry up to its end.
use Rattle.std.specs.Prelude.{ℕ, zero, suc, ◌-◌, min, List, [], ◌++◌, length, Option, Some, None, option_map, option_to_list, Result, Ok, Err}
use Rattle.dw_fields.specs.declared.byte_order.Order.{Order}
use Rattle.dw_fields.specs.declared.fault_code.Fault.{Fault}
use Rattle.dw_fields.specs.declared.fault_code.Code.TheVariants.{NoSection, ListUnended}
use Rattle.dw_fields.specs.Codes.{fault}
use Rattle.range_lists.specs.declared.list_step.ListStep.{ListStep}
use Rattle.dw_fields.specs.Span.{Span, at}
use Rattle.dw_fields.specs.Reading.{Reader, ◌>>=◌}

-- what an entry leaves, without where the bytes of what it lists lie
abbrev pub step_view : {X Y : Type 0} → (X → Y) → ListStep X → ListStep Y
step_view seen turn = record { base = turn.base; listed = option_map seen turn.listed }

-- behind an entry: the end of the list, or what the entry lists and the rest
abbrev pub goes_on : {X : Type 0} → Option (ListStep X) → (ListStep X → Result (List X) Fault)
    → Result (List X) Fault
goes_on None rest = Ok []
goes_on (Some turn) rest = do
  others ← rest turn
  Ok (option_to_list turn.listed ++ others)

-- The list from a place on, with the base of its offsets, in so many entries at most. Each entry has
-- a byte at least, so that a list that takes more entries than there are bytes doesn't end.
unfoldable pub list_from : {X : Type 0} → (ℕ → Reader (Option (ListStep X))) → ℕ → ℕ → Span
    → Result (List X) Fault
list_from entry zero base s = Err (fault ListUnended s.end)
list_from entry (suc most) base s = do
  turn ← entry base s
  goes_on turn.0 (λ t. list_from entry most t.base (at s turn.1))

-- the section from an offset on; an offset past its end counts as the end
unfoldable pub span_from : List ℕ → Order → ℕ → Span
span_from section order offset =
    record {
      bytes = section;
      place = min offset (length section);
      end = length section;
      order = order;
    }

-- the list at an offset of a section
abbrev pub list_at : {X : Type 0} → (ℕ → Reader (Option (ListStep X))) → ℕ → Span
    → Result (List X) Fault
list_at entry base s = list_from entry (s.end - s.place) base s

-- the section of the lists; without it the list is refused at 0
abbrev pub needed_section : Option (List ℕ) → Result (List ℕ) Fault
needed_section None = Err (fault NoSection 0)
needed_section (Some section) = Ok section
