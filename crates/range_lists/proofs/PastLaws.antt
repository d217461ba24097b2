-- Each entry moves on by a byte at least and stays within the section, and none begins at its end.
use Rattle.std.specs.Prelude.{◌≡◌, ℕ, ◌+◌, ◌≤◌, nat_le, Bool, true, false, cond, List, Option, Result, Ok, Err, refl}
use Rattle.std.proofs.Common.{ap, arith, inl, inr, le-leb}
use Rattle.std.proofs.lemmas.Bool.{lt-leb}
use Rattle.dw_fields.specs.declared.fault_code.Fault.{Fault}
use Rattle.dw_fields.specs.declared.fault_code.Code.{Code}
use Rattle.dw_fields.specs.declared.fault_code.Code.TheVariants.{Truncated, ListUnended, ListTruncated}
use Rattle.dw_fields.specs.Codes.{fault}
use Rattle.dw_fields.specs.Span.{Span, at}
use Rattle.dw_fields.specs.Reading.{IsAddressSize, ◌>>=◌, bytes_at, number_at, uleb_at, renamed}
use Rattle.dw_fields.specs.ReaderLaws.{IsPast, IsPast-less, bytes_at-past, number_at-past, uleb_at-past}
use Rattle.form_values.specs.View.{AddressIndex}
use Rattle.form_values.specs.Resolved.{address_of}
use Rattle.range_lists.specs.declared.kinds.Kind.{Kind}
use Rattle.range_lists.specs.declared.kinds.Kind.TheVariants as kinds
use Rattle.range_lists.specs.declared.operands.Operands.{Operands}
use Rattle.range_lists.specs.declared.operands.Operands.TheVariants.{End, Base, Bounds}
use Rattle.range_lists.specs.Kinds.{range_kind, location_kind, known_kind, kind_number_at, list_kind_at}
use Rattle.form_values.specs.Resolved.{refused_at}
use Rattle.range_lists.specs.Context.{Context, has_pairs}
use Rattle.range_lists.specs.Pairs.{first_address_at, pair_at}
use Rattle.range_lists.specs.Entry.{entry_operands_at, kind_and_operands_at}
use Rattle.range_lists.specs.Operands.{based, in_list, number_operand_at, address_operand_at, index_at, startx_endx_at, startx_length_at, offset_pair_at, start_end_at, start_length_at, operands_at}
use Rattle.range_lists.specs.Ranges.{range_entry_at}
use Rattle.range_lists.specs.Locations.{count_at, expression_at, located, location_entry_at}
use Rattle.range_lists.specs.ListSteps.{list_at, span_from}
use Rattle.range_lists.specs.Entries.{IsList}
use Rattle.range_lists.proofs.EntriesLaws.{IsEntry, list_at-IsList}
use Rattle.dw_fields.specs.declared.byte_order.Order.{Order}

-- a reader after another: the second begins where the first ended
pub past_next : {X Y : Type 0} (least : ℕ) (s : Span) (read : Result (X × ℕ) Fault) (f : X × ℕ → Result (Y × ℕ) Fault) → IsPast least s read
    → ((r : X × ℕ) → s.place + least ≤ r.1 → r.1 ≤ s.end → IsPast 0 (at s r.1) (f r))
    → IsPast least s (read >>= f)
past_next least s (Err e) f here after = tt
past_next least s (Ok r) f here after = further s least r (f r) here.0 (after r here.0 here.1)
  where
    further : {X Y : Type 0} (s : Span) (least : ℕ) (r : X × ℕ) (read : Result (Y × ℕ) Fault) → s.place + least ≤ r.1 → IsPast 0 (at s r.1) read → IsPast least s read
    further s least r (Err e) low past = tt
    further s least r (Ok q) low past = (omega (arith, low, past.0), past.1)

-- a value that is made of what was read
pub past_kept : {X : Type 0} (s : Span) (read : Result X Fault) (place : ℕ) → s.place ≤ place → place ≤ s.end → IsPast 0 s (read >>= (λ x. Ok (x, place)))
past_kept s (Err e) place low high = tt
past_kept s (Ok x) place low high = (omega (arith, low), high)

less_past : {X : Type 0} (least : ℕ) (s : Span) (read : Result (X × ℕ) Fault) → IsPast least s read → IsPast 0 s read
less_past least s (Err e) past = tt
less_past least s (Ok r) past = (omega (arith, past.0), past.1)

renamed_past : {X : Type 0} (least : ℕ) (from to : Code) (s : Span) (read : Result (X × ℕ) Fault) → IsPast least s read → IsPast least s (renamed from to read)
renamed_past least from to s (Err e) past = tt
renamed_past least from to s (Ok r) past = past

number_past : (s : Span) → IsPast 0 s (number_operand_at s)
unfolding number_operand_at
number_past s = renamed_past 0 Truncated ListTruncated s (uleb_at s) (less_past 1 s (uleb_at s) (uleb_at-past s))

address_past : (c : Context) (s : Span) → IsPast 0 s (address_operand_at c s)
unfolding address_operand_at
address_past c s = renamed_past 0 Truncated ListTruncated s (number_at c.size s) (less_past c.size s (number_at c.size s) (number_at-past c.size s))

index_past : (c : Context) (place : ℕ) (s : Span) → IsPast 0 s (index_at c place s)
unfolding index_at
index_past c place s = past_next 0 s (number_operand_at s) _ (number_past s) (λ r low high. past_kept (at s r.1) (refused_at place (address_of (AddressIndex r.0) c.size c.sections c.bases)) r.1 (omega arith) high)

-- two operands, of which bounds are made
two_past : {X Y Z : Type 0} (s : Span) (first : Result (X × ℕ) Fault) (second : X × ℕ → Result (Y × ℕ) Fault) (made : X × ℕ → Y × ℕ → Z)
    → IsPast 0 s first → ((r : X × ℕ) → IsPast 0 (at s r.1) (second r))
    → IsPast 0 s (first >>= (λ r. second r >>= (λ q. Ok (made r q, q.1))))
two_past s first second made one two = past_next 0 s first _ one (λ r low high. past_next 0 (at s r.1) (second r) _ (two r) (λ q _ within. (omega arith, within)))

based_past : (s : Span) (read : Result (ℕ × ℕ) Fault) → IsPast 0 s read → IsPast 0 s (based read)
based_past s (Err e) past = tt
based_past s (Ok r) past = past

operands_past : (c : Context) (base : ℕ) (kind : Kind) (place : ℕ) (s : Span) → s.place ≤ s.end → IsPast 0 s (operands_at c base kind place s)
unfolding operands_at startx_endx_at startx_length_at offset_pair_at start_end_at start_length_at
operands_past c base kinds.EndOfList place s inside = (omega arith, inside)
operands_past c base kinds.BaseAddressx place s inside = based_past s (index_at c place s) (index_past c place s)
operands_past c base kinds.StartxEndx place s inside = two_past s (index_at c place s) (λ low. index_at c place (at s low.1)) _ (index_past c place s) (λ low. index_past c place (at s low.1))
operands_past c base kinds.StartxLength place s inside = two_past s (index_at c place s) (λ low. number_operand_at (at s low.1)) _ (index_past c place s) (λ low. number_past (at s low.1))
operands_past c base kinds.OffsetPair place s inside = two_past s (number_operand_at s) (λ low. number_operand_at (at s low.1)) _ (number_past s) (λ low. number_past (at s low.1))
operands_past c base kinds.DefaultLocation place s inside = (omega arith, inside)
operands_past c base kinds.BaseAddress place s inside = based_past s (address_operand_at c s) (address_past c s)
operands_past c base kinds.StartEnd place s inside = two_past s (address_operand_at c s) (λ low. address_operand_at c (at s low.1)) _ (address_past c s) (λ low. address_past c (at s low.1))
operands_past c base kinds.StartLength place s inside = two_past s (address_operand_at c s) (λ low. number_operand_at (at s low.1)) _ (address_past c s) (λ low. number_past (at s low.1))

kind_past : (kinds : ℕ → Option Kind) (s : Span) → IsPast 1 s (list_kind_at kinds s)
unfolding list_kind_at kind_number_at
kind_past kinds s = past_next 1 s (renamed Truncated ListUnended (number_at 1 s)) _ (renamed_past 1 Truncated ListUnended s (number_at 1 s) (number_at-past 1 s)) (λ r low high. past_kept (at s r.1) (known_kind s.place (kinds r.0)) r.1 (omega arith) high)

-- where the section ends no kind stands
kind_end : (kinds : ℕ → Option Kind) (s : Span) → s.end ≤ s.place → s.place ≤ s.end → list_kind_at kinds s ≡ Err (fault ListUnended s.end)
unfolding list_kind_at kind_number_at number_at bytes_at
kind_end kinds s past inside = rw (lt-leb (s.place + 1) s.end (omega arith)) (ap (λ place. Err (fault ListUnended place)) (omega arith))

some_size : (size : ℕ) → IsAddressSize size → 1 ≤ size
some_size size (inl two) = omega arith
some_size size (inr (inl four)) = omega arith
some_size size (inr (inr eight)) = omega arith

first_test : (c : Context) (s : Span) (b : Bool) → IsAddressSize c.size → IsPast 1 s (cond b (Err (fault ListUnended s.place)) (address_operand_at c s))
unfolding address_operand_at
first_test c s true sized = tt
first_test c s false sized = renamed_past 1 Truncated ListTruncated s (number_at c.size s) (IsPast-less c.size 1 s (number_at c.size s) (some_size c.size sized) (number_at-past c.size s))

pair_past : (c : Context) (base : ℕ) (s : Span) → IsAddressSize c.size → IsPast 1 s (pair_at c base s)
unfolding pair_at first_address_at
pair_past c base s sized =
    past_next 1 s (first_address_at c s) _ (first_test c s (nat_le s.end s.place) sized) (λ r low high.
    past_next 0 (at s r.1) (address_operand_at c (at s r.1)) _ (address_past c (at s r.1)) (λ q _ within. (omega arith, within)))

-- where the section ends no pair stands
pair_end : (c : Context) (base : ℕ) (s : Span) → s.end ≤ s.place → s.place ≤ s.end → pair_at c base s ≡ Err (fault ListUnended s.end)
unfolding pair_at first_address_at
pair_end c base s past inside = rw (le-leb s.end s.place past) (ap (λ place. Err (fault ListUnended place)) (omega arith))

kinded_past : (kinds : ℕ → Option Kind) (c : Context) (base : ℕ) (s : Span) → IsPast 1 s (kind_and_operands_at kinds c base s)
unfolding kind_and_operands_at
kinded_past kinds c base s =
    past_next 1 s (list_kind_at kinds s) _ (kind_past kinds s) (λ k low high. operands_past c base k.0 s.place (at s k.1) high)

kinded_end : (kinds : ℕ → Option Kind) (c : Context) (base : ℕ) (s : Span) → s.end ≤ s.place → s.place ≤ s.end → kind_and_operands_at kinds c base s ≡ Err (fault ListUnended s.end)
unfolding kind_and_operands_at
kinded_end kinds c base s past inside = rw (kind_end kinds s past inside) refl

entry_test : (kinds : ℕ → Option Kind) (c : Context) (base : ℕ) (s : Span) (b : Bool) → IsAddressSize c.size → IsPast 1 s (cond b (pair_at c base s) (kind_and_operands_at kinds c base s))
entry_test kinds c base s true sized = pair_past c base s sized
entry_test kinds c base s false sized = kinded_past kinds c base s

entry_past : (kinds : ℕ → Option Kind) (c : Context) (base : ℕ) (s : Span) → IsAddressSize c.size → IsPast 1 s (entry_operands_at kinds c base s)
unfolding entry_operands_at
entry_past kinds c base s sized = entry_test kinds c base s (has_pairs c.version) sized

end_test : (kinds : ℕ → Option Kind) (c : Context) (base : ℕ) (s : Span) (b : Bool) → s.end ≤ s.place → s.place ≤ s.end → cond b (pair_at c base s) (kind_and_operands_at kinds c base s) ≡ Err (fault ListUnended s.end)
end_test kinds c base s true past inside = pair_end c base s past inside
end_test kinds c base s false past inside = kinded_end kinds c base s past inside

entry_end : (kinds : ℕ → Option Kind) (c : Context) (base : ℕ) (s : Span) → s.end ≤ s.place → s.place ≤ s.end → entry_operands_at kinds c base s ≡ Err (fault ListUnended s.end)
unfolding entry_operands_at
entry_end kinds c base s past inside = end_test kinds c base s (has_pairs c.version) past inside

range_past : (c : Context) (base : ℕ) (s : Span) → IsAddressSize c.size → IsPast 1 s (range_entry_at c base s)
unfolding range_entry_at
range_past c base s sized =
    past_next 1 s (entry_operands_at range_kind c base s) _ (entry_past range_kind c base s sized) (λ o _ within. (omega arith, within))

range_end : (c : Context) (base : ℕ) (s : Span) → s.end ≤ s.place → s.place ≤ s.end → range_entry_at c base s ≡ Err (fault ListUnended s.end)
unfolding range_entry_at
range_end c base s past inside = rw (entry_end range_kind c base s past inside) refl

pub range_entries : (c : Context) → IsAddressSize c.size → IsEntry (range_entry_at c)
range_entries c sized = record { moves = λ base s. range_past c base s sized; ends = range_end c }

count_test : (c : Context) (s : Span) (b : Bool) → IsPast 0 s (cond b (in_list (number_at 2 s)) (number_operand_at s))
count_test c s true = renamed_past 0 Truncated ListTruncated s (number_at 2 s) (IsPast-less 2 0 s (number_at 2 s) (omega arith) (number_at-past 2 s))
count_test c s false = number_past s

count_past : (c : Context) (s : Span) → IsPast 0 s (count_at c s)
unfolding count_at
count_past c s = count_test c s (has_pairs c.version)

expression_past : (c : Context) (s : Span) → IsPast 0 s (expression_at c s)
unfolding expression_at
expression_past c s =
    past_next 0 s (count_at c s) _ (count_past c s) (λ n low high.
    renamed_past 0 Truncated ListTruncated (at s n.1) (bytes_at n.0 (at s n.1)) (less_past n.0 (at s n.1) (bytes_at n.0 (at s n.1)) (bytes_at-past n.0 (at s n.1))))

located_past : (c : Context) (base : ℕ) (operands : Operands) (s : Span) → s.place ≤ s.end → IsPast 0 s (located c base operands s)
unfolding located
located_past c base End s inside = (omega arith, inside)
located_past c base (Base address) s inside = (omega arith, inside)
located_past c base (Bounds range) s inside = past_next 0 s (expression_at c s) _ (expression_past c s) (λ e _ within. (omega arith, within))

location_past : (c : Context) (base : ℕ) (s : Span) → IsAddressSize c.size → IsPast 1 s (location_entry_at c base s)
unfolding location_entry_at
location_past c base s sized =
    past_next 1 s (entry_operands_at location_kind c base s) _ (entry_past location_kind c base s sized) (λ o _ within. located_past c base o.0 (at s o.1) within)

location_end : (c : Context) (base : ℕ) (s : Span) → s.end ≤ s.place → s.place ≤ s.end → location_entry_at c base s ≡ Err (fault ListUnended s.end)
unfolding location_entry_at
location_end c base s past inside = rw (entry_end location_kind c base s past inside) refl

pub location_entries : (c : Context) → IsAddressSize c.size → IsEntry (location_entry_at c)
location_entries c sized = record { moves = λ base s. location_past c base s sized; ends = location_end c }

from_inside : (section : List ℕ) (order : Order) (offset : ℕ) → (span_from section order offset).place ≤ (span_from section order offset).end
unfolding span_from
from_inside section order offset = omega arith

pub range_list-IsList : (c : Context) → IsAddressSize c.size → (base : ℕ) (section : List ℕ) (order : Order) (offset : ℕ) → IsList (range_entry_at c) base (span_from section order offset) (list_at (range_entry_at c) base (span_from section order offset))
range_list-IsList c sized base section order offset = list_at-IsList (range_entry_at c) (range_entries c sized) base (span_from section order offset) (from_inside section order offset)

pub location_list-IsList : (c : Context) → IsAddressSize c.size → (base : ℕ) (section : List ℕ) (order : Order) (offset : ℕ) → IsList (location_entry_at c) base (span_from section order offset) (list_at (location_entry_at c) base (span_from section order offset))
location_list-IsList c sized base section order offset = list_at-IsList (location_entry_at c) (location_entries c sized) base (span_from section order offset) (from_inside section order offset)
