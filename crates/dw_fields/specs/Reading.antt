-- The fields of a section as functions of its bytes: the value and the place behind it, or the
-- fault.
use Rattle.std.specs.Prelude.{◌||◌, All, ◌≡◌, ℕ, ◌+◌, ◌-◌, ◌*◌, ◌%◌, ◌^◌, ◌≤◌, ◌==◌, ◌⊎◌, nat_lt, nat_le, Bool, true, false, cond, if◌then◌else◌, List, take, drop, position, Option, Some, None, Result, Ok, Err, ℤ}
use Rattle.byteorder.specs.Endian.{little_number, big_number}
use Rattle.dw_fields.specs.declared.byte_order.Order.{Order}
use Rattle.dw_fields.specs.declared.byte_order.Order.TheVariants.{Little, Big}
use Rattle.dw_fields.specs.declared.fault_code.Code.{Code}
use Rattle.dw_fields.specs.declared.fault_code.Code.TheVariants.{Truncated, LengthReserved, LebTooLarge, TextUnended}
use Rattle.dw_fields.specs.declared.fault_code.Fault.{Fault}
use Rattle.dw_fields.specs.declared.cursor.Length.{Length}
use Rattle.dw_fields.specs.Codes.{fault, renamed_fault}
use Rattle.dw_fields.specs.Span.{Span, at, rest_of}
use Rattle.dw_fields.specs.Leb.{last_group, signed_of, unsigned_of}

-- what stands at a place: the value and the place behind it, or the fault
abbrev pub Reader : Type 0 → Type 0
Reader X = Span → Result (X × ℕ) Fault

-- one answer after another: the first refusal is the answer, whatever its type
infixl 10 ◌>>=◌
abbrev pub ◌>>=◌ : {E A B : Type 0} → Result A E → (A → Result B E) → Result B E
Ok a >>= f = f a
Err e >>= f = Err e

infixl 10 ◌>>◌
abbrev pub ◌>>◌ : {E A B : Type 0} → Result A E → Result B E → Result B E
a >> b = a >>= (λ _. b)

-- the refusal, if the test holds
abbrev pub refuse : {E : Type 0} → Bool → E → Result (Unit {0}) E
refuse bad refusal = cond bad (Err refusal) (Ok tt)

-- a fault of the cause `from` gets the cause `to`, at its place
abbrev pub renamed : {X : Type 0} → Code → Code → Result X Fault → Result X Fault
renamed from to (Ok x) = Ok x
renamed from to (Err f) = Err (renamed_fault from to f)

-- a fault counts at the given place
abbrev pub placed : {X : Type 0} → ℕ → Result X Fault → Result X Fault
placed place (Ok x) = Ok x
placed place (Err f) = Err (fault f.code place)

-- The answer is the reader's, seen by `view`; the cut stands behind the field, or as it was at a
-- fault.
abbrev pub Gives : {X Y : Type 0} → (X → Y) → Result X Fault → Reader Y → Span → Span → Type 0
Gives view (Ok x) read old new = (read old ≡ Ok (view x, new.place)) × (new ≡ at old new.place)
Gives view (Err f) read old new = (read old ≡ Err f) × (new ≡ old)

-- the same where nothing is said of the cut after a fault
abbrev pub Reads : {X Y : Type 0} → (X → Y) → Result X Fault → Reader Y → Span → Span → Type 0
Reads view (Ok x) read old new = (read old ≡ Ok (view x, new.place)) × (new ≡ at old new.place)
Reads view (Err f) read old new = read old ≡ Err f

-- the cut moves by at least so many bytes and stays within its end
pub record Moves (least : ℕ) (old new : Span) : Type 0 where
  pub forward : old.place + least ≤ new.place
  pub inside : new.place ≤ old.end

-- a cut that went on, or stayed, inside its end
pub record Onward (old new : Span) : Type 0 where
  pub forward : old.place ≤ new.place
  pub inside : old.place ≤ old.end → new.place ≤ old.end

-- an address has 2, 4 or 8 bytes
abbrev pub IsAddressSize : ℕ → Type 0
IsAddressSize size = (size ≡ 2) ⊎ (size ≡ 4) ⊎ (size ≡ 8)

abbrev pub is_address_size : ℕ → Bool
is_address_size size = size == 2 || (size == 4 || size == 8)

-- the address of so many bytes that a sum stands for: the sum modulo 2 to the power of its bits
unfoldable pub wrapped_address : ℕ → ℕ → ℕ
wrapped_address size sum = sum % 2 ^ (8 * size)

-- The number of the first n bytes: the sum of each byte times 256 to the power of its place, which
-- counts from the first byte (little) or from the last of the n (big).
abbrev pub number_of : Order → ℕ → List ℕ → ℕ
number_of Little n bytes = little_number n bytes
number_of Big n bytes = big_number n bytes

-- n bytes
unfoldable pub bytes_at : ℕ → Reader (List ℕ)
bytes_at n s =
    if nat_le (s.place + n) s.end then Ok (take n (drop s.place s.bytes), s.place + n)
    else Err (fault Truncated s.place)

-- a number of n bytes
unfoldable pub number_at : ℕ → Reader ℕ
number_at n s = do
  field ← bytes_at n s
  Ok (number_of s.order n field.0, field.1)

-- an offset: 8 bytes in the 64-bit format (wide), else 4 (DWARF 5 section 7.4)
unfoldable pub offset_at : Bool → Reader ℕ
offset_at wide s = number_at (if wide then 8 else 4) s

-- an initial length (DWARF 5 section 7.4), each fault at its first byte
unfoldable pub length_at : Reader Length
length_at s = do
  word ← number_at 4 s
  (if nat_lt word.0 0xfffffff0 then Ok (record { wide = false; value = word.0 }, word.1)
      else (if word.0 == 0xffffffff then (do
        long ← placed s.place (number_at 8 (at s word.1))
        Ok (record { wide = true; value = long.0 }, long.1))
      else Err (fault LengthReserved s.place)))

-- The number of so many bytes, or that 64 bits don't hold it.
abbrev pub leb_of : {X : Type 0} → Span → ℕ → Option X → Result (X × ℕ) Fault
leb_of s size None = Err (fault LebTooLarge s.place)
leb_of s size (Some x) = Ok (x, s.place + size)

-- The number that the bytes up to the first clear top bit spell. Where there is no such byte the
-- number passes the end, and this goes before a value outside 64 bits.
abbrev pub leb_upto : {X : Type 0} → (List ℕ → Option X) → Span → Option ℕ → Result (X × ℕ) Fault
leb_upto value s None = Err (fault Truncated s.place)
leb_upto value s (Some n) = leb_of s (n + 1) (value (take (n + 1) (rest_of s)))

-- an unsigned number (DWARF 5 section 7.6)
unfoldable pub uleb_at : Reader ℕ
uleb_at s = leb_upto unsigned_of s (last_group (rest_of s))

-- a signed number
unfoldable pub sleb_at : Reader ℤ
sleb_at s = leb_upto signed_of s (last_group (rest_of s))

-- A LEB128 number by what its bytes mean: an answer is what the bytes up to the new place spell,
-- and fits; no answer means that the number doesn't end, or that what its bytes spell doesn't fit.
abbrev pub Spells : {X : Type 0} → (List ℕ → X → Type 0) → (X → Type 0) → Result X Fault
    → Span → Span → Type 0
Spells means fits (Ok x) old new = means (take (new.place - old.place) (rest_of old)) x × fits x
Spells {X = X} means fits (Err f) old new =
    ((f ≡ fault Truncated old.place) × All (λ b. 128 ≤ b) (rest_of old))
    ⊎ ((f ≡ fault LebTooLarge old.place)
    × (n : ℕ) × (x : X) × means (take n (rest_of old)) x × (fits x → ⊥))

-- the bytes before the next zero byte, which is passed too
unfoldable pub text_at : Reader (List ℕ)
text_at s = elim (position (λ b. b == 0) (rest_of s)) [
  | None ↦ Err (fault TextUnended s.place)
  | Some n ↦ Ok (take n (rest_of s), s.place + (n + 1))
]
