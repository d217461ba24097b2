-- Laws on the answers of readers: what holds of one step holds after the next, and fields stay within
-- the end.
use Rattle.std.specs.Prelude.{◌≡◌, ℕ, ◌+◌, ◌-◌, ◌<◌, ◌≤◌, ◌==◌, ◌||◌, nat_le, nat_lt, Bool, true, false, cond, List, length, take, drop, position, Option, Some, None, Result, Ok, Err, IfOk, refl}
use Rattle.std.proofs.Common.{◌∙◌, inl, inr, arith, leb-true, eqb-true, length-take}
use Rattle.std.proofs.lemmas.List.Quantifiers.{position-Some}
use Rattle.dw_fields.specs.declared.cursor.Length.{Length}
use Rattle.dw_fields.specs.declared.fault_code.Code.{Code}
use Rattle.dw_fields.specs.declared.fault_code.Code.TheVariants.{Truncated, LengthReserved, TextUnended}
use Rattle.dw_fields.specs.declared.fault_code.Fault.{Fault}
use Rattle.dw_fields.specs.Codes.{fault}
use Rattle.dw_fields.specs.Span.{Span, at, rest_of}
use Rattle.dw_fields.specs.Leb.{last_group, signed_of, unsigned_of}
use Rattle.dw_fields.specs.Reading.{IsAddressSize, ◌>>=◌, bytes_at, is_address_size, leb_of, leb_upto, length_at, number_at, offset_at, placed, refuse, renamed, sleb_at, text_at, uleb_at}

-- what holds of the next answer, wherever this one holds
pub next-IfOk : {E A B : Type 0} (P : A → Type 0) (Q : B → Type 0) (r : Result A E) (f : A → Result B E)
    → IfOk r P → ((a : A) → P a → IfOk (f a) Q) → IfOk (r >>= f) Q
next-IfOk P Q (Ok a) f here after = after a here
next-IfOk P Q (Err e) f here after = tt

pub renamed-IfOk : {A : Type 0} (P : A → Type 0) (from to : Code) (r : Result A Fault) → IfOk r P → IfOk (renamed from to r) P
renamed-IfOk P from to (Ok a) here = here
renamed-IfOk P from to (Err e) here = tt

pub placed-IfOk : {A : Type 0} (P : A → Type 0) (place : ℕ) (r : Result A Fault) → IfOk r P → IfOk (placed place r) P
placed-IfOk P place (Ok a) here = here
placed-IfOk P place (Err e) here = tt

pub refuse-IfOk : {E : Type 0} (bad : Bool) (f : E) → IfOk (refuse bad f) (λ _. bad ≡ false)
refuse-IfOk true f = tt
refuse-IfOk false f = refl

by_size : (size : ℕ) (two four eight : Bool) → size == 2 ≡ two → size == 4 ≡ four → size == 8 ≡ eight → (two || (four || eight)) ≡ true → IsAddressSize size
by_size size true four eight a b c e = inl (eqb-true size 2 a)
by_size size false true eight a b c e = inr (inl (eqb-true size 4 b))
by_size size false false eight a b c e = inr (inr (eqb-true size 8 (c ∙ e)))

pub is_address_size-true : (size : ℕ) → is_address_size size ≡ true → IsAddressSize size
is_address_size-true size e = by_size size (size == 2) (size == 4) (size == 8) refl refl refl e

-- the place behind a field is so far on at least, and within the end
abbrev pub IsPast : {X : Type 0} → ℕ → Span → Result (X × ℕ) Fault → Type 0
IsPast least s read = IfOk read (λ r. (s.place + least ≤ r.1) × (r.1 ≤ s.end))

pub IsPast-less : {X : Type 0} (least less : ℕ) (s : Span) (read : Result (X × ℕ) Fault) → less ≤ least → IsPast least s read → IsPast less s read
IsPast-less least less s (Ok r) fewer past = (omega arith, past.1)
IsPast-less least less s (Err f) fewer past = tt

bytes_test : (n : ℕ) (s : Span) (b : Bool) → nat_le (s.place + n) s.end ≡ b
    → IsPast n s (cond b (Ok (take n (drop s.place s.bytes), s.place + n)) (Err (fault Truncated s.place)))
bytes_test n s true test = (omega arith, leb-true (s.place + n) s.end test)
bytes_test n s false test = tt

pub bytes_at-past : (n : ℕ) (s : Span) → IsPast n s (bytes_at n s)
unfolding bytes_at
bytes_at-past n s = bytes_test n s (nat_le (s.place + n) s.end) refl

pub number_at-past : (n : ℕ) (s : Span) → IsPast n s (number_at n s)
unfolding number_at
number_at-past n s =
    next-IfOk (λ r. (s.place + n ≤ r.1) × (r.1 ≤ s.end)) (λ r. (s.place + n ≤ r.1) × (r.1 ≤ s.end)) (bytes_at n s) _ (bytes_at-past n s) (λ r past. past)

pub offset_at-past : (wide : Bool) (s : Span) → IsPast 4 s (offset_at wide s)
unfolding offset_at
offset_at-past true s = IsPast-less 8 4 s (number_at 8 s) (omega arith) (number_at-past 8 s)
offset_at-past false s = number_at-past 4 s

length_word : (s : Span) (word : ℕ × ℕ) (short long : Bool) → IsPast {X = ℕ} 4 s (Ok word)
    → IsPast {X = Length} 4 s (cond short (Ok (record { wide = false; value = word.0 }, word.1))
    (cond long (placed s.place (number_at 8 (at s word.1)) >>= (λ far. Ok (record { wide = true; value = far.0 }, far.1)))
    (Err (fault LengthReserved s.place))))
length_word s word true long past = past
length_word s word false true past =
    next-IfOk (λ r. (word.1 + 8 ≤ r.1) × (r.1 ≤ s.end)) (λ r. (s.place + 4 ≤ r.1) × (r.1 ≤ s.end)) (placed s.place (number_at 8 (at s word.1))) _
    (placed-IfOk (λ r. (word.1 + 8 ≤ r.1) × (r.1 ≤ s.end)) s.place (number_at 8 (at s word.1)) (number_at-past 8 (at s word.1)))
    (λ r far. (omega arith, far.1))
length_word s word false false past = tt

pub length_at-past : (s : Span) → IsPast 4 s (length_at s)
unfolding length_at
length_at-past s =
    next-IfOk (λ r. (s.place + 4 ≤ r.1) × (r.1 ≤ s.end)) (λ r. (s.place + 4 ≤ r.1) × (r.1 ≤ s.end)) (number_at 4 s) _ (number_at-past 4 s)
    (λ r past. length_word s r (nat_lt r.0 0xfffffff0) (r.0 == 0xffffffff) past)

rest_within : (s : Span) → length (rest_of s) ≤ s.end - s.place
rest_within s = omega (arith, length-take (s.end - s.place) (drop s.place s.bytes))

group_inside : (xs : List ℕ) (n : ℕ) → last_group xs ≡ Some n → n < length xs
unfolding last_group
group_inside xs n e = (position-Some (λ b. nat_lt b 128) xs n 0 e).0

size_past : {X : Type 0} (s : Span) (n : ℕ) (v : Option X) → n < length (rest_of s) → length (rest_of s) ≤ s.end - s.place → IsPast 1 s (leb_of s (n + 1) v)
size_past s n None inside within = tt
size_past s n (Some x) inside within = (omega arith, omega arith)

leb_past : {X : Type 0} (value : List ℕ → Option X) (s : Span) (o : Option ℕ) → last_group (rest_of s) ≡ o → IsPast 1 s (leb_upto value s o)
leb_past value s None e = tt
leb_past value s (Some n) e = size_past s n (value (take (n + 1) (rest_of s))) (group_inside (rest_of s) n e) (rest_within s)

pub uleb_at-past : (s : Span) → IsPast 1 s (uleb_at s)
unfolding uleb_at
uleb_at-past s = leb_past unsigned_of s (last_group (rest_of s)) refl

pub sleb_at-past : (s : Span) → IsPast 1 s (sleb_at s)
unfolding sleb_at
sleb_at-past s = leb_past signed_of s (last_group (rest_of s)) refl

text_past : (s : Span) (o : Option ℕ) → position (λ b. b == 0) (rest_of s) ≡ o → IsPast {X = List ℕ} 1 s (elim o [ None ↦ Err (fault TextUnended s.place) | Some n ↦ Ok (take n (rest_of s), s.place + (n + 1)) ])
text_past s None e = tt
text_past s (Some n) e =
    let inside : n < length (rest_of s) = (position-Some (λ b. b == 0) (rest_of s) n 0 e).0 in
    let within : length (rest_of s) ≤ s.end - s.place = rest_within s in
    (omega arith, omega arith)

pub text_at-past : (s : Span) → IsPast 1 s (text_at s)
unfolding text_at
text_at-past s = text_past s (position (λ b. b == 0) (rest_of s)) refl
