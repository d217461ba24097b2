-- What the sums of groups mean.
use Rattle.std.proofs.Common.{◌≡◌, ℕ, zero, suc, ◌+◌, ◌-◌, ◌%◌, ◌<◌, ◌≤◌, ◌^◌, inl, inr, List, [], ◌∷◌, length, get_or, take, ap, refl, subst, add-one, arith, Option, Some, None, nat_lt, Result, Ok, Err, All, ℤ, pos, negsuc, true, false}
use Rattle.std.proofs.Common.{Bool, cond, ltb-true, ltb-false, mod-eq_of_lt}
use Rattle.std.specs.List.{position, position_or_len}
use Rattle.std.proofs.lemmas.List.Quantifiers.{position-Some}
use Rattle.std.proofs.lemmas.List.Sums.{fails_before_first}
use Rattle.std.proofs.lemmas.List.Elements.{All-get_or, All-from_get_or}
use Rattle.std.proofs.lemmas.Int.{ints}
use Rattle.dw_fields.specs.declared.fault_code.Fault.{Fault}
use Rattle.dw_fields.specs.Span.{Span, rest_of}
use Rattle.dw_fields.specs.Leb.{FitsSigned64, FitsUnsigned64, Leb, SignedLeb, last_group, leb_sum, signed_group, signed_leb_sum, signed_of, unsigned_of, within_signed}
use Rattle.dw_fields.specs.Reading.{Gives, Spells, leb_of, leb_upto, sleb_at, uleb_at}

-- bytes with a set top bit, and a last one that hasn't
abbrev pub IsGroups : List ℕ → Type 0
IsGroups [] = ⊥
IsGroups (b ∷ []) = b < 128
IsGroups (b ∷ c ∷ bytes) = (128 ≤ b) × (b < 256) × IsGroups (c ∷ bytes)

groups_upto : (xs : List ℕ) (n : ℕ) → n < length xs → get_or xs n 0 < 128 → ((k : ℕ) → k < n → 128 ≤ get_or xs k 0) → ((k : ℕ) → k < length xs → get_or xs k 0 < 256) → IsGroups (take (suc n) xs)
groups_upto [] n inside last before bytes = absurd (omega arith)
groups_upto (x ∷ xs) zero inside last before bytes = last
groups_upto (x ∷ []) (suc n) inside last before bytes = absurd (omega arith)
groups_upto (x ∷ y ∷ ys) (suc n) inside last before bytes = (
  before 0 (omega arith),
  bytes 0 (omega arith),
  groups_upto (y ∷ ys) n (omega arith) last (λ k h. before (suc k) (omega arith)) (λ k h. bytes (suc k) (omega arith)),
)

pub Leb-sum : (xs : List ℕ) → IsGroups xs → Leb xs (leb_sum xs)
Leb-sum [] groups = groups
Leb-sum (b ∷ []) groups = (groups, omega arith)
Leb-sum (b ∷ c ∷ bytes) groups = (groups.0, leb_sum (c ∷ bytes), omega arith, Leb-sum (c ∷ bytes) groups.2)

-- what a value of groups says of what they spell
abbrev pub IsSound : {X : Type 0} → (List ℕ → X → Type 0) → (X → Type 0) → List ℕ → Option X → Type 0
IsSound {X = X} means fits bytes None = (x : X) × means bytes x × (fits x → ⊥)
IsSound means fits bytes (Some x) = means bytes x × fits x

spelled_of : {X : Type 0} (means : List ℕ → X → Type 0) (fits : X → Type 0) (old new : Span) (n : ℕ) (v : Option X) (result : Result X Fault)
    → IsSound means fits (take n (rest_of old)) v → Gives (λ x. x) result (λ s. leb_of old n v) old new → Spells means fits result old new
spelled_of means fits old new n None (Ok x) sound gives = absurd cc
spelled_of means fits old new n None (Err f) sound gives = inr (cc, n, sound.0, sound.1, sound.2)
spelled_of {X = X} means fits old new n (Some y) (Ok x) sound gives =
    let pair : ◌≡◌ {A = X × ℕ} (y, old.place + n) (x, new.place) = cc in
    let same : y ≡ x = ap (λ (p : X × ℕ). p.0) pair in
    let moved : old.place + n ≡ new.place = ap (λ (p : X × ℕ). p.1) pair in
    let count : n ≡ new.place - old.place = omega arith in
    let P : X → ℕ → Type 0 = λ z k. means (take k (rest_of old)) z × fits z in
    subst (λ k. P x k) count (subst (λ z. P z n) same sound)
spelled_of means fits old new n (Some y) (Err f) sound gives = absurd cc

none_before : (n m : ℕ) (b : Bool) → nat_lt n m ≡ b → cond b (Some n) None ≡ None → m ≤ n
none_before n m true test none = absurd cc
none_before n m false test none = ltb-false n m test

position_none : (p : ℕ → Bool) (xs : List ℕ) → position p xs ≡ None → (k : ℕ) → k < length xs → p (get_or xs k 0) ≡ false
position_none p xs none k inside =
    let past : length xs ≤ position_or_len p xs = none_before (position_or_len p xs) (length xs) (nat_lt (position_or_len p xs) (length xs)) refl none in
    fails_before_first p xs k 0 (omega arith)

open_groups : (xs : List ℕ) → last_group xs ≡ None → All (λ b. 128 ≤ b) xs
unfolding last_group
open_groups xs none = All-from_get_or (λ b. 128 ≤ b) xs 0 (λ k inside. ltb-false (get_or xs k 0) 128 (position_none (λ b. nat_lt b 128) xs none k inside))

ended_groups : (xs : List ℕ) (n : ℕ) → last_group xs ≡ Some n → All (λ b. b < 256) xs → IsGroups (take (n + 1) xs)
unfolding last_group
ended_groups xs n ends bytes =
    let found = position-Some (λ b. nat_lt b 128) xs n 0 ends in
    rw add-one (groups_upto xs n found.0 (ltb-true (get_or xs n 0) 128 found.1)
    (λ k h. ltb-false (get_or xs k 0) 128 (found.2 k h))
    (λ k h. All-get_or (λ b. b < 256) xs k 0 h bytes))

spelled_upto : {X : Type 0} (value : List ℕ → Option X) (means : List ℕ → X → Type 0) (fits : X → Type 0)
    → ((bytes : List ℕ) → IsGroups bytes → IsSound means fits bytes (value bytes))
    → (old new : Span) (o : Option ℕ) (result : Result X Fault)
    → last_group (rest_of old) ≡ o → All (λ b. b < 256) (rest_of old)
    → Gives (λ x. x) result (λ s. leb_upto value old o) old new → Spells means fits result old new
spelled_upto value means fits sound old new None (Ok x) ends bytes gives = absurd cc
spelled_upto value means fits sound old new None (Err f) ends bytes gives = inl (cc, open_groups (rest_of old) ends)
spelled_upto value means fits sound old new (Some n) result ends bytes gives =
    spelled_of means fits old new (n + 1) (value (take (n + 1) (rest_of old))) result
    (sound (take (n + 1) (rest_of old)) (ended_groups (rest_of old) n ends bytes)) gives

sound_test : {X : Type 0} (means : List ℕ → X → Type 0) (fits : X → Type 0) (bytes : List ℕ) (x : X) (b : Bool)
    → means bytes x → (b ≡ true → fits x) → (b ≡ false → fits x → ⊥) → IsSound means fits bytes (cond b (Some x) None)
sound_test means fits bytes x true spelled passes fails = (spelled, passes refl)
sound_test means fits bytes x false spelled passes fails = (x, spelled, fails refl)

sound_unsigned : (bytes : List ℕ) → IsGroups bytes → IsSound Leb FitsUnsigned64 bytes (unsigned_of bytes)
sound_unsigned bytes groups =
    sound_test Leb FitsUnsigned64 bytes (leb_sum bytes) (nat_lt (leb_sum bytes) (2 ^ 64)) (Leb-sum bytes groups)
    (λ e. ltb-true (leb_sum bytes) (2 ^ 64) e)
    (λ e h. let past : 2 ^ 64 ≤ leb_sum bytes = ltb-false (leb_sum bytes) (2 ^ 64) e in omega arith)

pub SignedLeb-sum : (xs : List ℕ) → IsGroups xs → SignedLeb xs (signed_leb_sum xs)
SignedLeb-sum [] groups = groups
SignedLeb-sum (b ∷ []) groups = (groups, ap signed_group (mod-eq_of_lt groups))
SignedLeb-sum (b ∷ c ∷ bytes) groups =
    let low : b % 128 ≡ b - 128 = omega arith in
    (groups.0, signed_leb_sum (c ∷ bytes), rw low (omega (arith, ints)), SignedLeb-sum (c ∷ bytes) groups.2)

sound_within : (bytes : List ℕ) (z : ℤ) → SignedLeb bytes z → IsSound SignedLeb FitsSigned64 bytes (within_signed z)
sound_within bytes (pos n) spelled =
    sound_test SignedLeb FitsSigned64 bytes (pos n) (nat_lt n (2 ^ 63)) spelled
    (λ e. let h : n < 2 ^ 63 = ltb-true n (2 ^ 63) e in (omega (arith, ints), omega (arith, ints)))
    (λ e h. let past : 2 ^ 63 ≤ n = ltb-false n (2 ^ 63) e in let k = h.1 in omega (arith, ints))
sound_within bytes (negsuc n) spelled =
    sound_test SignedLeb FitsSigned64 bytes (negsuc n) (nat_lt n (2 ^ 63)) spelled
    (λ e. let h : n < 2 ^ 63 = ltb-true n (2 ^ 63) e in (omega (arith, ints), omega (arith, ints)))
    (λ e h. let past : 2 ^ 63 ≤ n = ltb-false n (2 ^ 63) e in let k = h.0 in omega (arith, ints))

-- What the groups' sum gives is what their bytes spell.
pub spells_unsigned : (result : Result ℕ Fault) (old new : Span) → Gives (λ x. x) result uleb_at old new → All (λ b. b < 256) (rest_of old) → Spells Leb FitsUnsigned64 result old new
unfolding uleb_at
spells_unsigned (Ok x) old new gives bytes = spelled_upto unsigned_of Leb FitsUnsigned64 sound_unsigned old new (last_group (rest_of old)) (Ok x) refl bytes gives
spells_unsigned (Err f) old new gives bytes = spelled_upto unsigned_of Leb FitsUnsigned64 sound_unsigned old new (last_group (rest_of old)) (Err f) refl bytes gives

pub spells_signed : (result : Result ℤ Fault) (old new : Span) → Gives (λ x. x) result sleb_at old new → All (λ b. b < 256) (rest_of old) → Spells SignedLeb FitsSigned64 result old new
unfolding sleb_at
spells_signed (Ok x) old new gives bytes = spelled_upto signed_of SignedLeb FitsSigned64 (λ bs groups. sound_within bs (signed_leb_sum bs) (SignedLeb-sum bs groups)) old new (last_group (rest_of old)) (Ok x) refl bytes gives
spells_signed (Err f) old new gives bytes = spelled_upto signed_of SignedLeb FitsSigned64 (λ bs groups. sound_within bs (signed_leb_sum bs) (SignedLeb-sum bs groups)) old new (last_group (rest_of old)) (Err f) refl bytes gives
