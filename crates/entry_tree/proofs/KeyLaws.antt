-- Laws on keys that were seen and placed.
use Rattle.std.specs.Prelude.{◌≡◌, ℕ, ◌++◌, Bool, true, List, [], ◌∷◌, All, Contains, zero, suc, Option, Some, None, Result, Ok, Err, refl}
use Rattle.dw_fields.specs.declared.fault_code.Fault.{Fault}
use Rattle.std.proofs.Common.{sym, ◌∙◌, ap, inl, inr, append-nil, append_assoc, arith}
use Rattle.std.proofs.lemmas.List.Elements.{All-append, Contains-append_left}
use Rattle.abbrev_decl.specs.Lookup.{key, first_declaration, Extends, IsSmallFound, Notes, PlacesAtMost}
use Rattle.entry_tree.specs.Views.{EntryView}
use Rattle.entry_tree.specs.declared.first.RootCode.{RootCode}
use Rattle.entry_tree.specs.Keys.{KeysNoted, KeysKnown, IsKeyAmong, GainsOnly, IsRootKeyOf, RootPlaces}

pub Extends-same : (xs : List ℕ) → Extends xs xs
Extends-same xs = record { more = []; is = sym (append-nil xs) }

pub Extends-then : (xs ys zs : List ℕ) → Extends xs ys → Extends ys zs → Extends xs zs
Extends-then xs ys zs p q = record { more = p.more ++ q.more; is = q.is ∙ ap (λ l. l ++ q.more) p.is ∙ append_assoc xs p.more q.more }

pub Contains-later : (xs ys : List ℕ) (k : ℕ) → Extends xs ys → Contains xs k → Contains ys k
Contains-later xs ys k p c = rw p.is (Contains-append_left xs p.more k c)

pub Notes-later : (seen later : List ℕ) (spent now : Bool) (k : ℕ) → Extends seen later → (spent ≡ true → now ≡ true) → Notes seen spent k → Notes later now k
Notes-later seen later spent now k grown stays (inl c) = inl (Contains-later seen later k grown c)
Notes-later seen later spent now k grown stays (inr e) = inr (stays e)

pub KeysNoted-later : (seen later : List ℕ) (spent now : Bool) (table : ℕ) (entries : List EntryView) → Extends seen later → (spent ≡ true → now ≡ true)
    → KeysNoted seen spent table entries → KeysNoted later now table entries
KeysNoted-later seen later spent now table [] grown stays noted = tt
KeysNoted-later seen later spent now table (e ∷ es) grown stays noted = (
  λ small. Notes-later seen later spent now (key table e.code) grown stays (noted.0 small),
  KeysNoted-later seen later spent now table es grown stays noted.1,
)

pub KeysNoted-append : (seen : List ℕ) (spent : Bool) (table : ℕ) (xs ys : List EntryView) → KeysNoted seen spent table xs → KeysNoted seen spent table ys
    → KeysNoted seen spent table (xs ++ ys)
KeysNoted-append seen spent table [] ys p q = q
KeysNoted-append seen spent table (x ∷ xs) ys p q = (p.0, KeysNoted-append seen spent table xs ys p.1 q)

pub KeysKnown-front : (seen : List ℕ) (table : ℕ) (xs ys : List EntryView) → KeysKnown seen table (xs ++ ys) → KeysKnown seen table xs
KeysKnown-front seen table [] ys p = tt
KeysKnown-front seen table (x ∷ xs) ys p = (p.0, p.1, KeysKnown-front seen table xs ys p.2)

pub KeysKnown-back : (seen : List ℕ) (table : ℕ) (xs ys : List EntryView) → KeysKnown seen table (xs ++ ys) → KeysKnown seen table ys
KeysKnown-back seen table [] ys p = p
KeysKnown-back seen table (x ∷ xs) ys p = KeysKnown-back seen table xs ys p.2

pub KeysKnown-later : (seen later : List ℕ) (table : ℕ) (entries : List EntryView) → Extends seen later → KeysKnown seen table entries → KeysKnown later table entries
KeysKnown-later seen later table [] grown p = tt
KeysKnown-later seen later table (e ∷ es) grown p =
    (p.0, Contains-later seen later (key table e.code) grown p.1, KeysKnown-later seen later table es grown p.2)

pub GainsOnly-same : (P : ℕ → Type 0) (xs : List ℕ) → GainsOnly P xs xs
GainsOnly-same P xs = record { more = []; is = sym (append-nil xs); each = λ k d h. absurd (omega arith) }

pub GainsOnly-then : (P : ℕ → Type 0) (xs ys zs : List ℕ) → GainsOnly P xs ys → GainsOnly P ys zs → GainsOnly P xs zs
GainsOnly-then P xs ys zs p q = record {
  more = p.more ++ q.more;
  is = q.is ∙ ap (λ l. l ++ q.more) p.is ∙ append_assoc xs p.more q.more;
  each = All-append P p.more q.more p.each q.each;
}

pub GainsOnly-weaker : (P Q : ℕ → Type 0) (xs ys : List ℕ) → ((k : ℕ) → P k → Q k) → GainsOnly P xs ys → GainsOnly Q xs ys
GainsOnly-weaker P Q xs ys weaker p = record { more = p.more; is = p.is; each = λ k d h. weaker _ (p.each k d h) }

All-one : (P : ℕ → Type 0) (x : ℕ) → P x → All P (x ∷ [])
All-one P x p zero d h = p
All-one P x p (suc k) d h = absurd (omega arith)

-- at most one key was placed: it is such a key
pub GainsOnly-one : (P : ℕ → Type 0) (old new : List ℕ) (asked : ℕ) (found : Type 0) → (found → P asked) → PlacesAtMost old new asked found → GainsOnly P old new
GainsOnly-one P old new asked found such (inl same) = rw same (GainsOnly-same P old)
GainsOnly-one P old new asked found such (inr gained) = record { more = asked ∷ []; is = gained.0; each = All-one P asked (such gained.1) }

pub IsKeyAmong-front : (table : ℕ) (xs ys : List EntryView) (k : ℕ) → IsKeyAmong table xs k → IsKeyAmong table (xs ++ ys) k
IsKeyAmong-front table [] ys k p = absurd p
IsKeyAmong-front table (x ∷ xs) ys k (inl p) = inl p
IsKeyAmong-front table (x ∷ xs) ys k (inr p) = inr (IsKeyAmong-front table xs ys k p)

pub IsKeyAmong-back : (table : ℕ) (xs ys : List EntryView) (k : ℕ) → IsKeyAmong table ys k → IsKeyAmong table (xs ++ ys) k
IsKeyAmong-back table [] ys k p = p
IsKeyAmong-back table (x ∷ xs) ys k p = inr (IsKeyAmong-back table xs ys k p)

-- what reading a root places is the root's key
pub RootPlaces-gains : (section : List ℕ) (table : ℕ) (old new : List ℕ) (root : Result (Option RootCode) Fault)
    → RootPlaces section table old new root → GainsOnly (IsRootKeyOf table root) old new
RootPlaces-gains section table old new (Ok (Some root)) placed =
    GainsOnly-one (IsRootKeyOf table (Ok (Some root))) old new (key table root.code) (IsSmallFound root.code (first_declaration section table root.code))
    (λ found. record { code = root.code; has = refl; small = found.0; is = refl }) placed
RootPlaces-gains section table old new (Ok None) same = rw same (GainsOnly-same (IsRootKeyOf table (Ok None)) old)
RootPlaces-gains section table old new (Err f) same = rw same (GainsOnly-same (IsRootKeyOf table (Err f)) old)

-- entries more

pub keys_next : (table : ℕ) (front more both : List EntryView) (a b c : List ℕ) → both ≡ front ++ more
    → GainsOnly (IsKeyAmong table front) a b → GainsOnly (IsKeyAmong table more) b c → GainsOnly (IsKeyAmong table both) a c
keys_next table front more both a b c added p q =
    rw added (GainsOnly-then (IsKeyAmong table (front ++ more)) a b c
    (GainsOnly-weaker (IsKeyAmong table front) (IsKeyAmong table (front ++ more)) a b (λ k. IsKeyAmong-front table front more k) p)
    (GainsOnly-weaker (IsKeyAmong table more) (IsKeyAmong table (front ++ more)) b c (λ k. IsKeyAmong-back table front more k) q))

pub noted_next : (table : ℕ) (front more both : List EntryView) (seen later : List ℕ) (spent now : Bool) → both ≡ front ++ more
    → Extends seen later → (spent ≡ true → now ≡ true) → KeysNoted seen spent table front → KeysNoted later now table more → KeysNoted later now table both
noted_next table front more both seen later spent now added grown stays p q =
    rw added (KeysNoted-append later now table front more (KeysNoted-later seen later spent now table front grown stays p) q)
