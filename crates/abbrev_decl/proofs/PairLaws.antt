-- Laws of the pairs of a declaration.
use Rattle.std.proofs.Common.{◌≡◌, ℕ, zero, suc, ◌+◌, ◌<◌, ◌≤◌, ◌==◌, ◌&&◌, List, [], ◌∷◌, length, Result, Ok, Err, Option, Some, None, refl, sym, ap, ◌∙◌, arith}
use Rattle.dw_fields.specs.declared.fault_code.Fault.{Fault}
use Rattle.dw_fields.specs.declared.fault_code.Code.TheVariants.{Truncated, DeclTruncated}
use Rattle.dw_fields.specs.Codes.{fault}
use Rattle.dw_fields.specs.Span.{Span, at}
use Rattle.dw_fields.specs.Reading.{uleb_at, sleb_at}
use Rattle.abbrev_decl.specs.declared.pairs.AttrSpec.{AttrSpec}
use Rattle.abbrev_decl.specs.Pairs.{from, in_table, implicit_at, pair_at, in_front, pairs_on, pairs_from, pairs_at, EndAtFirstZeroPair, IsRead, Skips, pairs_of}
use Rattle.abbrev_decl.proofs.Forward.{Ahead, Ahead-is, Ahead-later, Ahead-renamed, Ahead-then, Ahead-either, uleb_ahead, sleb_ahead, uleb_end}

-- behind the end no pair stands
pub pair_end : (section : List ℕ) (place : ℕ) → length section ≤ place → pair_at (from section place) ≡ Err (fault DeclTruncated place)
unfolding pair_at
pair_end section place h = rw (uleb_end (from section place) h) refl

pub start_uleb : (s : Span) → Ahead s.place (in_table (uleb_at s))
start_uleb s = Ahead-renamed Truncated DeclTruncated s.place (uleb_at s) (uleb_ahead s)

pub later_uleb : (s : Span) (place : ℕ) → place < s.place → Ahead place (in_table (uleb_at s))
later_uleb s place h = Ahead-renamed Truncated DeclTruncated place (uleb_at s) (Ahead-later place s.place (uleb_at s) (omega arith) (uleb_ahead s))

implicit_ahead : (form : ℕ) (s : Span) (place : ℕ) → place < s.place → Ahead place (implicit_at form s)
unfolding implicit_at
implicit_ahead form s place h =
    Ahead-either (form == 0x21) place _ _
    (Ahead-renamed Truncated DeclTruncated place (sleb_at s) (Ahead-later place s.place (sleb_at s) (omega arith) (sleb_ahead s))) h

-- a pair ends behind its place
pair_ahead : (s : Span) → Ahead s.place (pair_at s)
unfolding pair_at
pair_ahead s =
    Ahead-then s.place (in_table (uleb_at s)) _ (start_uleb s)
    (λ name p. Ahead-then s.place (in_table (uleb_at (at s name.1))) _ (later_uleb (at s name.1) s.place p)
    (λ form q. Ahead-either ((name.0 == 0) && (form.0 == 0)) s.place _ _ q
    (Ahead-then s.place (implicit_at form.0 (at s form.1)) _ (implicit_ahead form.0 (at s form.1) s.place q) (λ implicit r. r))))

pub pair_forward : (section : List ℕ) (place : ℕ) (read : Option AttrSpec × ℕ) → pair_at (from section place) ≡ Ok read → place < read.1
pair_forward section place read e = Ahead-is place (pair_at (from section place)) read e (pair_ahead (from section place))

-- what the pairs behind a place come to decides the pairs at it
on_same : (found : Result (Option AttrSpec × ℕ) Fault) (f g : ℕ → Result (List AttrSpec × ℕ) Fault) (place : ℕ)
    → Ahead place found → ((next : ℕ) → place < next → f next ≡ g next) → pairs_on found f ≡ pairs_on found g
on_same (Err e) f g place h k = refl
on_same (Ok (None, next)) f g place h k = refl
on_same (Ok (Some pair, next)) f g place h k = ap (in_front pair) (k next h)

-- with enough turns, more make no difference
pub pairs_enough : (n m : ℕ) (section : List ℕ) (place : ℕ) → length section ≤ place + n → length section ≤ place + m
    → pairs_from n section place ≡ pairs_from m section place
pairs_enough zero zero section place p q = refl
pairs_enough zero (suc m) section place p q = rw (pair_end section place (omega arith)) refl
pairs_enough (suc n) zero section place p q = rw (pair_end section place (omega arith)) refl
pairs_enough (suc n) (suc m) section place p q =
    on_same (pair_at (from section place)) (λ next. pairs_from n section next) (λ next. pairs_from m section next) place (pair_ahead (from section place))
    (λ next h. pairs_enough n m section next (omega arith) (omega arith))

-- the pairs at a place: the pair that stands there, and the pairs behind it
pub pairs_step : (section : List ℕ) (place : ℕ) → pairs_at section place ≡ pairs_on (pair_at (from section place)) (λ next. pairs_at section next)
unfolding pairs_at
pairs_step section place =
    pairs_enough (length section + 1) (suc (length section + 1)) section place (omega arith) (omega arith)

one_more : (section : List ℕ) (place next : ℕ) (pair : AttrSpec) (answer : Result (List AttrSpec × ℕ) Fault)
    → pair_at (from section place) ≡ Ok (Some pair, next) → EndAtFirstZeroPair section next answer → EndAtFirstZeroPair section place (in_front pair answer)
one_more section place next pair (Ok all) e law = record { pairs = pair ∷ law.pairs; last = law.last; stand = (next, e, law.stand); end = (ap (λ ps. pair ∷ ps) law.end.0, law.end.1) }
one_more section place next pair (Err f) e law = record { pairs = pair ∷ law.pairs; last = law.last; stand = (next, e, law.stand); end = law.end }

law_on : (found : Result (Option AttrSpec × ℕ) Fault) (section : List ℕ) (place : ℕ) (others : ℕ → Result (List AttrSpec × ℕ) Fault)
    → pair_at (from section place) ≡ found → ((next : ℕ) → Ahead place found → place < next → EndAtFirstZeroPair section next (others next)) → Ahead place found
    → EndAtFirstZeroPair section place (pairs_on found others)
law_on (Err f) section place others e k h = record { pairs = []; last = place; stand = refl; end = e }
law_on (Ok (None, next)) section place others e k h = record { pairs = []; last = place; stand = refl; end = (refl, e) }
law_on (Ok (Some pair, next)) section place others e k h = one_more section place next pair (others next) e (k next h h)

law_from : (n : ℕ) (section : List ℕ) (place : ℕ) → length section ≤ place + n → EndAtFirstZeroPair section place (pairs_from n section place)
law_from zero section place p = record { pairs = []; last = place; stand = refl; end = pair_end section place (omega arith) }
law_from (suc n) section place p =
    law_on (pair_at (from section place)) section place (λ next. pairs_from n section next) refl (λ next _ h. law_from n section next (omega arith)) (pair_ahead (from section place))

pub pairs_law : (section : List ℕ) (place : ℕ) → EndAtFirstZeroPair section place (pairs_at section place)
unfolding pairs_at
pairs_law section place = law_from (length section + 1) section place (omega arith)

front_ahead : (place next : ℕ) (pair : AttrSpec) (answer : Result (List AttrSpec × ℕ) Fault) → place < next → Ahead next answer → Ahead place (in_front pair answer)
front_ahead place next pair (Ok all) h k = omega arith
front_ahead place next pair (Err f) h k = tt

on_ahead : (found : Result (Option AttrSpec × ℕ) Fault) (others : ℕ → Result (List AttrSpec × ℕ) Fault) (place : ℕ)
    → Ahead place found → ((next : ℕ) → Ahead next (others next)) → Ahead place (pairs_on found others)
on_ahead (Err f) others place h k = tt
on_ahead (Ok (None, next)) others place h k = h
on_ahead (Ok (Some pair, next)) others place h k = front_ahead place next pair (others next) h (k next)

from_ahead : (n : ℕ) (section : List ℕ) (place : ℕ) → Ahead place (pairs_from n section place)
from_ahead zero section place = tt
from_ahead (suc n) section place = on_ahead (pair_at (from section place)) (λ next. pairs_from n section next) place (pair_ahead (from section place)) (λ next. from_ahead n section next)

-- the pairs end behind their place
pub pairs_ahead : (section : List ℕ) (place : ℕ) → Ahead place (pairs_at section place)
unfolding pairs_at
pairs_ahead section place = from_ahead (length section + 1) section place

-- the pairs at a place where a pair stands
pub pairs_next : (section : List ℕ) (place next : ℕ) (pair : AttrSpec) → pair_at (from section place) ≡ Ok (Some pair, next)
    → pairs_at section place ≡ in_front pair (pairs_at section next)
pairs_next section place next pair e = pairs_step section place ∙ ap (λ found. pairs_on found (λ q. pairs_at section q)) e

-- where the pair 0, 0 stands
pub pairs_end : (section : List ℕ) (place next : ℕ) → pair_at (from section place) ≡ Ok (None, next) → pairs_at section place ≡ Ok ([], next)
pairs_end section place next e = pairs_step section place ∙ ap (λ found. pairs_on found (λ q. pairs_at section q)) e

-- where no pair can be read
pub pairs_fault : (section : List ℕ) (place : ℕ) (f : Fault) → pair_at (from section place) ≡ Err f → pairs_at section place ≡ Err f
pairs_fault section place f e = pairs_step section place ∙ ap (λ found. pairs_on found (λ q. pairs_at section q)) e

skips_read : (answer : Result (List AttrSpec × ℕ) Fault) (pairs : List AttrSpec) (next : ℕ) → answer ≡ Ok (pairs, next) → Skips (Ok next) answer
skips_read answer pairs next e = let listed : pairs_of answer ≡ pairs = ap pairs_of e in cc

skips_front : (r : Result ℕ Fault) (pair : AttrSpec) (others answer : Result (List AttrSpec × ℕ) Fault) → answer ≡ in_front pair others → Skips r others → Skips r answer
skips_front (Ok next) pair others answer e h = skips_read answer (pair ∷ pairs_of others) next (e ∙ ap (in_front pair) h)
skips_front (Err f) pair others answer e h = e ∙ ap (in_front pair) h

pub skips_next : (r : Result ℕ Fault) (section : List ℕ) (place next : ℕ) (pair : AttrSpec) → pair_at (from section place) ≡ Ok (Some pair, next)
    → Skips r (pairs_at section next) → Skips r (pairs_at section place)
skips_next r section place next pair e h = skips_front r pair (pairs_at section next) (pairs_at section place) (pairs_next section place next pair e) h

pub skips_end : (section : List ℕ) (place next : ℕ) → pair_at (from section place) ≡ Ok (None, next) → Skips (Ok next) (pairs_at section place)
skips_end section place next e = skips_read (pairs_at section place) [] next (pairs_end section place next e)

takes_front : (pair : AttrSpec) (others : Result (List AttrSpec × ℕ) Fault) → IsRead (in_front pair others) → (pairs_of (in_front pair others) ≡ pair ∷ pairs_of others) × IsRead others
takes_front pair (Ok all) h = (refl, tt)
takes_front pair (Err f) h = absurd h

-- pairs that were read once are read again the same: a pair and those behind it
pub takes_next : (section : List ℕ) (place next : ℕ) (pair : AttrSpec) → pair_at (from section place) ≡ Ok (Some pair, next) → IsRead (pairs_at section place)
    → (pairs_of (pairs_at section place) ≡ pair ∷ pairs_of (pairs_at section next)) × IsRead (pairs_at section next)
takes_next section place next pair e h =
    let read = rw (pairs_next section place next pair e) at h in
    rw (pairs_next section place next pair e) (takes_front pair (pairs_at section next) read)

-- none where the pair 0, 0 stands
pub takes_none : (section : List ℕ) (place next : ℕ) → pair_at (from section place) ≡ Ok (None, next) → pairs_of (pairs_at section place) ≡ []
takes_none section place next e = ap pairs_of (pairs_end section place next e)

-- and never a fault
pub takes_fault : (section : List ℕ) (place : ℕ) (f : Fault) → pair_at (from section place) ≡ Err f → IsRead (pairs_at section place) → ⊥
takes_fault section place f e h = rw (pairs_fault section place f e) at h

-- what was read of a pair stands there
pub pair_stands : (answer : Result (Option AttrSpec × ℕ) Fault) (next : ℕ) (found seen : Option AttrSpec)
    → Ok (found, next) ≡ answer → found ≡ seen → answer ≡ Ok (seen, next)
pair_stands answer next found seen read is = sym read ∙ ap (λ f. Ok (f, next)) is
