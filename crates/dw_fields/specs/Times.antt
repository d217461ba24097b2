-- A reader so many times in a row.
use Rattle.std.specs.Prelude.{◌≡◌, ℕ, zero, suc, List, [], ◌∷◌, ◌++◌, Result, Ok, Err, refl}
use Rattle.std.proofs.Common.{append_assoc, append-nil, ap, ◌∙◌, sym}
use Rattle.dw_fields.specs.declared.fault_code.Fault.{Fault}
use Rattle.dw_fields.specs.Span.{Span, at}
use Rattle.dw_fields.specs.Reading.{Reader, ◌>>=◌}

abbrev pub times : {X : Type 0} → ℕ → Reader X → Reader (List X)
times zero read s = Ok ([], s.place)
times (suc n) read s = do
  first ← read s
  others ← times n read (at s first.1)
  Ok (first.0 ∷ others.0, others.1)

-- what was read so far, in front of what a reader answers
abbrev pub with_front : {X : Type 0} → List X → Result (List X × ℕ) Fault → Result (List X × ℕ) Fault
with_front front (Ok read) = Ok (front ++ read.0, read.1)
with_front front (Err f) = Err f

-- one more value in front
abbrev pub consed : {X : Type 0} → X → Result (List X × ℕ) Fault → Result (List X × ℕ) Fault
consed x (Ok read) = Ok (x ∷ read.0, read.1)
consed x (Err f) = Err f

-- what was read, then a value read: the value goes to the front
pub with_front-snoc : {X : Type 0} → (front : List X) (x : X) (read : Result (List X × ℕ) Fault) → with_front (front ++ x ∷ []) read ≡ with_front front (consed x read)
with_front-snoc front x (Ok read) = ap (λ xs. Ok (xs, read.1)) (append_assoc front (x ∷ []) read.0)
with_front-snoc front x (Err f) = refl

pub others-consed : {X : Type 0} → (x : X) (others : Result (List X × ℕ) Fault) → (others >>= (λ r. Ok (x ∷ r.0, r.1))) ≡ consed x others
others-consed x (Ok r) = refl
others-consed x (Err f) = refl

pub consed-times : {X : Type 0} → (read : Reader X) (n : ℕ) (s : Span) (x : X) (place : ℕ) → read s ≡ Ok (x, place) → times (suc n) read s ≡ consed x (times n read (at s place))
consed-times read n s x place e = rw e (others-consed x (times n read (at s place)))

-- One value more was read, of m that were wanted: what was read is the front, and n are still wanted.
pub times_next : {X : Type 0} → (read : Reader X) (m n : ℕ) (s : Span) (front : List X) (x : X) (place : ℕ) → m ≡ suc n → read s ≡ Ok (x, place)
    → with_front (front ++ x ∷ []) (times n read (at s place)) ≡ with_front front (times m read s)
times_next read m n s front x place more e =
    with_front-snoc front x (times n read (at s place))
    ∙ ap (with_front front) (sym (consed-times read n s x place e) ∙ ap (λ k. times k read s) (sym more))

-- a fault of one is the answer
pub times_fails : {X : Type 0} → (read : Reader X) (m n : ℕ) (s : Span) (front : List X) (f : Fault) → m ≡ suc n → read s ≡ Err f
    → with_front front (times m read s) ≡ Err f
times_fails read m n s front f more e = rw (more, e) refl

-- where none is wanted, what was read is the answer
pub times_done : {X : Type 0} → (read : Reader X) (m : ℕ) (s : Span) (front : List X) → m ≡ 0
    → with_front front (times m read s) ≡ Ok (front, s.place)
times_done read m s front none = rw none (ap (λ xs. Ok (xs, s.place)) (append-nil front))
