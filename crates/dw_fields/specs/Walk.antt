-- A reader with a state, again and again up to the end.
use Rattle.std.specs.Prelude.{◌≡◌, ◌<◌, ◌≤◌, ℕ, zero, suc, nat_le, if◌then◌else◌, List, [], ◌++◌, Result, Ok, Err, refl}
use Rattle.std.proofs.Common.{append_assoc, append-nil, ap, ◌∙◌, sym, le-leb}
use Rattle.std.proofs.lemmas.Bool.{lt-leb}
use Rattle.dw_fields.specs.declared.fault_code.Fault.{Fault}
use Rattle.dw_fields.specs.Span.{Span, at}
use Rattle.dw_fields.specs.Reading.{Reader, ◌>>=◌}

-- From a state, up to the end or so many times: each turn gives a next state and a list, and the
-- answer is the lists in a row, or the first fault.
unfoldable pub walk : {A S : Type 0} → (S → Reader (S × List A)) → ℕ → S → Span → Result (List A) Fault
walk next zero state s = Ok []
walk next (suc n) state s =
    if nat_le s.end s.place then Ok [] else (do
      found ← next state s
      others ← walk next n found.0.0 (at s found.1)
      Ok (found.0.1 ++ others))

-- what was walked so far, in front of the rest of the walk
abbrev pub ahead : {A : Type 0} → List A → Result (List A) Fault → Result (List A) Fault
ahead front (Ok rest) = Ok (front ++ rest)
ahead front (Err f) = Err f

pub ahead-append : {A : Type 0} → (front more : List A) (rest : Result (List A) Fault) → ahead (front ++ more) rest ≡ ahead front (ahead more rest)
ahead-append front more (Ok rest) = ap (λ xs. Ok xs) (append_assoc front more rest)
ahead-append front more (Err f) = refl

pub others-ahead : {A : Type 0} → (more : List A) (others : Result (List A) Fault) → (others >>= (λ rest. Ok (more ++ rest))) ≡ ahead more others
others-ahead more (Ok rest) = refl
others-ahead more (Err f) = refl

-- One turn more was made, of m that may be made: what it gave is the front.
pub walk_next : {A S : Type 0} → (next : S → Reader (S × List A)) (m n : ℕ) (state after : S) (s : Span) (front more : List A) (place : ℕ)
    → m ≡ suc n → s.place < s.end → next state s ≡ Ok ((after, more), place)
    → ahead (front ++ more) (walk next n after (at s place)) ≡ ahead front (walk next m state s)
unfolding walk
walk_next next m n state after s front more place fuel inside e =
    ahead-append front more (walk next n after (at s place))
    ∙ ap (ahead front) (rw (fuel, lt-leb s.end s.place inside, e) (sym (others-ahead more (walk next n after (at s place)))))

-- a fault of a turn is the answer
pub walk_fails : {A S : Type 0} → (next : S → Reader (S × List A)) (m n : ℕ) (state : S) (s : Span) (front : List A) (f : Fault)
    → m ≡ suc n → s.place < s.end → next state s ≡ Err f
    → ahead front (walk next m state s) ≡ Err f
unfolding walk
walk_fails next m n state s front f fuel inside e = rw (fuel, lt-leb s.end s.place inside, e) refl

-- at the end what was given is the answer
pub walk_ends : {A S : Type 0} → (next : S → Reader (S × List A)) (m : ℕ) (state : S) (s : Span) (front : List A)
    → s.end ≤ s.place → ahead front (walk next m state s) ≡ Ok front
unfolding walk
walk_ends next zero state s front past = ap (λ xs. Ok xs) (append-nil front)
walk_ends next (suc m) state s front past = rw (le-leb s.end s.place past) (ap (λ xs. Ok xs) (append-nil front))

-- so it is where no turn is left
pub walk_stops : {A S : Type 0} → (next : S → Reader (S × List A)) (m : ℕ) (state : S) (s : Span) (front : List A)
    → m ≡ 0 → ahead front (walk next m state s) ≡ Ok front
unfolding walk
walk_stops next m state s front none = rw none (ap (λ xs. Ok xs) (append-nil front))
