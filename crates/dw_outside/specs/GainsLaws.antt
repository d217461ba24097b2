-- How gains of a sink go together.
use Rattle.std.specs.Prelude.{ℕ, ◌+◌, List, [], ◌++◌, length, take, drop, min, Option, Some, None}
use Rattle.std.proofs.Common.{sym, ◌∙◌, append_assoc, arith, ◌≤◌}
use Rattle.std.proofs.lemmas.List.{append-nil, take_min, take-append-le}
use Rattle.std.proofs.Math.Seq.{take-add, take-append-add, take-length}
use Rattle.dw_outside.specs.Gains.{Gains, GainsPart}

-- a sink that stays as it is gains nothing
pub Gains-nothing : (held : Option (List ℕ)) → Gains held held []
Gains-nothing None = tt
Gains-nothing (Some held) = sym (append-nil held)

-- first these bytes, then those
pub Gains-then : (old mid new : Option (List ℕ)) (x y : List ℕ) → Gains old mid x → Gains mid new y → Gains old new (x ++ y)
Gains-then None mid new x y p q = tt
Gains-then (Some old) None new x y p q = absurd p
Gains-then (Some old) (Some mid) None x y p q = absurd q
Gains-then (Some old) (Some mid) (Some new) x y p q = rw (q, p) (append_assoc old x y)

-- these bytes, then nothing
pub Gains-stop : (old mid new : Option (List ℕ)) (x : List ℕ) → Gains old mid x → Gains mid new [] → Gains old new x
Gains-stop None mid new x p q = tt
Gains-stop (Some old) None new x p q = absurd p
Gains-stop (Some old) (Some mid) None x p q = absurd q
Gains-stop (Some old) (Some mid) (Some new) x p q = q ∙ append-nil mid ∙ p

-- the first bytes, then some of the others
pub Gains-more : (old mid new : Option (List ℕ)) (bytes : List ℕ) (d n : ℕ) → Gains old mid (take d bytes) → Gains mid new (take n (drop d bytes)) → Gains old new (take (d + n) bytes)
Gains-more old mid new bytes d n p q = rw (take-add d n bytes) (Gains-then old mid new _ _ p q)

-- a whole is a part of itself
pub GainsPart-whole : (old new : Option (List ℕ)) (x : List ℕ) → Gains old new x → GainsPart old new x
GainsPart-whole old new x p = (length x, rw (take-length x) p)

-- nothing is a part of all
pub GainsPart-nothing : (old new : Option (List ℕ)) (x : List ℕ) → Gains old new [] → GainsPart old new x
GainsPart-nothing old new x p = (0, p)

-- first these bytes, then a part of those
pub GainsPart-then : (old mid new : Option (List ℕ)) (x y : List ℕ) → Gains old mid x → GainsPart mid new y → GainsPart old new (x ++ y)
GainsPart-then old mid new x y p q = (length x + q.0, rw (take-append-add x y q.0) (Gains-then old mid new x _ p q.1))

-- a part of these bytes is a part of more
pub GainsPart-more : (old new : Option (List ℕ)) (x y : List ℕ) → GainsPart old new x → GainsPart old new (x ++ y)
GainsPart-more old new x y p =
    let n = min p.0 (length x) in
    let low : n ≤ length x = omega arith in
    (n, rw (take-append-le n x y low, take_min p.0 x) p.1)
