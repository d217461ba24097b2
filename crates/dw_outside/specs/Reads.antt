-- What one read of a source gives.
use Rattle.std.specs.Prelude.{◌≡◌, ℕ, ◌-◌, ◌<◌, ◌≤◌, List, length, take, drop, Option, IfSome}

-- `n` bytes at the front of the buffer, which are those of the file from `place` on; none of them
-- only at the end of the file, or where the buffer is empty
pub record ReadsFrom (file : Option (List ℕ)) (place n : ℕ) (buffer : List ℕ) : Type 0 where
  pub bound : n ≤ length buffer
  pub bytes : IfSome file (λ bytes. take n buffer ≡ take n (drop place bytes))
  pub inside : IfSome file (λ bytes. n ≤ length bytes - place)
  pub at_end : IfSome file (λ bytes. n ≡ 0 → 0 < length buffer → length bytes ≤ place)
