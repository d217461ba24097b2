-- One more piece of a file.
use Rattle.std.proofs.Common.{◌≡◌, ℕ, ◌+◌, ◌-◌, List, ◌++◌, length, take, drop, Option, Some, None, IfSome, ◌∙◌, ap, arith, length-append, length-drop}
use Rattle.std.proofs.lemmas.List.{length-take-le, take_all, take-append-le}
use Rattle.std.proofs.Math.Seq.{take-add}
use Rattle.dw_outside.specs.Reads.{ReadsFrom}

-- the list is the front of the file, where that is told
abbrev pub IsFront : Option (List ℕ) → List ℕ → Type 0
IsFront file list = IfSome file (λ bytes. list ≡ take (length list) bytes)

-- the front grows by what was read behind it
pub IsFront-more : (file asked : Option (List ℕ)) (list more buffer spare : List ℕ) (place n : ℕ) → IsFront file list → asked ≡ file → place ≡ length list → ReadsFrom asked place n buffer → more ≡ list ++ take n (buffer ++ spare) → IsFront file more
IsFront-more file asked list more buffer spare place n front same here reads grown =
    rw (grown, take-append-le n buffer spare reads.bound) (grows file list buffer n front (rw (same, here) at reads))
  where
    grows : (file : Option (List ℕ)) (list buffer : List ℕ) (n : ℕ) → IsFront file list → ReadsFrom file (length list) n buffer → IsFront file (list ++ take n buffer)
    grows None list buffer n front reads = tt
    grows (Some bytes) list buffer n front reads =
        let size : length (list ++ take n buffer) ≡ length list + n = length-append list (take n buffer) ∙ ap (λ k. length list + k) (length-take-le n buffer reads.bound) in
        rw (size, take-add (length list) n bytes) (ap (λ t. t ++ take n buffer) front ∙ ap (λ t. take (length list) bytes ++ t) reads.bytes)

-- the bytes that aren't written yet
pub rest_of : (d : ℕ) (bytes : List ℕ) → take (length bytes - d) (drop d bytes) ≡ drop d bytes
rest_of d bytes = take_all (length bytes - d) (drop d bytes) (rw (length-drop d bytes) (omega arith))
