-- What a call that appends a text promises.
use Rattle.std.specs.Prelude.{◌≡◌, ℕ, List, ◌++◌, Result, Ok, Err}

-- A word, and a text behind it. It is opaque, so that a word of many letters stays one word in goals.
unfoldable pub labelled : List ℕ → List ℕ → List ℕ
labelled word text = word ++ text

-- The text was appended whole; after want of memory some part of a text was.
abbrev pub Adds : {E : Type 0} → Result (Unit {0}) E → List ℕ → List ℕ → List ℕ → Type 0
Adds (Ok u) old new text = new ≡ old ++ text
Adds (Err e) old new text = (part : List ℕ) × (new ≡ old ++ part)
