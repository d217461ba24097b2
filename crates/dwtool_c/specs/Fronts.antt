-- Texts that go into a buffer piece by piece.
use Rattle.std.specs.Prelude.{◌≡◌, ℕ, List, ◌++◌, length, take, Option, option_map, Result, Ok, Err}
use Rattle.dw_run.specs.CommandTexts.{CommandText}
use Rattle.dwtool_c.specs.declared.front.Put.{Put}
use Rattle.dwtool_c.specs.declared.refusal.DwtoolRefusal.{DwtoolRefusal}
use Rattle.dwtool_c.specs.Answers.{fitted}
use Rattle.dwtool_c.specs.Refusals.{refusal_row}

-- so much of a text was put into a buffer that had this
pub record IsFront (original text now : List ℕ) (size : ℕ) : Type 0 where
  pub fits : now ≡ fitted text original
  pub whole : size ≡ length text

-- these bytes were put behind the text; or there is no memory, and the buffer is as it was
abbrev pub PutsBehind : {E : Type 0} → Result ℕ E → List ℕ → List ℕ → List ℕ → ℕ → Type 0
PutsBehind (Ok end) bytes old new size = (original text : List ℕ) → IsFront original text old size → IsFront original (text ++ bytes) new end
PutsBehind (Err e) bytes old new size = new ≡ old

-- a text was put into a buffer whole, and this refusal ends it; or the buffer is as it was
abbrev pub PutsWhole : {E : Type 0} → Result Put E → List ℕ → Option DwtoolRefusal → List ℕ → List ℕ → Type 0
PutsWhole (Ok put) text refusal old new = IsFront old text new put.size × (put.refusal ≡ refusal)
PutsWhole (Err e) text refusal old new = new ≡ old

-- the text of a command was put into a buffer, up to its end or up to where memory was wanting
abbrev pub PutsText : {E : Type 0} → Result Put E → CommandText → List ℕ → List ℕ → Type 0
PutsText (Ok put) printed old new = IsFront old printed.text new put.size × (put.refusal ≡ option_map refusal_row printed.refusal)
PutsText (Err e) printed old new = (part : ℕ) × (new ≡ fitted (take part printed.text) old)
