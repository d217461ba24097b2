-- Texts whose making may be refused: the text, or the first refusal in the order of the text.
use Rattle.std.specs.Prelude.{◌≡◌, ℕ, List, [], ◌∷◌, ◌++◌, Result, Ok, Err}
use Rattle.dw_fields.specs.declared.fault_code.Fault.{Fault}
use Rattle.unit_headers.specs.declared.refusal.UnitRefusal.{UnitRefusal}
use Rattle.unit_headers.specs.declared.refusal.UnitRefusal.TheVariants.{Refused, OutOfMemory}

-- a text, or the refusal that was met in making it
abbrev pub Text : Type 0
Text = Result (List ℕ) Fault

-- one text behind another; the first refusal is that of both
unfoldable pub joined : Text → Text → Text
joined (Ok a) (Ok b) = Ok (a ++ b)
joined (Ok a) (Err f) = Err f
joined (Err f) b = Err f

-- the texts of a list's items, one behind the other
unfoldable pub texts_of : {X : Type 0} → (X → Text) → List X → Text
texts_of text [] = Ok []
texts_of text (x ∷ xs) = joined (text x) (texts_of text xs)

-- the text was appended, and so it was not refused
abbrev pub Gained : List ℕ → List ℕ → Text → Type 0
Gained old new (Ok text) = new ≡ old ++ text
Gained old new (Err f) = ⊥

-- the refusal is that of the text, or memory is wanting
abbrev pub Stopped : UnitRefusal → Text → Type 0
Stopped (Refused f) text = text ≡ Err f
Stopped OutOfMemory text = Unit {0}

-- What a call inside promises: the whole text, or the refusal with some part of a text appended.
abbrev pub Puts : Result (Unit {0}) UnitRefusal → List ℕ → List ℕ → Text → Type 0
Puts (Ok u) old new text = Gained old new text
Puts (Err e) old new text = Stopped e text × (part : List ℕ) × (new ≡ old ++ part)

-- What a public call promises: the whole text, or the refusal with the list as it was.
abbrev pub Writes : Result (Unit {0}) UnitRefusal → List ℕ → List ℕ → Text → Type 0
Writes (Ok u) old new text = Gained old new text
Writes (Err e) old new text = Stopped e text × (new ≡ old)
