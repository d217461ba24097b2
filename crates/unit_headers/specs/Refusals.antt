-- Answers of readers that may also want memory, which says nothing of the bytes.
use Rattle.std.specs.Prelude.{◌≡◌, Result, Ok, Err}
use Rattle.dw_fields.specs.declared.fault_code.Fault.{Fault}
use Rattle.dw_fields.specs.Span.{Span, at}
use Rattle.dw_fields.specs.Reading.{Reader}
use Rattle.unit_headers.specs.declared.refusal.UnitRefusal.{UnitRefusal}
use Rattle.unit_headers.specs.declared.refusal.UnitRefusal.TheVariants.{Refused, OutOfMemory}

-- a refusal is the one of the definition; want of memory may come at any time
abbrev pub Refuses : {X : Type 0} → UnitRefusal → Result X Fault → Type 0
Refuses (Refused f) read = read ≡ Err f
Refuses OutOfMemory read = Unit {0}

-- the answer of a call is the definition's, seen by `view`
abbrev pub Answers : {X Y : Type 0} → (X → Y) → Result X UnitRefusal → Result Y Fault → Type 0
Answers view (Ok x) read = read ≡ Ok (view x)
Answers view (Err e) read = Refuses e read

-- the same for a reader that moves a cut; after a refusal nothing is said of the cut
abbrev pub AnswersAt : {X Y : Type 0} → (X → Y) → Result X UnitRefusal → Reader Y
    → Span → Span → Type 0
AnswersAt view (Ok x) read old new = (read old ≡ Ok (view x, new.place)) × (new ≡ at old new.place)
AnswersAt view (Err e) read old new = Refuses e (read old)
