-- The first refusal among several, and answers that may want memory.
use Rattle.std.specs.Prelude.{◌≡◌, ℕ, ◌+◌, Bool, if◌then◌else◌, List, [], ◌∷◌, Option, Some, None, Result, Ok, Err}
use Rattle.elf_sections.specs.declared.refusals.ElfRefusal.{ElfRefusal}
use Rattle.elf_sections.specs.declared.refusals.OpenRefusal.{OpenRefusal}
use Rattle.elf_sections.specs.declared.refusals.OpenRefusal.TheVariants.{Refused, OutOfMemory}

-- the refusal of that number, if there is one
abbrev pub refuse_at : (ℕ → ElfRefusal) → Option ℕ → Result (Unit {0}) ElfRefusal
refuse_at refusal None = Ok tt
refuse_at refusal (Some number) = Err (refusal number)

-- the number of the first that passes the test, where the numbers begin at `from`
abbrev pub first_in : {X : Type 0} → (X → Bool) → ℕ → List X → Option ℕ
first_in test from [] = None
first_in test from (x ∷ xs) = if test x then Some from else first_in test (from + 1) xs

-- An answer gives what is defined, or the defined refusal, or there was no memory.
abbrev pub Fails : {X : Type 0} → OpenRefusal → Result X ElfRefusal → Type 0
Fails (Refused refusal) defined = defined ≡ Err refusal
Fails OutOfMemory defined = Unit {0}

abbrev pub Opens : {X Y : Type 0} → (X → Y) → Result X OpenRefusal → Result Y ElfRefusal → Type 0
Opens view (Ok x) defined = defined ≡ Ok (view x)
Opens view (Err e) defined = Fails e defined
