-- What each export leaves: a status, the front of what it tells that fits the caller's buffer, how much it tells in all,
-- and the refusal.
use Rattle.std.specs.Prelude.{◌≡◌, ◌⊎◌, ℕ, nat_lt, if◌then◌else◌, List, [], ◌++◌, length, take, drop, Result, Ok, Err}
use Rattle.dw_fields.specs.declared.fault_code.Fault.{Fault}
use Rattle.elf_sections.specs.declared.refusals.ElfRefusal.{ElfRefusal}
use Rattle.elf_sections.specs.Rows.{ElfView}
use Rattle.elf_sections.specs.Shapes.{SectionsView}
use Rattle.unit_headers.specs.Headers.{unit_count}
use Rattle.dwtool_c.specs.declared.answers.TheConstants.{DONE, REFUSED, NONE_SUCH, NO_MEMORY}
use Rattle.dwtool_c.specs.declared.refusal.DwtoolRefusal.{DwtoolRefusal}
use Rattle.dwtool_c.specs.Refusals.{no_refusal, file_refusal, unit_refusal}

-- what a call tells: bytes of a text, or rows
pub record Answer (A : Type 0) : Type 0 where
  pub status : ℕ
  pub items : List A
  pub refusal : DwtoolRefusal

-- all of it
abbrev pub done : {A : Type 0} → List A → Answer A
done items = record { status = DONE; items = items; refusal = no_refusal }

-- what stands before a refusal, and the refusal
abbrev pub refused_behind : {A : Type 0} → List A → DwtoolRefusal → Answer A
refused_behind items r = record { status = REFUSED; items = items; refusal = r }

abbrev pub refused : {A : Type 0} → DwtoolRefusal → Answer A
refused r = refused_behind [] r

-- there is no unit, section or command of this number
abbrev pub none_such : {A : Type 0} → Answer A
none_such = record { status = NONE_SUCH; items = []; refusal = no_refusal }

-- memory was wanting
abbrev pub no_memory : {A : Type 0} → Answer A
no_memory = record { status = NO_MEMORY; items = []; refusal = no_refusal }

-- what is to be handed out is this answer
pub record IsTold {A : Type 0} (answer : Answer A) (status : ℕ) (items : List A) (refusal : DwtoolRefusal) : Type 0 where
  pub status_is : status ≡ answer.status
  pub items_are : items ≡ answer.items
  pub why : refusal ≡ answer.refusal

-- what a buffer holds behind a call: the front of the items that fits, and behind them what stood there
abbrev pub fitted : {A : Type 0} → List A → List A → List A
fitted items old = take (length old) items ++ drop (length items) old

-- The call answered this: the status, the front that fits the buffer, the length of the whole, and the refusal.
pub record Meets {A : Type 0} (answer : Answer A) (status : ℕ) (old new : List A) (size : ℕ) (refusal : DwtoolRefusal) : Type 0 where
  pub status_is : status ≡ answer.status
  pub front : new ≡ fitted answer.items old
  pub whole : size ≡ length answer.items
  pub why : refusal ≡ answer.refusal

-- The call answered this, or it wanted memory, and the buffer is as it was.
abbrev pub Ends : {A : Type 0} → Answer A → ℕ → List A → List A → ℕ → DwtoolRefusal → Type 0
Ends answer status old new size refusal =
    Meets answer status old new size refusal ⊎ Meets no_memory status old new size refusal

-- A call that fills the buffer as it goes wanted memory: the buffer has the front of some of the items.
pub record StopsWithin {A : Type 0} (items : List A) (status : ℕ) (old new : List A) (size : ℕ) (refusal : DwtoolRefusal) : Type 0 where
  pub status_is : status ≡ NO_MEMORY
  pub part : ℕ
  pub front : new ≡ fitted (take part items) old
  pub whole : size ≡ 0
  pub why : refusal ≡ no_refusal

-- Such a call answered this, or it wanted memory on its way.
abbrev pub EndsWithin : {A : Type 0} → Answer A → ℕ → List A → List A → ℕ → DwtoolRefusal → Type 0
EndsWithin answer status old new size refusal =
    Meets answer status old new size refusal ⊎ StopsWithin answer.items status old new size refusal

-- The same of a call with two buffers, the second of which gets the items of another answer.
pub record MeetsBoth {A B : Type 0} (one : Answer A) (two : Answer B) (status : ℕ)
    (old_one new_one : List A) (size_one : ℕ) (old_two new_two : List B) (size_two : ℕ) (refusal : DwtoolRefusal) : Type 0 where
  pub first : Meets one status old_one new_one size_one refusal
  pub front : new_two ≡ fitted two.items old_two
  pub whole : size_two ≡ length two.items

abbrev pub EndsBoth : {A B : Type 0} → Answer A → Answer B → ℕ → List A → List A → ℕ → List B → List B → ℕ → DwtoolRefusal → Type 0
EndsBoth one two status old_one new_one size_one old_two new_two size_two refusal =
    MeetsBoth one two status old_one new_one size_one old_two new_two size_two refusal
    ⊎ MeetsBoth no_memory no_memory status old_one new_one size_one old_two new_two size_two refusal

-- what is told of a file's sections, or the refusal of its section table
abbrev pub on_elf : {A : Type 0} → (ElfView → Answer A) → Result ElfView ElfRefusal → Answer A
on_elf tell (Ok elf) = tell elf
on_elf tell (Err r) = refused (file_refusal r)

-- what is told of a unit, or its refusal
abbrev pub on_unit : {A : Type 0} → ℕ → Result (List A) Fault → Answer A
on_unit unit (Ok items) = done items
on_unit unit (Err f) = refused (unit_refusal unit f)

-- what is told of the unit of this number, if there is one
abbrev pub on_unit_numbered : {A : Type 0} → (SectionsView → ℕ → Result (List A) Fault) → ℕ → SectionsView → Answer A
on_unit_numbered read unit s =
    if nat_lt unit (unit_count s.info s.order) then on_unit unit (read s unit) else none_such
