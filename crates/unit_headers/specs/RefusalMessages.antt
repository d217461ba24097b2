-- The words in which a refusal shows itself to a program's user.
use Rattle.std.specs.Prelude.{ℕ, List, codes}
use Rattle.dw_fields.specs.FaultMessages.{fault_message}
use Rattle.unit_headers.specs.declared.refusal.UnitRefusal.{UnitRefusal}
use Rattle.unit_headers.specs.declared.refusal.UnitRefusal.TheVariants.{Refused, OutOfMemory}

abbrev pub refusal_message : UnitRefusal → List ℕ
refusal_message (Refused f) = fault_message f
refusal_message OutOfMemory = codes "out of memory"
