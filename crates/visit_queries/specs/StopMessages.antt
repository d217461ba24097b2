-- The words in which the end of a walk shows itself to a program's user.
use Rattle.std.specs.Prelude.{ℕ, List, ◌++◌, codes}
use Rattle.std.specs.Fmt.{decimal}
use Rattle.dw_fields.specs.FaultMessages.{fault_message}
use Rattle.visit_queries.specs.declared.walk_stop.WalkStop.{WalkStop}
use Rattle.visit_queries.specs.declared.walk_stop.WalkStop.TheVariants.{Refused, OutOfMemory}

abbrev pub stop_message : WalkStop → List ℕ
stop_message (Refused unit fault) = codes "unit " ++ decimal unit ++ codes ": " ++ fault_message fault
stop_message OutOfMemory = codes "out of memory"
