-- The words in which a read or a write that gave nothing shows itself to a program's user.
use Rattle.std.specs.Prelude.{ℕ, List, codes}
use Rattle.dw_outside.specs.declared.stops.ReadStop.{ReadStop}
use Rattle.dw_outside.specs.declared.stops.ReadStop.TheVariants as read_stops
use Rattle.dw_outside.specs.declared.stops.WriteStop.{WriteStop}
use Rattle.dw_outside.specs.declared.stops.WriteStop.TheVariants as write_stops

abbrev pub read_message : ReadStop → List ℕ
read_message read_stops.Failed = codes "the file could not be read"
read_message read_stops.OutOfMemory = codes "out of memory"

abbrev pub write_message : WriteStop → List ℕ
write_message write_stops.Failed = codes "the bytes could not be written"
write_message write_stops.OutOfMemory = codes "out of memory"
