-- A find and an insert as calls of a list.
use Rattle.std.specs.Prelude.{ℕ, Result, Ok, Err}
use Rattle.map_core.specs.Calls.{Call, places, meets, is_full}
use Rattle.share_map.specs.declared.answers.Full.{Full}
use Rattle.share_map.specs.declared.answers.Kept.{Kept}
use Rattle.share_map.specs.declared.answers.Kept.TheVariants.{Placed, Found}

abbrev pub insert_call : ℕ → ℕ → Result Kept Full → Call
insert_call key value (Ok Placed) = places key value
insert_call key value (Ok (Found x)) = meets key x
insert_call key value (Err e) = is_full key

-- how many entries an insert with this answer has placed
abbrev pub placed_count : Result Kept Full → ℕ
placed_count (Ok Placed) = 1
placed_count (Ok (Found x)) = 0
placed_count (Err e) = 0
