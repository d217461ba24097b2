-- Where `clap`'s walk over the words may stand.
use Rattle.std.proofs.Common.{Bool, true, false, List, [], ◌∷◌, Option, Some, None, codes}
use Rattle.clap.specs.Kinds.{Kinds}
use Rattle.clap.specs.Faults.{settle_fault}
use Rattle.clap.specs.Simple.{Shape, built}
use Rattle.clap.specs.Walk.{Row, Text, Waiting, Walk, idle, option, positional, settled_rows}
use Rattle.dw_words.specs.Parser.{words_app}

-- the command as it is built
unfoldable pub top : Shape
top = (built words_app).top

-- nothing waits for a value
abbrev pub free : Bool → Waiting
free true = positional
free false = idle

-- `--workers` waits for one
abbrev pub waits : Waiting
waits = option (codes "workers")

abbrev pub asked : Option (Text × List Text)
asked = Some (codes "workers", [])

-- before `--`
unfoldable pub before : Option (Text × List Text) → Waiting → List Row → Walk
before p w rows = record { held = record { rows = rows; pending = p; skip = 0 }; waiting = w; position = 1; is_trailing = false; stopped = None }

-- behind it
unfoldable pub behind : Option (Text × List Text) → Waiting → List Row → Walk
behind p w rows = record { held = record { rows = rows; pending = p; skip = 0 }; waiting = w; position = 1; is_trailing = true; stopped = None }

-- what comes of the argument that is pending
unfoldable pub pending_fault : Option (Text × List Text) → List Row → Kinds
pending_fault p rows = settle_fault top.rules false (record { rows = rows; pending = p; skip = 0 })

unfoldable pub settled_to : Option (Text × List Text) → List Row → List Row
settled_to p rows = settled_rows top.rules p rows

abbrev pub Fails : Kinds → Type 0
Fails [] = ⊥
Fails (k ∷ kinds) = Unit {0}
