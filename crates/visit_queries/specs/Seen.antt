-- What a visitor has seen of a file, and what it reports.
use Rattle.std.specs.Prelude.{◌≡◌, ℕ, List, [], ◌∷◌, ◌++◌, Result, Ok, Err}
use Rattle.unit_headers.specs.declared.refusal.UnitRefusal.{UnitRefusal}
use Rattle.unit_headers.specs.declared.refusal.UnitRefusal.TheVariants as refusals
use Rattle.visit_queries.specs.declared.visitor.Turn.{Turn}
use Rattle.visit_queries.specs.declared.visitor.Turn.TheVariants.{More, Enough}
use Rattle.visit_queries.specs.declared.walk_stop.WalkStop.{WalkStop}
use Rattle.visit_queries.specs.declared.walk_stop.WalkStop.TheVariants.{Refused, OutOfMemory}
use Rattle.visit_queries.specs.Shown.{ShownEntry, RefusedUnit, Met, met_shown}

-- the state and the turn that an entry makes of a state
abbrev pub Step : Type 0
Step = ShownEntry → List ℕ → List ℕ × Turn

-- what is seen behind an entry: nothing more where the visitor has seen enough
abbrev pub behind_turn : List ℕ × Turn → (List ℕ → Result (List ℕ) RefusedUnit) → Result (List ℕ) RefusedUnit
behind_turn (state, More) others = others state
behind_turn (state, Enough) others = Ok state

-- What a visitor has seen: its state after its step was folded over what is met, up to and with the first entry that is
-- answered `Enough`, or over all. A refused unit that is met before ends it.
unfoldable pub seen_by : Step → List Met → List ℕ → Result (List ℕ) RefusedUnit
seen_by step [] state = Ok state
seen_by step (Ok entry ∷ others) state = behind_turn (step entry state) (seen_by step others)
seen_by step (Err refused ∷ others) state = Err refused

-- The same in other words: these entries are shown one after another, and each is answered `More`.
abbrev pub AllMore : Step → List ℕ → List ShownEntry → List ℕ → Type 0
AllMore step state [] last = state ≡ last
AllMore step state (e ∷ es) last =
    (next : List ℕ) × (step e state ≡ (next, More)) × AllMore step next es last

-- What ends them: nothing is left, the next entry is answered `Enough`, or the next unit is refused.
abbrev pub EndsSeeing : Step → List ℕ → List Met → Result (List ℕ) RefusedUnit → Type 0
EndsSeeing step last [] seen = seen ≡ Ok last
EndsSeeing step last (Ok e ∷ others) seen =
    (state : List ℕ) × (step e last ≡ (state, Enough)) × (seen ≡ Ok state)
EndsSeeing step last (Err refused ∷ others) seen = seen ≡ Err refused

pub record IsSeen (step : Step) (met : List Met) (state : List ℕ)
    (seen : Result (List ℕ) RefusedUnit) : Type 0 where
  pub entries : List ShownEntry
  pub others : List Met
  pub last : List ℕ
  pub met_is : met ≡ met_shown entries ++ others
  pub more : AllMore step state entries last
  pub end : EndsSeeing step last others seen

-- The meanings of a visitor.
pub record Meanings : Type 0 where
  pub state : List ℕ
  pub step : Step
  pub text : List ℕ → List ℕ

-- the report on what was seen
abbrev pub reported : (List ℕ → List ℕ) → Result (List ℕ) RefusedUnit → Result (List ℕ) RefusedUnit
reported text (Ok state) = Ok (text state)
reported text (Err refused) = Err refused

-- what a visitor reports on a file
unfoldable pub report_on : Meanings → List Met → Result (List ℕ) RefusedUnit
report_on v met = reported v.text (seen_by v.step met v.state)

-- a text that was appended, or a prefix of it
abbrev pub Reports : {E : Type 0} → Result (Unit {0}) E → List ℕ → List ℕ → List ℕ → Type 0
Reports (Ok u) old new text = new ≡ old ++ text
Reports (Err e) old new text =
    (part : List ℕ) × (rest : List ℕ) × (text ≡ part ++ rest) × (new ≡ old ++ part)

-- what a refusal in a unit makes of a walk
abbrev pub stop_in : ℕ → UnitRefusal → WalkStop
stop_in unit (refusals.Refused fault) = Refused unit fault
stop_in unit refusals.OutOfMemory = OutOfMemory

-- the refusal is that of the unit, or memory is wanting
abbrev pub Stops : WalkStop → Result (List ℕ) RefusedUnit → Type 0
Stops (Refused unit fault) seen = seen ≡ Err (record { unit = unit; fault = fault })
Stops OutOfMemory seen = Unit {0}

-- What the walk promises: the whole report; or what stopped it, with the text as it was.
abbrev pub Walks : Result (Unit {0}) WalkStop → List ℕ → List ℕ → Result (List ℕ) RefusedUnit → Type 0
Walks (Ok u) old new report = (text : List ℕ) × (report ≡ Ok text) × (new ≡ old ++ text)
Walks (Err stop) old new report = Stops stop report × (new ≡ old)

-- What showing a visitor these does to its state: whatever is met behind them, it goes on from the new state, or has seen
-- enough; or it was stopped.
abbrev pub Shows : Result Turn WalkStop → Step → List Met → List ℕ → List ℕ → Type 0
Shows (Ok turn) step met old new =
    (others : List Met) → seen_by step (met ++ others) old ≡ behind_turn (new, turn) (seen_by step others)
Shows (Err stop) step met old new = (others : List Met) → Stops stop (seen_by step (met ++ others) old)
