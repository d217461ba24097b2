-- How the rows of units, one after another, make up what is told of all of them.
use Rattle.std.proofs.Common.{◌≡◌, ℕ, suc, ◌+◌, List, [], ◌∷◌, ◌++◌, Result, Ok, Err, sym, ap, append_assoc}
use Rattle.std.proofs.lemmas.List.{append-nil}
use Rattle.dw_fields.specs.declared.fault_code.Fault.{Fault}
use Rattle.unit_headers.specs.declared.header.UnitHeader.{UnitHeader}
use Rattle.dwtool_c.specs.declared.refusal.DwtoolRefusal.{DwtoolRefusal}
use Rattle.dwtool_c.specs.declared.units.DwtoolUnit.{DwtoolUnit}
use Rattle.dwtool_c.specs.Answers.{Answer, IsTold, done, refused_behind}
use Rattle.dwtool_c.specs.Refusals.{unit_refusal}
use Rattle.dwtool_c.specs.Units.{unit_row, units_told}

-- rows, and what is told behind them
abbrev pub ahead : List DwtoolUnit → Answer DwtoolUnit → Answer DwtoolUnit
ahead rows a = record { status = a.status; items = rows ++ a.items; refusal = a.refusal }

-- the next unit has a row
pub rows_next : (header : ℕ → Result UnitHeader Fault) (unit m n : ℕ) (old new : List DwtoolUnit) (h : UnitHeader)
    → m ≡ suc n → header unit ≡ Ok h → new ≡ old ++ unit_row h ∷ []
    → ahead old (units_told header unit m) ≡ ahead new (units_told header (unit + 1) n)
unfolding units_told
rows_next header unit m n old new h fuel is added =
    rw (fuel, is, added) (ap (λ items. record { status = (units_told header (unit + 1) n).status; items = items; refusal = (units_told header (unit + 1) n).refusal })
    (sym (append_assoc old (unit_row h ∷ []) (units_told header (unit + 1) n).items)))

-- the next unit is refused
pub rows_refused : (header : ℕ → Result UnitHeader Fault) (unit m n : ℕ) (rows : List DwtoolUnit) (f : Fault)
    → m ≡ suc n → header unit ≡ Err f → ahead rows (units_told header unit m) ≡ refused_behind rows (unit_refusal unit f)
unfolding units_told
rows_refused header unit m n rows f fuel is = rw (fuel, is) (ap (λ items. refused_behind items (unit_refusal unit f)) (append-nil rows))

-- no unit is left
pub rows_done : (header : ℕ → Result UnitHeader Fault) (unit m : ℕ) (rows : List DwtoolUnit)
    → m ≡ 0 → ahead rows (units_told header unit m) ≡ done rows
unfolding units_told
rows_done header unit m rows none = rw none (ap (λ items. done items) (append-nil rows))

-- what is to be handed out is an equal answer
pub told_same : {A : Type 0} (a b : Answer A) (status : ℕ) (items : List A) (refusal : DwtoolRefusal) → a ≡ b → IsTold b status items refusal → IsTold a status items refusal
told_same a b status items refusal same told = rw same told
