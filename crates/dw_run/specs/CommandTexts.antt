-- What a command writes on standard output, and the refusal that ends it, where there is one.
use Rattle.std.specs.Prelude.{◌≡◌, ℕ, zero, suc, ◌+◌, List, [], ◌++◌, Option, Some, None, Result, Ok, Err}
use Rattle.dw_fields.specs.declared.fault_code.Fault.{Fault}
use Rattle.dw_outside.specs.Gains.{Gains, GainsPart}
use Rattle.dw_run.specs.declared.refusals.Refusal.{Refusal}
use Rattle.dw_run.specs.declared.refusals.Refusal.TheVariants as refusals

pub record CommandText : Type 0 where
  pub text : List ℕ
  pub refusal : Option Refusal

-- a text, and no refusal
abbrev pub whole : List ℕ → CommandText
whole text = record { text = text; refusal = None }

-- a text, and what is printed behind it
abbrev pub before : List ℕ → CommandText → CommandText
before text printed = record { text = text ++ printed.text; refusal = printed.refusal }

-- one unit's text and what is printed of the units behind it, or its refusal alone
abbrev pub unit_printed : ℕ → Result (List ℕ) Fault → CommandText → CommandText
unit_printed unit (Ok text) others = before text others
unit_printed unit (Err fault) others = record { text = []; refusal = Some (refusals.Unit unit fault) }

-- the texts of so many units from one on, up to the first unit that has none; its refusal ends them
unfoldable pub units_printed : (ℕ → Result (List ℕ) Fault) → ℕ → ℕ → CommandText
units_printed text unit zero = whole []
units_printed text unit (suc n) = unit_printed unit (text unit) (units_printed text (unit + 1) n)

-- A sink took all of the text, and the refusal is the one that ends it; or the sink stopped within the text.
abbrev pub Prints : {E : Type 0} → Result (Option Refusal) E → CommandText → Option (List ℕ) → Option (List ℕ) → Type 0
Prints (Ok refusal) printed old new = (refusal ≡ printed.refusal) × Gains old new printed.text
Prints (Err stop) printed old new = GainsPart old new printed.text

-- A front of a text that was kept went out, and the rest is kept; or the sink stopped within it.
abbrev pub Sends : {E : Type 0} → Result (Unit {0}) E → List ℕ → List ℕ → Option (List ℕ) → Option (List ℕ) → Type 0
Sends (Ok u) kept rest old new = (sent : List ℕ) × (kept ≡ sent ++ rest) × Gains old new sent
Sends (Err stop) kept rest old new = GainsPart old new kept
