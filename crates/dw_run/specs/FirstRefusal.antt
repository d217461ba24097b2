-- What is printed of units in the words of the format: the texts of the units before the first refused one, and its
-- refusal.
use Rattle.std.specs.Prelude.{◌≡◌, ℕ, ◌<◌, ◌≤◌, List, map, Option, Some, None, Result, Ok, Err}
use Rattle.std.specs.List.{concat, range_with_len}
use Rattle.dw_fields.specs.declared.fault_code.Fault.{Fault}
use Rattle.dw_run.specs.declared.refusals.Refusal.{Refusal}
use Rattle.dw_run.specs.declared.refusals.Refusal.TheVariants as refusals
use Rattle.dw_run.specs.CommandTexts.{CommandText}

-- What ends the texts of units: no unit is left, so the next number is the count of all; or the next unit is refused, and
-- it is what the command ends with, by its refusal.
abbrev pub EndsAt : (ℕ → Result (List ℕ) Fault) → ℕ → ℕ → Option Refusal → Type 0
EndsAt text all next None = next ≡ all
EndsAt text all next (Some refusal) = (next < all) × (fault : Fault) × (text next ≡ Err fault) × (refusal ≡ refusals.Unit next fault)

-- Of the units 0 to `all` - 1, each of which has a text or a refusal, the units below `next` have a text, and what is printed
-- is these texts in the units' order. Behind them no unit is left, or `next` is refused: the first one that is.
pub record TextsBeforeRefusal (text : ℕ → Result (List ℕ) Fault) (all : ℕ) (printed : CommandText) : Type 0 where
  pub next : ℕ
  pub texts : List (List ℕ)
  pub within : next ≤ all
  pub have : map text (range_with_len 0 next) ≡ map (λ t. Ok t) texts
  pub joined : printed.text ≡ concat texts
  pub ends : EndsAt text all next printed.refusal
