-- How what is met in a unit, and then in the units behind it, is seen.
use Rattle.std.specs.Prelude.{◌≡◌, refl, ℕ, suc, ◌+◌, ◌-◌, List, [], ◌++◌, Ok, Err}
use Rattle.std.specs.List.{flat_map, range_with_len}
use Rattle.std.proofs.Common.{sym, ap, subst, ◌∙◌, append_assoc}
use Rattle.std.proofs.Math.Nat.{sub-zero}
use Rattle.elf_sections.specs.Shapes.{SectionsView}
use Rattle.unit_headers.specs.Headers.{unit_count}
use Rattle.unit_headers.specs.Units.{Units}
use Rattle.unit_headers.specs.Refusals.{Refuses}
use Rattle.unit_headers.specs.declared.refusal.UnitRefusal.{UnitRefusal}
use Rattle.unit_headers.specs.declared.refusal.UnitRefusal.TheVariants as refusals
use Rattle.entry_tree.specs.Units.{units_of}
use Rattle.visit_queries.specs.declared.visitor.Turn.{Turn}
use Rattle.visit_queries.specs.declared.visitor.Turn.TheVariants.{More, Enough}
use Rattle.visit_queries.specs.declared.walk_stop.WalkStop.{WalkStop}
use Rattle.visit_queries.specs.Shown.{ShownEntry, Met, met_in, met_in_unit, unit_entries}
use Rattle.visit_queries.specs.Seen.{Step, seen_by, Shows, Stops, behind_turn, stop_in}

-- what is met in n units from one on
abbrev pub met_from : SectionsView → ℕ → ℕ → List Met
met_from s unit n = flat_map (met_in_unit s) (range_with_len unit n)

pub met_first : (s : SectionsView) (unit m n : ℕ) → m ≡ suc n → met_from s unit m ≡ met_in_unit s unit ++ met_from s (unit + 1) n
met_first s unit m n fuel = rw fuel refl

pub met_none : (s : SectionsView) (unit m : ℕ) → m ≡ 0 → met_from s unit m ≡ []
met_none s unit m none = rw none refl

-- a visitor that makes the same steps sees the same
seen_same : (f g : Step) (met : List Met) (state : List ℕ) → ((e : ShownEntry) (s : List ℕ) → f e s ≡ g e s) → seen_by f met state ≡ seen_by g met state
seen_same f g met state same = ap (λ k. seen_by k met state) (λ i e s. same e s i)

-- a refused unit stops what is seen
pub unit_refused : (step : Step) (s : SectionsView) (unit : ℕ) (refusal : UnitRefusal) (state : List ℕ) → Refuses refusal (unit_entries s unit)
    → (others : List Met) → Stops (stop_in unit refusal) (seen_by step (met_in_unit s unit ++ others) state)
unfolding seen_by
unit_refused step s unit (refusals.Refused fault) state refused others = rw refused refl
unit_refused step s unit refusals.OutOfMemory state refused others = tt

-- What is left goes on from a state as all of it does from the first one.
abbrev pub GoesOn : Step → List Met → List Met → List ℕ → List ℕ → Type 0
GoesOn step left all state first = (others : List Met) → seen_by step (left ++ others) state ≡ seen_by step (all ++ others) first

module _ (step now : Step) (same : (e : ShownEntry) (s : List ℕ) → now e s ≡ step e s) (here rest left all : List Met) (joined : left ≡ here ++ rest)
    (state after first : List ℕ) (on : GoesOn step left all state first) where
  -- what is met here comes first
  here_first : (others : List Met) → seen_by now (here ++ (rest ++ others)) state ≡ seen_by step (all ++ others) first
  here_first others =
      seen_same now step (here ++ (rest ++ others)) state same
      ∙ ap (λ met. seen_by step met state) (sym (append_assoc here rest others) ∙ ap (λ met. met ++ others) (sym joined))
      ∙ on others

  -- it was seen, and it is not enough
  pub shown_more : (turn : Turn) → turn ≡ More → Shows (Ok turn) now here state after → GoesOn step rest all after first
  shown_more turn more shown = λ others.
      sym (seen_same now step (rest ++ others) after same)
      ∙ sym (shown (rest ++ others) ∙ ap (λ t. behind_turn (after, t) (seen_by now (rest ++ others))) more)
      ∙ here_first others

  -- it was seen, and it is enough
  pub shown_enough : (turn : Turn) → turn ≡ Enough → Shows (Ok turn) now here state after → (others : List Met) → seen_by step (all ++ others) first ≡ Ok after
  shown_enough turn enough shown = λ others.
      sym (here_first others)
      ∙ shown (rest ++ others) ∙ ap (λ t. behind_turn (after, t) (seen_by now (rest ++ others))) enough

  -- it was not seen whole
  pub shown_stop : (stop : WalkStop) → Shows (Err stop) now here state after → Shows (Err stop) step all first after
  shown_stop stop shown = λ others. subst (Stops stop) (here_first others) (shown (rest ++ others))

-- what is met from the first unit on is what is met in all
pub met_start : (s : SectionsView) (units : Units) (count : ℕ) → units ≡ units_of s → count ≡ unit_count units.info units.order → met_from s 0 (count - 0) ≡ met_in s
unfolding met_in
met_start s units count of_sections counted =
    ap (met_from s 0) (sub-zero count ∙ counted ∙ ap (λ (u : Units). unit_count u.info u.order) of_sections)
