-- What is printed of units, walking from one unit to the next, is the texts before the first refusal.
use Rattle.std.proofs.Common.{◌≡◌, ℕ, zero, suc, ◌+◌, ◌≤◌, List, [], ◌∷◌, ◌++◌, map, Option, Some, None, Ok, Err, refl, sym, ap, subst, ◌∙◌, zero-add, arith}
use Rattle.std.specs.List.{concat, range_with_len}
use Rattle.elf_sections.specs.Shapes.{SectionsView}
use Rattle.unit_headers.specs.Headers.{unit_count}
use Rattle.unit_text.specs.Pieces.{Text}
use Rattle.dump_workers.specs.UnitDumps.{unit_dump}
use Rattle.dw_run.specs.declared.refusals.Refusal.{Refusal}
use Rattle.dw_run.specs.declared.refusals.Refusal.TheVariants as refusals
use Rattle.dw_run.specs.declared.parts.Part.{Part}
use Rattle.dw_run.specs.CommandTexts.{CommandText, before, unit_printed, units_printed}
use Rattle.dw_run.specs.DumpTexts.{units_dumped}
use Rattle.dw_run.specs.FirstRefusal.{EndsAt, TextsBeforeRefusal}
use Rattle.dw_run.specs.Parts.{unit_part, part_of_units}

-- the same for the units from one on
record TextsFrom (text : ℕ → Text) (unit all : ℕ) (printed : CommandText) : Type 0 where
  pub count : ℕ
  pub texts : List (List ℕ)
  pub within : count ≤ all
  pub have : map text (range_with_len unit count) ≡ map (λ t. Ok t) texts
  pub joined : printed.text ≡ concat texts
  pub ends : EndsAt text (unit + all) (unit + count) printed.refusal

abbrev text_as : List ℕ → Option Refusal → CommandText
text_as text refusal = record { text = text; refusal = refusal }

ends_as : (text : ℕ → Text) (all next all' next' : ℕ) (refusal : Option Refusal) → all ≡ all' → next ≡ next' → EndsAt text all next refusal → EndsAt text all' next' refusal
ends_as text all next all' next' refusal a n ends = subst (λ (x : ℕ). EndsAt text x next' refusal) a (subst (λ (x : ℕ). EndsAt text all x refusal) n ends)

-- the unit at hand, and the units behind it
from_here : (found : Text) (text : ℕ → Text) (unit all : ℕ) (others : CommandText) → text unit ≡ found → TextsFrom text (unit + 1) all others → TextsFrom text unit (suc all) (unit_printed unit found others)
from_here (Ok t) text unit all others is later = record {
  count = suc later.count;
  texts = t ∷ later.texts;
  within = omega (arith, later.within);
  have = ap (λ x. x ∷ map text (range_with_len (unit + 1) later.count)) is ∙ ap (λ xs. Ok t ∷ xs) later.have;
  joined = ap (λ x. t ++ x) later.joined;
  ends = ends_as text (unit + 1 + all) (unit + 1 + later.count) (unit + suc all) (unit + suc later.count) others.refusal (omega arith) (omega arith) later.ends;
}
from_here (Err f) text unit all others is later = record {
  count = 0;
  texts = [];
  within = omega arith;
  have = refl;
  joined = refl;
  ends = ends_as text (unit + suc all) unit (unit + suc all) (unit + 0) (Some (refusals.Unit unit f)) refl (omega arith) (omega arith, f, is, refl);
}

from_unit : (all : ℕ) (text : ℕ → Text) (unit : ℕ) → TextsFrom text unit all (units_printed text unit all)
unfolding units_printed
from_unit zero text unit = record { count = 0; texts = []; within = omega arith; have = refl; joined = refl; ends = refl }
from_unit (suc all) text unit = from_here (text unit) text unit all (units_printed text (unit + 1) all) refl (from_unit all text (unit + 1))

-- what is printed of units is the texts of those before the first refused one
pub texts_before : (text : ℕ → Text) (all : ℕ) → TextsBeforeRefusal text all (units_printed text 0 all)
texts_before text all =
    let printed : TextsFrom text 0 all (units_printed text 0 all) = from_unit all text 0 in
    record {
      next = printed.count;
      texts = printed.texts;
      within = printed.within;
      have = printed.have;
      joined = printed.joined;
      ends = ends_as text (0 + all) (0 + printed.count) all printed.count (units_printed text 0 all).refusal (zero-add all) (zero-add printed.count) printed.ends;
    }

only_from : (all count : ℕ) (texts : List (List ℕ)) (refusal : Option Refusal) (text : ℕ → Text) (unit : ℕ)
    → count ≤ all → map text (range_with_len unit count) ≡ map (λ t. Ok t) texts → EndsAt text (unit + all) (unit + count) refusal
    → units_printed text unit all ≡ text_as (concat texts) refusal
unfolding units_printed
only_from zero zero [] None text unit within have ends = refl
only_from zero zero [] (Some refusal) text unit within have ends = absurd (omega (arith, ends.0))
only_from zero zero (t ∷ texts) refusal text unit within have ends = absurd cc
only_from zero (suc count) texts refusal text unit within have ends = absurd (omega arith)
only_from (suc all) zero [] None text unit within have ends = absurd (omega arith)
only_from (suc all) zero [] (Some refusal) text unit within have ends =
    let here : unit + 0 ≡ unit = omega arith in
    let is : text unit ≡ Err ends.1 = ap text (sym here) ∙ ends.2 in
    let named : refusal ≡ refusals.Unit unit ends.1 = ends.3 ∙ ap (λ (u : ℕ). refusals.Unit u ends.1) here in
    ap (λ (x : Text). unit_printed unit x (units_printed text (unit + 1) all)) is ∙ ap (λ (r : Refusal). text_as [] (Some r)) (sym named)
only_from (suc all) zero (t ∷ texts) refusal text unit within have ends = absurd cc
only_from (suc all) (suc count) [] refusal text unit within have ends = absurd cc
only_from (suc all) (suc count) (t ∷ texts) refusal text unit within have ends =
    let is : text unit ≡ Ok t = cc in
    let others : map text (range_with_len (unit + 1) count) ≡ map (λ x. Ok x) texts = cc in
    ap (λ (x : Text). unit_printed unit x (units_printed text (unit + 1) all)) is
    ∙ ap (before t) (only_from all count texts refusal text (unit + 1) (omega arith) others
    (ends_as text (unit + suc all) (unit + suc count) (unit + 1 + all) (unit + 1 + count) refusal (omega arith) (omega arith) ends))

-- and nothing else is
pub texts_only : (text : ℕ → Text) (all : ℕ) (printed : CommandText) → TextsBeforeRefusal text all printed → printed ≡ units_printed text 0 all
texts_only text all printed law =
    ap (λ (t : List ℕ). text_as t printed.refusal) law.joined
    ∙ sym (only_from all law.next law.texts printed.refusal text 0 law.within law.have
    (ends_as text all law.next (0 + all) (0 + law.next) printed.refusal (sym (zero-add all)) (sym (zero-add law.next)) law.ends))

-- what a command prints of units is so too
pub part_before : (part : Part) (s : SectionsView) → TextsBeforeRefusal (unit_part part s) (unit_count s.info s.order) (part_of_units part s)
unfolding part_of_units
part_before part s = texts_before (unit_part part s) (unit_count s.info s.order)

-- and so is a dump
pub dump_before : (s : SectionsView) → TextsBeforeRefusal (unit_dump s) (unit_count s.info s.order) (units_dumped s)
unfolding units_dumped
dump_before s = texts_before (unit_dump s) (unit_count s.info s.order)
