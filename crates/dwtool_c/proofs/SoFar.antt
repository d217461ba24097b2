-- A text that goes into a buffer piece by piece: what was put, and what is left of it.
use Rattle.std.proofs.Common.{◌≡◌, ◌∙◌, ◌≤◌, ◌<◌, ◌+◌, ℕ, suc, List, [], ◌++◌, length, map, take, drop, get_or, drop-cons, add-one, Option, Some, None, Result, Ok, Err, option_map, refl, sym, ap, append_assoc, arith}
use Rattle.std.proofs.lemmas.List.{append-nil, drop_all, take-append-le}
use Rattle.std.proofs.Math.Seq.{take-length}
use Rattle.dw_fields.specs.declared.fault_code.Fault.{Fault}
use Rattle.elf_sections.specs.declared.section.Section.{Section}
use Rattle.elf_sections.specs.Shapes.{SectionsView, row}
use Rattle.unit_text.specs.Pieces.{Text, Gained}
use Rattle.unit_text.specs.SectionLine.{section_line}
use Rattle.dw_run.specs.declared.refusals.Refusal.{Refusal}
use Rattle.dw_run.specs.declared.refusals.Refusal.TheVariants as refusals
use Rattle.dw_run.specs.Commands.{sections_text, tables_end}
use Rattle.dw_run.specs.CommandTexts.{CommandText, before, units_printed, whole}
use Rattle.dw_run.specs.Parts.{part_of_units}
use Rattle.unit_headers.specs.Headers.{unit_count}
use Rattle.dwtool_c.specs.declared.commands.UnitCommand.{UnitCommand}
use Rattle.dwtool_c.specs.declared.commands.UnitCommand.TheVariants as commands
use Rattle.dwtool_c.specs.declared.front.Put.{Put}
use Rattle.dwtool_c.specs.declared.refusal.DwtoolRefusal.{DwtoolRefusal}
use Rattle.dwtool_c.specs.Answers.{fitted}
use Rattle.dwtool_c.specs.Fronts.{IsFront, PutsText, PutsWhole}
use Rattle.dwtool_c.specs.Refusals.{refusal_row, tables_refusal}
use Rattle.dwtool_c.specs.FileTexts.{unit_texts}
use Rattle.dwtool_c.specs.Texts.{unit_text}
use Rattle.dwtool_c.proofs.Fitted.{front_of_nothing}

-- Of what is printed in all, this is left; the front of the rest stands in the buffer.
pub record SoFar (printed left : CommandText) (original now : List ℕ) (size : ℕ) : Type 0 where
  pub text : List ℕ
  pub front : IsFront original text now size
  pub ahead : printed ≡ before text left

-- nothing was put yet
pub at_first : (printed : CommandText) (original : List ℕ) → SoFar printed printed original original 0
at_first printed original = record { text = []; front = front_of_nothing original; ahead = refl }

-- the next piece was put
pub put_next : (printed left rest : CommandText) (piece original now new : List ℕ) (size end : ℕ)
    → SoFar printed left original now size → left ≡ before piece rest
    → ((start text : List ℕ) → IsFront start text now size → IsFront start (text ++ piece) new end)
    → SoFar printed rest original new end
put_next printed left rest piece original now new size end so_far is puts = record {
  text = so_far.text ++ piece;
  front = puts original so_far.text so_far.front;
  ahead =
      so_far.ahead ∙ ap (λ l. before so_far.text l) is
      ∙ ap (λ t. record { text = t; refusal = rest.refusal }) (sym (append_assoc so_far.text piece rest.text));
}

-- no text is left
pub put_all : (printed left : CommandText) (original now : List ℕ) (size : ℕ) (refusal : Option Refusal)
    → SoFar printed left original now size → left ≡ record { text = []; refusal = refusal }
    → IsFront original printed.text now size × (option_map refusal_row refusal ≡ option_map refusal_row printed.refusal)
put_all printed left original now size refusal so_far none =
    let is : printed ≡ record { text = so_far.text; refusal = refusal } =
    so_far.ahead ∙ ap (λ l. before so_far.text l) none ∙ ap (λ t. record { text = t; refusal = refusal }) (append-nil so_far.text) in
    rw is (so_far.front, refl)

-- memory was wanting on the way
pub put_part : (printed left : CommandText) (original now : List ℕ) (size : ℕ)
    → SoFar printed left original now size → (part : ℕ) × (now ≡ fitted (take part printed.text) original)
put_part printed left original now size so_far = (
  length so_far.text,
  so_far.front.fits ∙ ap (λ t. fitted t original)
      (sym (ap (λ p. take (length so_far.text) p.text) so_far.ahead ∙ take-append-le (length so_far.text) so_far.text left.text (omega arith) ∙ take-length so_far.text)),
)

-- one piece that is the whole
pub first_piece : (piece original new : List ℕ) (end : ℕ)
    → ((start text : List ℕ) → IsFront start text original 0 → IsFront start (text ++ piece) new end)
    → IsFront original piece new end
first_piece piece original new end puts = puts original [] (front_of_nothing original)

pub whole_put : {E : Type 0} (r : Result Put E) (printed : CommandText) (text : List ℕ) (refusal : Option DwtoolRefusal) (old new : List ℕ)
    → text ≡ printed.text → refusal ≡ option_map refusal_row printed.refusal → PutsWhole r text refusal old new → PutsText r printed old new
whole_put (Ok put) printed text refusal old new same why puts = (rw (sym same) puts.0, puts.1 ∙ why)
whole_put (Err e) printed text refusal old new same why puts = put_part printed printed old new 0 (rw puts (at_first printed old))

-- the lines of sections from this one on
abbrev pub lines_from : List Section → ℕ → CommandText
lines_from sections i = whole (sections_text i (map row (drop i sections)))

pub lines_next : (sections : List Section) (i : ℕ) (d : Section) (cleared line sent : List ℕ) (number : ℕ)
    → i < length sections → cleared ≡ [] → line ≡ cleared ++ section_line number (row (get_or sections i d)) → sent ≡ line → number ≡ i
    → lines_from sections i ≡ before sent (lines_from sections (i + 1))
unfolding sections_text
lines_next sections i d cleared line sent number inside empty added is same =
    rw (drop-cons sections i d inside, is, added, empty, same) (rw add-one refl)

pub lines_end : (sections : List Section) (i : ℕ) → length sections ≤ i → lines_from sections i ≡ whole []
unfolding sections_text
lines_end sections i past = rw (drop_all i sections past) refl

-- a buffer that was empty holds a unit's text
gained_is : (cleared t : List ℕ) (now : Text) → cleared ≡ [] → Gained cleared t now → now ≡ Ok t
gained_is cleared t (Ok x) empty gained = ap (λ y. Ok y) (sym (rw empty at gained))
gained_is cleared t (Err f) empty gained = absurd gained

-- the next unit has a text
pub unit_next : (text : ℕ → Text) (unit m n : ℕ) (cleared t sent : List ℕ) → m ≡ suc n
    → cleared ≡ [] → Gained cleared t (text unit) → sent ≡ t
    → units_printed text unit m ≡ before sent (units_printed text (unit + 1) n)
unfolding units_printed
unit_next text unit m n cleared t sent fuel empty gained is = rw (fuel, gained_is cleared t (text unit) empty gained, is) refl

-- the next unit is refused
pub unit_refused : (text : ℕ → Text) (unit m n : ℕ) (f : Fault) → m ≡ suc n → text unit ≡ Err f
    → units_printed text unit m ≡ record { text = []; refusal = Some (refusals.Unit unit f) }
unfolding units_printed
unit_refused text unit m n f fuel is = rw (fuel, is) refl

-- no unit is left
pub units_end : (text : ℕ → Text) (unit m : ℕ) → m ≡ 0 → units_printed text unit m ≡ whole []
unfolding units_printed
units_end text unit m none = rw none refl

-- the refusal that ends the text of the tables
pub tables_ended : (fault : Option Fault) → option_map tables_refusal fault ≡ option_map refusal_row (tables_end fault)
tables_ended None = refl
tables_ended (Some fault) = refl

-- what a command prints of all units is what it prints of each
pub unit_texts_are : (command : UnitCommand) (s : SectionsView) → units_printed (unit_text command s) 0 (unit_count s.info s.order) ≡ unit_texts command s
unfolding part_of_units
unit_texts_are commands.Units s = refl
unit_texts_are commands.Dump s = refl
unit_texts_are commands.Lines s = refl
unit_texts_are commands.Ranges s = refl
