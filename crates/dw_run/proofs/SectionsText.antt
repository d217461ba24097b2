-- The lines of sections, one after another.
use Rattle.std.proofs.Common.{◌≡◌, ℕ, ◌+◌, ◌<◌, ◌≤◌, List, [], ◌++◌, map, drop, length, get_or, drop-cons, add-one, Option, None, Result, Ok, Err, refl}
use Rattle.std.proofs.lemmas.List.{drop_all}
use Rattle.dw_outside.specs.Gains.{Gains, GainsPart}
use Rattle.dw_outside.specs.GainsLaws.{Gains-nothing, Gains-then, GainsPart-then, GainsPart-more}
use Rattle.dw_outside.specs.declared.stops.WriteStop.{WriteStop}
use Rattle.elf_sections.specs.declared.section.Section.{Section}
use Rattle.elf_sections.specs.Rows.{SectionRow}
use Rattle.elf_sections.specs.Shapes.{row}
use Rattle.unit_text.specs.SectionLine.{section_line}
use Rattle.dw_run.specs.declared.refusals.Refusal.{Refusal}
use Rattle.dw_run.specs.Commands.{sections_text}
use Rattle.dw_run.specs.CommandTexts.{Prints, whole}

-- the lines from this section on
abbrev pub lines_from : List Section → ℕ → List ℕ
lines_from sections i = sections_text i (map row (drop i sections))

-- the line of the next section, and those behind it
lines_next : (sections : List Section) (i : ℕ) (d : Section) → i < length sections
    → lines_from sections i ≡ section_line i (row (get_or sections i d)) ++ lines_from sections (i + 1)
unfolding sections_text
lines_next sections i d inside = rw (drop-cons sections i d inside) (rw add-one refl)

-- the line of the next section went out, and the others are printed
pub sections_next : (sections : List Section) (i : ℕ) (d : Section) (sent : List ℕ) (old mid : Option (List ℕ)) (r : Result (Option Refusal) WriteStop) (new : Option (List ℕ))
    → i < length sections → sent ≡ section_line i (row (get_or sections i d)) → Gains old mid sent
    → Prints r (whole (lines_from sections (i + 1))) mid new → Prints r (whole (lines_from sections i)) old new
sections_next sections i d sent old mid (Ok refusal) new inside is gains printed =
    rw (lines_next sections i d inside, ← is) (printed.0, Gains-then old mid new sent _ gains printed.1)
sections_next sections i d sent old mid (Err stop) new inside is gains printed =
    rw (lines_next sections i d inside, ← is) (GainsPart-then old mid new sent _ gains printed)

-- the sink stopped within a line
pub sections_cut : (sections : List Section) (i : ℕ) (d : Section) (sent : List ℕ) (old new : Option (List ℕ)) (stop : WriteStop)
    → i < length sections → sent ≡ section_line i (row (get_or sections i d)) → GainsPart old new sent
    → Prints {E = WriteStop} (Err stop) (whole (lines_from sections i)) old new
sections_cut sections i d sent old new stop inside is part =
    rw (lines_next sections i d inside, ← is) (GainsPart-more old new sent _ part)

-- no section is left
pub sections_end : (sections : List Section) (i : ℕ) (old : Option (List ℕ)) → length sections ≤ i
    → Prints {E = WriteStop} (Ok None) (whole (lines_from sections i)) old old
unfolding sections_text
sections_end sections i old past = rw (drop_all i sections past) (refl, Gains-nothing old)

-- a line that was empty holds the section's line
pub line_is : (cleared line sent : List ℕ) (number i : ℕ) (r : SectionRow) → cleared ≡ [] → line ≡ cleared ++ section_line number r → sent ≡ line → number ≡ i
    → sent ≡ section_line i r
line_is cleared line sent number i r empty added is same = rw (is, added, empty, same) refl
