-- What the command `dump` prints of a file, and what a whole dump tells of the table of the file's handle.
use Rattle.std.specs.Prelude.{◌≡◌, ⊤, ℕ, Bool, List, [], ◌∷◌, ◌++◌, Option, Some, None, Result, Ok, Err, codes, if◌then◌else◌}
use Rattle.dw_outside.specs.Gains.{Gains, GainsPart}
use Rattle.dw_text.specs.Added.{labelled}
use Rattle.dw_text.specs.Numbers.{decimal}
use Rattle.elf_sections.specs.Rows.{ElfView}
use Rattle.elf_sections.specs.Shapes.{SectionsView, sections_of}
use Rattle.unit_headers.specs.Headers.{unit_count}
use Rattle.dump_workers.specs.Ends.{PublishedView}
use Rattle.dump_workers.specs.TableKeys.{published_count}
use Rattle.dump_workers.specs.UnitDumps.{file_entries, unit_dump}
use Rattle.dw_run.specs.declared.dump.FileDump.{FileDump}
use Rattle.dw_run.specs.declared.dump.FileDump.TheVariants.{Whole, Refused}
use Rattle.dw_run.specs.declared.refusals.Refusal.{Refusal}
use Rattle.dw_run.specs.CommandTexts.{CommandText, units_printed}

-- the texts of the units, read one after another, up to the first that is refused
unfoldable pub units_dumped : SectionsView → CommandText
units_dumped s = units_printed (unit_dump s) 0 (unit_count s.info s.order)

-- published P
unfoldable pub published_line : ℕ → List ℕ
published_line number = labelled (codes "published ") (decimal number) ++ labelled (10 ∷ []) []

-- the line, where it is asked for
abbrev pub stats_text : Bool → ℕ → List ℕ
stats_text stats number = if stats then published_line number else []

-- a text, and what stands behind it unless it is refused
abbrev pub unless_refused : Option Refusal → List ℕ → List ℕ
unless_refused None text = text
unless_refused (Some refusal) text = []

abbrev pub followed : CommandText → List ℕ → CommandText
followed printed text = record {
  text = printed.text ++ unless_refused printed.refusal text;
  refusal = printed.refusal;
}

-- the texts of the units, and behind a whole dump how many of the file's keys its table has, where that is asked for
unfoldable pub dump_printed : Bool → SectionsView → CommandText
dump_printed stats s = followed (units_dumped s) (stats_text stats (published_count s))

-- what a whole dump by so many workers tells of these sections
unfoldable pub sections_tell : ℕ → SectionsView → PublishedView
sections_tell workers s = record {
  number = published_count s;
  units = unit_count s.info s.order;
  entries = file_entries s;
  workers = workers;
}

abbrev pub dump_tells : ℕ → ElfView → PublishedView
dump_tells workers elf = sections_tell workers (sections_of elf)

-- how a dump ended, with its refusal alone
abbrev pub refusal_of : FileDump → Option Refusal
refusal_of (Whole published) = None
refusal_of (Refused refusal) = Some refusal

-- A sink took all of the text, and the refusal is the one that ends it; or the sink stopped within the text.
abbrev pub PrintsDump : {E : Type 0} → Result FileDump E → CommandText → Option (List ℕ) → Option (List ℕ) → Type 0
PrintsDump (Ok end) printed old new = (refusal_of end ≡ printed.refusal) × Gains old new printed.text
PrintsDump (Err stop) printed old new = GainsPart old new printed.text

-- a whole dump tells this
abbrev pub TellsDump : Option PublishedView → FileDump → Type 0
TellsDump tells (Whole published) = Some published ≡ tells
TellsDump tells (Refused refusal) = ⊤
