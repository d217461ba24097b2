-- What the top call gives: the status, the bytes on standard output, the line on standard error and what a whole dump
-- tells, for words and for what each name holds.
use Rattle.std.specs.Prelude.{◌≡◌, ℕ, zero, suc, ◌<◌, ◌≤◌, ◌⊎◌, List, [], Option, Some, None, IfSome, Result, Ok, Err, option_map}
use Rattle.dw_outside.specs.Faults.{Rose}
use Rattle.dw_outside.specs.Gains.{Gains, GainsPart}
use Rattle.elf_sections.specs.Names.{elf_of}
use Rattle.elf_sections.specs.declared.refusals.ElfRefusal.{ElfRefusal}
use Rattle.elf_sections.specs.Rows.{ElfView}
use Rattle.dump_workers.specs.Ends.{PublishedView}
use Rattle.visit_queries.specs.Named.{Named}
use Rattle.dw_run.specs.declared.refusals.Refusal.{Refusal}
use Rattle.dw_run.specs.declared.refusals.Refusal.TheVariants as refusals
use Rattle.dw_run.specs.Endings.{PartOfLine, misunderstood_line, unread_line}
use Rattle.dw_run.specs.RefusalLines.{refusal_line}
use Rattle.dw_run.specs.CommandTexts.{CommandText}
use Rattle.dw_run.specs.FileRequests.{FileRequest, asked_by}

pub record Output : Type 0 where
  pub status : ℕ
  pub out : List ℕ
  pub err : List ℕ
  pub published : Option PublishedView

-- a command's text on the sections of a file, or the refusal of its section table
abbrev pub text_of_table : (ElfView → CommandText) → Result ElfView ElfRefusal → CommandText
text_of_table text (Ok elf) = text elf
text_of_table text (Err refusal) = record { text = []; refusal = Some (refusals.File refusal) }

-- a command's text on a file
unfoldable pub text_of_file : (ElfView → CommandText) → List ℕ → CommandText
text_of_file text file = text_of_table text (elf_of file)

-- what is told of a file: nothing where its section table is refused
abbrev pub tells_of_table : (ElfView → PublishedView) → Result ElfView ElfRefusal → Option PublishedView
tells_of_table tells (Ok elf) = Some (tells elf)
tells_of_table tells (Err refusal) = None

unfoldable pub tells_of_file : Option (ElfView → PublishedView) → List ℕ → Option PublishedView
tells_of_file None file = None
tells_of_file (Some tells) file = tells_of_table tells (elf_of file)

-- what is told where nothing is refused
abbrev pub told_of : Option Refusal → Option PublishedView → Option PublishedView
told_of None tells = tells
told_of (Some refusal) tells = None

abbrev pub status_of : Option Refusal → ℕ
status_of None = 0
status_of (Some refusal) = 1

abbrev pub err_of : Option Refusal → List ℕ
err_of None = []
err_of (Some refusal) = refusal_line refusal

abbrev pub output_of_text : CommandText → Option PublishedView → Output
output_of_text text tells = record {
  status = status_of text.refusal;
  out = text.text;
  err = err_of text.refusal;
  published = told_of text.refusal tells;
}

abbrev pub misunderstood : Output
misunderstood = record {
  status = 2;
  out = [];
  err = misunderstood_line;
  published = None;
}

abbrev pub output_of_request : Option FileRequest → (List ℕ → Option (List ℕ)) → Option Output
output_of_request None holds = Some misunderstood
output_of_request (Some request) holds =
    option_map (λ file. output_of_text (text_of_file request.text file) (tells_of_file request.tells file))
    (request.bytes holds)

-- the output; none where the source doesn't tell what the name holds
abbrev pub output_of : List (List ℕ) → List Named → (List ℕ → Option (List ℕ)) → Option Output
output_of words visitors holds = output_of_request (asked_by words visitors) holds

-- the status is the output's, and both sinks gained its bytes
pub record Meets (o : Output) (status : ℕ) (out0 out1 err0 err1 : Option (List ℕ)) : Type 0 where
  pub status_is : status ≡ o.status
  pub on_out : Gains out0 out1 o.out
  pub on_err : Gains err0 err1 o.err

-- What standard error gained where a sink failed or memory was wanting: a prefix of the output's line,
-- or of the line that memory was wanting, or, where the source failed, of the line that says so.
abbrev pub StopsWithin : List ℕ → ℕ → ℕ → Option (List ℕ) → Option (List ℕ) → Type 0
StopsWithin text source0 source1 err0 err1 =
    PartOfLine text err0 err1 ⊎ (Rose source0 source1 × GainsPart err0 err1 unread_line)

-- no count of faults rose
abbrev pub NothingFailed : ℕ → ℕ → ℕ → ℕ → ℕ → ℕ → Type 0
NothingFailed source0 source1 out0 out1 err0 err1 =
    (Rose source0 source1 → ⊥) × (Rose out0 out1 → ⊥) × (Rose err0 err1 → ⊥)

-- How a command on a file ended: with its text printed, or because a sink failed (4), or for want of
-- memory (5).
pub record Ends (text : CommandText) (status : ℕ) (out0 out1 err0 err1 : Option (List ℕ))
    (out_faults0 out_faults1 err_faults0 err_faults1 : ℕ) : Type 0 where
  pub answers : (status < 2) ⊎ (status ≡ 4) ⊎ (status ≡ 5)
  pub whole : status < 2 → Meets (output_of_text text None) status out0 out1 err0 err1
  pub part : GainsPart out0 out1 text.text
  pub line : PartOfLine (err_of text.refusal) err0 err1
  pub failed : status ≡ 4 → Rose out_faults0 out_faults1 ⊎ Rose err_faults0 err_faults1
  pub later_out : out_faults0 ≤ out_faults1
  pub later_err : err_faults0 ≤ err_faults1

-- what a run tells that ended with this status: nothing but with 0
abbrev pub told_at : ℕ → Option PublishedView → Option PublishedView
told_at zero published = published
told_at (suc status) published = None

-- How a run ended that was asked for this: with its output; with the line that speaks of the source (3); because a sink
-- failed (4); or for want of memory (5).
pub record EndsRun (request : Option FileRequest) (holds : List ℕ → Option (List ℕ)) (status : ℕ)
    (published : Option PublishedView) (out0 out1 err0 err1 : Option (List ℕ))
    (source0 source1 out_faults0 out_faults1 err_faults0 err_faults1 : ℕ) : Type 0 where
  pub answers : status ≤ 5
  pub output : status < 3 → IfSome (output_of_request request holds) (λ output. Meets output status out0 out1 err0 err1)
  pub told : IfSome (output_of_request request holds) (λ output. published ≡ told_at status output.published)
  pub meaningless : status ≡ 2 → request ≡ None
  pub read : status ≡ 3 → Rose source0 source1
  pub unread : status ≡ 3 → Gains out0 out1 [] × Gains err0 err1 unread_line
  pub written : status ≡ 4 → Rose out_faults0 out_faults1 ⊎ Rose err_faults0 err_faults1
  pub prefix : IfSome (output_of_request request holds) (λ output. GainsPart out0 out1 output.out)
  pub stopped : 3 < status → IfSome (output_of_request request holds)
      (λ output. StopsWithin output.err source0 source1 err0 err1)
