-- What a command line asks of a file.
use Rattle.std.specs.Prelude.{ℕ, Bool, List, Option, Some, None, option_and_then, option_map}
use Rattle.elf_sections.specs.Rows.{ElfView}
use Rattle.dump_workers.specs.Ends.{PublishedView}
use Rattle.dw_words.specs.GivenWords.{WordBytes}
use Rattle.dw_words.specs.Requests.{RequestView, of_addresses, of_dump, of_exercise, of_file, of_query, meaning_of}
use Rattle.exercise_file.specs.Generated.{generated_file}
use Rattle.visit_queries.specs.Named.{Named, first_named}
use Rattle.dw_run.specs.CommandTexts.{CommandText}
use Rattle.dw_run.specs.AddressLines.{addresses_printed}
use Rattle.dw_run.specs.Commands.{text_of_command, text_of_sections}
use Rattle.dw_run.specs.DumpTexts.{dump_printed, dump_tells}
use Rattle.dw_run.specs.ExerciseTexts.{exercise_printed}
use Rattle.dw_run.specs.Queries.{query_printed}

-- the bytes that are asked about, by what each name holds; what is printed of their sections, and what is told of
-- them, where anything is
pub record FileRequest : Type 0 where
  pub bytes : (WordBytes → Option (List ℕ)) → Option (List ℕ)
  pub text : ElfView → CommandText
  pub tells : Option (ElfView → PublishedView)

abbrev pub asks : WordBytes → (ElfView → CommandText) → Option (ElfView → PublishedView) → FileRequest
asks file text tells = record { bytes = λ holds. holds file; text = text; tells = tells }

-- nothing is told but what is printed
abbrev pub on_file : WordBytes → (ElfView → CommandText) → FileRequest
on_file file text = asks file text None

-- the dump of a file, whose text is the same for every number of workers
abbrev pub dumped : WordBytes → ℕ → Bool → FileRequest
dumped file workers stats =
    asks file (text_of_sections (dump_printed stats)) (Some (dump_tells workers))

-- the lines of two dumps of the file that is generated for so many units
abbrev pub exercised : ℕ → ℕ → FileRequest
exercised units workers = record {
  bytes = λ holds. Some (generated_file units);
  text = text_of_sections exercise_printed;
  tells = Some (dump_tells workers);
}

-- the report of a visitor on a file, where a visitor has the name
abbrev pub queried : WordBytes → Option Named → Option FileRequest
queried file visitor = option_map (λ v. on_file file (text_of_sections (query_printed v.meanings))) visitor

-- What a request asks for, of a caller with these visitors. A query is answered by the first visitor of its name.
unfoldable pub file_request_of : List Named → RequestView → Option FileRequest
file_request_of visitors (of_file command file) = Some (on_file file (text_of_command command))
file_request_of visitors (of_dump file workers stats) = Some (dumped file workers stats)
file_request_of visitors (of_addresses file addresses) = Some (on_file file (text_of_sections (addresses_printed addresses)))
file_request_of visitors (of_query name file) = queried file (first_named name visitors)
file_request_of visitors (of_exercise units workers) = Some (exercised units workers)

-- what the words after the program's name ask of a caller with these visitors
abbrev pub asked_by : List WordBytes → List Named → Option FileRequest
asked_by words visitors = option_and_then (file_request_of visitors) (meaning_of words)
