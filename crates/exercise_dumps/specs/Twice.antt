-- What two dumps of one file tell.
use Rattle.std.specs.Prelude.{◌≡◌, ℕ, ◌*◌, Bool, true, length}
use Rattle.elf_sections.specs.Shapes.{SectionsView}
use Rattle.unit_headers.specs.Headers.{unit_count}
use Rattle.dump_workers.specs.Dumps.{dump_of}
use Rattle.dump_workers.specs.Ends.{PublishedView}
use Rattle.dump_workers.specs.TableKeys.{published_count}
use Rattle.dump_workers.specs.UnitDumps.{file_entries}
use Rattle.exercise_file.specs.Keys.{generated_key_count}
use Rattle.exercise_file.specs.Views.{generated_sections}

-- what the first dump of a file tells of it
abbrev pub published_view : SectionsView → ℕ → PublishedView
published_view s workers = record {
  number = published_count s;
  units = unit_count s.info s.order;
  entries = file_entries s;
  workers = workers;
}

-- The first dump of a file tells its units, its entries and the keys that its table has then, and wrote the text of the dump;
-- the second one makes no step, and writes the same.
pub record TellsOf (s : SectionsView) (workers : ℕ) (published : PublishedView)
    (bytes again : ℕ) (equal : Bool) : Type 0 where
  pub units_are : published.units ≡ unit_count s.info s.order
  pub entries_are : published.entries ≡ file_entries s
  pub workers_are : published.workers ≡ workers
  pub number_is : published.number ≡ published_count s
  pub bytes_are : bytes ≡ length (dump_of s).text
  pub again_is : again ≡ 0
  pub equal_is : equal ≡ true

-- the same of the file that is generated for so many units: there are seven entries for each, and all its keys are in the table
pub record ShowsAll (units workers : ℕ) (published : PublishedView) (bytes again : ℕ)
    (equal : Bool) : Type 0 where
  pub units_are : published.units ≡ units
  pub entries_are : published.entries ≡ 7 * units
  pub workers_are : published.workers ≡ workers
  pub number_is : published.number ≡ generated_key_count units
  pub bytes_are : bytes ≡ length (dump_of (generated_sections units)).text
  pub again_is : again ≡ 0
  pub equal_is : equal ≡ true
