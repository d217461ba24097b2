use Rattle.std.proofs.Common.{List, ℕ, ap₂, bytes_eq, ◌∙◌, ◌<◌, ap, length}
use Rattle.std.proofs.lemmas.Cmp.{nat_list_eq_equiv}
use Rattle.map_cells.specs.Seen.{PassView}
use Rattle.handle_cache.specs.Handles.{front_keys, sections_in}
use Rattle.dump_workers.specs.Dumps.{dump_of}
use Rattle.dump_workers.specs.FileKeys.{KnowsFile}
use Rattle.dump_workers.specs.TableKeys.{table_keys}
use Rattle.exercise_dumps.proofs.Seats.{knows_all, room_in}
use Rattle.exercise_dumps.proofs.twice.dump_again.Goals as goal

pub returns : goal.returns
returns g c =
    let s = sections_in c.args.handle.now in
    let first = c.in_ok-whole.ensures in
    let p : PassView = c.in_ok-whole.field-0.pass in
    let room : length (table_keys s) < p.knows.layout.capacity = room_in s p.knows.layout c.args.handle.now.table.layout first.belongs.of_table.layout c.recall-2.ensures.room c.requires.room in
    let knows : KnowsFile s (front_keys p) = knows_all s p _ c.recall-3.ensures.legal (c.recall-3.ensures.whole first.number first.all) first.holds c.requires.codes room in
    record {
      units_are = c.published-published.ensures.units ∙ first.units;
      entries_are = c.published-published.ensures.entries ∙ first.entries;
      workers_are = c.published-published.ensures.workers ∙ first.workers;
      number_is = c.published-published.ensures.file first.all first.holds;
      bytes_are = ap (λ (t : List ℕ). length t) (c.bytes.ensures ∙ first.text);
      again_is = c.in_ok-second.ensures.steps knows;
      equal_is = c.is_same.ensures ∙ ap₂ bytes_eq (c.bytes-2.ensures ∙ first.text) (c.bytes-3.ensures ∙ c.in_ok-second.ensures.text) ∙ nat_list_eq_equiv.refl (dump_of s).text;
    }
