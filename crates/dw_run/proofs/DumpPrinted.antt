-- How the dump of the units, and what stands behind it, make up what the command prints.
use Rattle.std.proofs.Common.{◌≡◌, ◌≤◌, ℕ, zero, suc, ◌+◌, Bool, List, [], Option, Some, None, option_map, Ok, Err, refl, sym, ap, subst, ◌∙◌, append-nil, arith, length}
use Rattle.std.specs.Prelude.{Contains, IsErr, Result, map}
use Rattle.dw_outside.specs.Gains.{Gains, GainsPart}
use Rattle.dw_outside.specs.GainsLaws.{Gains-then, GainsPart-then, GainsPart-more}
use Rattle.dw_outside.specs.declared.stops.WriteStop.{WriteStop}
use Rattle.elf_sections.specs.Shapes.{SectionsView}
use Rattle.map_core.specs.declared.entry.Entry.{Entry}
use Rattle.map_core.specs.Calls.{own}
use Rattle.map_cells.specs.Seen.{PassView}
use Rattle.handle_cache.specs.Handles.{HandleView, IsOpenedOn}
use Rattle.unit_text.specs.Pieces.{Text}
use Rattle.dump_workers.specs.Dumps.{DumpText, dump_from, dump_of, unit_dumped}
use Rattle.dump_workers.specs.Ends.{PublishedView}
use Rattle.dump_workers.specs.Passes.{HasAllPasses}
use Rattle.dump_workers.specs.TableKeys.{OwnsOnly, published_count}
use Rattle.dump_workers.specs.UnitDumps.{file_entries, unit_dump}
use Rattle.dump_workers.specs.declared.ends.RefusedUnit.{RefusedUnit}
use Rattle.unit_headers.specs.Headers.{unit_count}
use Rattle.dw_run.specs.declared.dump.FileDump.{FileDump}
use Rattle.dw_run.specs.declared.dump.FileDump.TheVariants as ends
use Rattle.dw_run.specs.declared.refusals.Refusal.{Refusal}
use Rattle.dw_run.specs.declared.refusals.Refusal.TheVariants as refusals
use Rattle.dw_run.specs.CommandTexts.{CommandText, unit_printed, units_printed}
use Rattle.dw_run.specs.DumpTexts.{PrintsDump, dump_printed, followed, sections_tell, stats_text, units_dumped}

abbrev as_refusal : RefusedUnit → Refusal
as_refusal r = refusals.Unit r.unit r.fault

-- a dump, as what a command prints
abbrev as_command : DumpText → CommandText
as_command d = record { text = d.text; refusal = option_map as_refusal d.refused }

dumped_unit : (unit : ℕ) (text : Text) (d : DumpText) (c : CommandText) → as_command d ≡ c → as_command (unit_dumped unit text d) ≡ unit_printed unit text c
dumped_unit unit (Ok text) d c same = rw (← same) refl
dumped_unit unit (Err f) d c same = refl

dumped_from : (n : ℕ) (s : SectionsView) (unit : ℕ) → as_command (dump_from s unit n) ≡ units_printed (unit_dump s) unit n
unfolding dump_from units_printed
dumped_from zero s unit = refl
dumped_from (suc n) s unit = dumped_unit unit (unit_dump s unit) (dump_from s (unit + 1) n) (units_printed (unit_dump s) (unit + 1) n) (dumped_from n s (unit + 1))

dumped_all : (s : SectionsView) → as_command (dump_of s) ≡ units_dumped s
unfolding dump_of units_dumped
dumped_all s = dumped_from (unit_count s.info s.order) s 0

-- what stands behind a whole dump
module _ (text more : List ℕ) (old mid new : Option (List ℕ)) where
  sent_behind : (refused : Option RefusedUnit) → None ≡ refused → Gains old mid text → Gains mid new more
      → (None ≡ option_map as_refusal refused) × Gains old new (followed (as_command (record { text = text; refused = refused })) more).text
  sent_behind None none gains sent = (refl, Gains-then old mid new text more gains sent)
  sent_behind (Some refused) none gains sent = absurd cc

  cut_behind : (refused : Option RefusedUnit) → None ≡ refused → Gains old mid text → GainsPart mid new more
      → GainsPart old new (followed (as_command (record { text = text; refused = refused })) more).text
  cut_behind None none gains part = GainsPart-then old mid new text more gains part
  cut_behind (Some refused) none gains part = absurd cc

-- a dump, and what stands behind it, as the command prints it
printed_as : (s : SectionsView) (stats : Bool) → followed (as_command (dump_of s)) (stats_text stats (published_count s)) ≡ dump_printed stats s
unfolding dump_printed
printed_as s stats = ap (λ (c : CommandText). followed c (stats_text stats (published_count s))) (dumped_all s)

pub whole_sent : (s : SectionsView) (stats : Bool) (number : ℕ) (published : PublishedView) (old mid new : Option (List ℕ))
    → None ≡ (dump_of s).refused → Gains old mid (dump_of s).text → number ≡ published_count s → Gains mid new (stats_text stats number)
    → PrintsDump {E = WriteStop} (Ok (ends.Whole published)) (dump_printed stats s) old new
whole_sent s stats number published old mid new none gains counted sent =
    subst (λ (c : CommandText). PrintsDump {E = WriteStop} (Ok (ends.Whole published)) c old new) (printed_as s stats)
    (sent_behind (dump_of s).text (stats_text stats (published_count s)) old mid new (dump_of s).refused none gains
    (subst (λ (n : ℕ). Gains mid new (stats_text stats n)) counted sent))

stopped_at : (r : Result FileDump WriteStop) (printed : CommandText) (old new : Option (List ℕ)) → IsErr r → GainsPart old new printed.text → PrintsDump r printed old new
stopped_at (Ok end) printed old new err part = absurd cc
stopped_at (Err stop) printed old new err part = part

pub whole_cut : (s : SectionsView) (stats : Bool) (number : ℕ) (r : Result FileDump WriteStop) (old mid new : Option (List ℕ))
    → None ≡ (dump_of s).refused → Gains old mid (dump_of s).text → number ≡ published_count s → GainsPart mid new (stats_text stats number)
    → IsErr r → PrintsDump r (dump_printed stats s) old new
whole_cut s stats number r old mid new none gains counted part err =
    stopped_at r (dump_printed stats s) old new err
    (subst (λ (c : CommandText). GainsPart old new c.text) (printed_as s stats)
    (cut_behind (dump_of s).text (stats_text stats (published_count s)) old mid new (dump_of s).refused none gains
    (subst (λ (n : ℕ). GainsPart mid new (stats_text stats n)) counted part)))

-- a dump that is refused
refused_alone : (text more : List ℕ) (refused : Option RefusedUnit) (found : RefusedUnit) (old new : Option (List ℕ))
    → Some found ≡ refused → Gains old new text
    → (Some (as_refusal found) ≡ option_map as_refusal refused) × Gains old new (followed (as_command (record { text = text; refused = refused })) more).text
refused_alone text more None found old new is gains = absurd cc
refused_alone text more (Some refused) found old new is gains =
    let alike : found ≡ refused = cc in
    (ap (λ (x : RefusedUnit). Some (as_refusal x)) alike, subst (Gains old new) (sym (append-nil text)) gains)

pub refused_printed : (s : SectionsView) (stats : Bool) (found : RefusedUnit) (old new : Option (List ℕ))
    → Some found ≡ (dump_of s).refused → Gains old new (dump_of s).text
    → PrintsDump {E = WriteStop} (Ok (ends.Refused (refusals.Unit found.unit found.fault))) (dump_printed stats s) old new
refused_printed s stats found old new is gains =
    subst (λ (c : CommandText). PrintsDump {E = WriteStop} (Ok (ends.Refused (as_refusal found))) c old new) (printed_as s stats)
    (refused_alone (dump_of s).text (stats_text stats (published_count s)) (dump_of s).refused found old new is gains)

-- a sink that stopped
pub stopped_printed : (s : SectionsView) (stats : Bool) (stop : WriteStop) (old new : Option (List ℕ)) → GainsPart old new (dump_of s).text
    → PrintsDump (Err stop) (dump_printed stats s) old new
stopped_printed s stats stop old new part =
    subst (λ (c : CommandText). PrintsDump (Err stop) c old new) (printed_as s stats) (GainsPart-more old new (dump_of s).text _ part)

-- what is told of a whole dump
pub told_whole : (workers : ℕ) (s : SectionsView) (p : PublishedView) → p.number ≡ published_count s → p.units ≡ unit_count s.info s.order
    → p.entries ≡ file_entries s → p.workers ≡ workers → p ≡ sections_tell workers s
unfolding sections_tell
told_whole workers s p number units entries all = rw (← number, ← units, ← entries, ← all) refl

-- # A file that was just opened

module _ (file : List ℕ) (passes : ℕ) (h : HandleView) (p : PassView) (opened : IsOpenedOn file passes h p) where
  pub opened_all : 1 ≤ passes → HasAllPasses p.knows
  opened_all some =
      let one : length p.knows.numbers ≡ 1 = ap length opened.numbers in
      let same : p.knows.layout.passes ≡ passes = ap (λ l. l.passes) opened.belongs.of_table.layout ∙ opened.passes_are in
      let spare = opened.spare in omega (arith, one, same, spare, some)

  pub opened_only : (s : SectionsView) → OwnsOnly s p
  opened_only s k has =
      absurd (subst (λ (es : List Entry). Contains (map (λ (e : Entry). e.key) es) k → ⊥) (sym (own_none p opened.front)) (λ none. none_has k none) has)
    where
      own_none : (p : PassView) → p.knows.front ≡ [] → own p.knows ≡ []
      own_none p front = rw front refl

      none_has : (k : ℕ) → Contains {X = ℕ} [] k → ⊥
      none_has k has = omega (arith, has.1)
