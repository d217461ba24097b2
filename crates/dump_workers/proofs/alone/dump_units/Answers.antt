use Rattle.std.proofs.Common.{◌≡◌, ◌+◌, ◌-◌, ◌∙◌, ℕ, refl, ap, subst, arith, Ok, Err, Some, None}
use Rattle.map_cells.specs.FollowLaws.{follows_then}
use Rattle.handle_cache.specs.Handles.{sections_in}
use Rattle.unit_headers.specs.Headers.{unit_count}
use Rattle.unit_headers.specs.Refusals.{Refuses}
use Rattle.unit_headers.specs.declared.refusal.UnitRefusal.{UnitRefusal}
use Rattle.unit_headers.specs.Units.{Units}
use Rattle.dump_workers.specs.declared.ends.DumpFault.TheVariants as dump_faults
use Rattle.dump_workers.specs.Dumps.{dump_from}
use Rattle.dump_workers.specs.UnitDumps.{unit_dump}
use Rattle.dump_workers.proofs.AloneLaws.{as_dump, as_entries, notes_next}
use Rattle.dump_workers.proofs.DumpLaws.{printed_cut, printed_done, printed_next, printed_nothing, printed_refused}
use Rattle.dump_workers.proofs.PrintLemmas.{entries_all, entries_more}
use Rattle.dump_workers.proofs.UnitKeys.{counts_then, gains_refused, gains_then, gains_unit}
use Rattle.dump_workers.proofs.alone.dump_units.Goals as goal

pub returns-in-Refused-clause-dump : goal.returns-in-Refused-clause-dump
returns-in-Refused-clause-dump g c =
    let s = sections_in c.args.handle.now in
    let units : ℕ = c.count-units.result in
    let count : units ≡ unit_count s.info s.order = c.count-units.ensures.count ∙ ap (λ (u : Units). unit_count u.info u.order) c.index.ensures in
    let read : unit_dump s c.units.unit ≡ Err c.in-Refused.fault = subst (λ (e : UnitRefusal). Refuses e (unit_dump s c.units.unit)) c.in-Refused.is c.in-Err.ensures.text in
    as_dump s units (Ok (Some (record { unit = c.units.unit; fault = c.in-Refused.fault }))) _ _ count
    (c.units.invariant.printed (Ok (Some (record { unit = c.units.unit; fault = c.in-Refused.fault }))) _
    (printed_refused s c.units.unit _ (units - (c.units.unit + 1)) c.in-Refused.fault _ (omega (arith, c.units-test.true)) read))

pub returns-in-OutOfMemory-clause-dump : goal.returns-in-OutOfMemory-clause-dump
returns-in-OutOfMemory-clause-dump g c =
    let s = sections_in c.args.handle.now in
    let units : ℕ = c.count-units.result in
    let count : units ≡ unit_count s.info s.order = c.count-units.ensures.count ∙ ap (λ (u : Units). unit_count u.info u.order) c.index.ensures in
    as_dump s units (Err dump_faults.OutOfMemory) _ _ count
    (c.units.invariant.printed (Err dump_faults.OutOfMemory) _ (printed_nothing (dump_from s c.units.unit (units - c.units.unit)) _ dump_faults.OutOfMemory))

pub returns-in-Refused-clause-gains : goal.returns-in-Refused-clause-gains
returns-in-Refused-clause-gains g c =
    let s = sections_in c.args.handle.now in
    let unit : ℕ = c.units.unit in
    let units : ℕ = c.count-units.result in
    let count : units ≡ unit_count s.info s.order = c.count-units.ensures.count ∙ ap (λ (u : Units). unit_count u.info u.order) c.index.ensures in
    let read : unit_dump s unit ≡ Err c.in-Refused.fault = subst (λ (e : UnitRefusal). Refuses e (unit_dump s unit)) c.in-Refused.is c.in-Err.ensures.text in
    gains_refused s unit c.in-Refused.fault c.args.pass.now c.read_text-read.new.pass (omega (arith, count, c.units-test.true)) read

pub returns-in-Refused-clause-counts : goal.returns-in-Refused-clause-counts
returns-in-Refused-clause-counts g c =
    let before = c.units.invariant in
    counts_then (sections_in c.args.handle.now) c.args.pass.now c.units.pass c.args.steps.now c.units.steps c.read_text-read.new.steps before.follows before.counts c.in-Err.ensures.counts

pub returns-in-OutOfMemory-clause-counts : goal.returns-in-OutOfMemory-clause-counts
returns-in-OutOfMemory-clause-counts g c =
    let before = c.units.invariant in
    counts_then (sections_in c.args.handle.now) c.args.pass.now c.units.pass c.args.steps.now c.units.steps c.read_text-read.new.steps before.follows before.counts c.in-Err.ensures.counts

pub returns-in-Err-print_text-clause-counts : goal.returns-in-Err-print_text-clause-counts
returns-in-Err-print_text-clause-counts g c =
    let before = c.units.invariant in
    counts_then (sections_in c.args.handle.now) c.args.pass.now c.units.pass c.args.steps.now c.units.steps c.read_text-read.new.steps before.follows before.counts c.in-Ok.ensures.counts

pub returns-in-Err-print_text-clause-dump : goal.returns-in-Err-print_text-clause-dump
returns-in-Err-print_text-clause-dump g c =
    let s = sections_in c.args.handle.now in
    let units : ℕ = c.count-units.result in
    let count : units ≡ unit_count s.info s.order = c.count-units.ensures.count ∙ ap (λ (u : Units). unit_count u.info u.order) c.index.ensures in
    as_dump s units (Err c.in-Err-print_text.fault) _ _ count
    (c.units.invariant.printed (Err c.in-Err-print_text.fault) _
    (printed_cut s c.units.unit _ (units - (c.units.unit + 1)) c.read_text-read.new.text.items c.as_slice.result.now _ _ c.in-Err-print_text.fault (omega (arith, c.units-test.true))
    c.in-Ok.ensures.text c.as_slice.ensures.value c.in-Err-print_text.ensures.part))

pub units-preserved : goal.units-preserved
units-preserved g c =
    let s = sections_in c.args.handle.now in
    let units : ℕ = c.count-units.result in
    let unit : ℕ = c.units.unit in
    let before = c.units.invariant in
    let count : units ≡ unit_count s.info s.order = c.count-units.ensures.count ∙ ap (λ (u : Units). unit_count u.info u.order) c.index.ensures in
    record {
      printed = λ r new p. before.printed r new
          (printed_next s unit _ (units - (unit + 1)) c.read_text-read.new.text.items c.as_slice.result.now (g.O.Sink.held c.units.out) (g.O.Sink.held c.print_text.new.out) new r
          (omega (arith, c.units-test.true)) c.in-Ok.ensures.text c.as_slice.ensures.value c.in-Ok-print_text.ensures.whole p);
      entries = entries_more s unit _ (units - (unit + 1)) c.units.entries c.from-entries.result c.in-Ok.count _ (omega (arith, c.units-test.true))
          c.in-Ok.ensures.entries c.from-entries.ensures before.entries;
      room = omega arith;
      belongs = c.in-Ok.ensures.belongs;
      follows = follows_then c.args.pass.now c.units.pass c.read_text-read.new.pass before.follows c.in-Ok.ensures.follows;
      gains = gains_then s c.args.pass.now c.units.pass c.read_text-read.new.pass before.gains
          (gains_unit s unit c.units.pass c.read_text-read.new.pass (omega (arith, count, c.units-test.true)) c.in-Ok.ensures.gains);
      counts = counts_then s c.args.pass.now c.units.pass c.args.steps.now c.units.steps c.read_text-read.new.steps before.follows before.counts c.in-Ok.ensures.counts;
      walks = c.in-Ok.ensures.walks;
      noted = notes_next s unit c.units.pass c.read_text-read.new.pass c.in-Ok.ensures.follows before.noted c.in-Ok.ensures.noted;
      later = let a = before.later in let b = c.print_text.ensures.cause.later in omega (arith, a, b);
    }

pub returns-clause-dump : goal.returns-clause-dump
returns-clause-dump g c =
    let s = sections_in c.args.handle.now in
    let units : ℕ = c.count-units.result in
    let count : units ≡ unit_count s.info s.order = c.count-units.ensures.count ∙ ap (λ (u : Units). unit_count u.info u.order) c.index.ensures in
    as_dump s units (Ok None) _ _ count
    (c.units.invariant.printed (Ok None) _ (printed_done s c.units.unit (units - c.units.unit) _ (omega (arith, c.units-test.false))))

pub returns-clause-whole : goal.returns-clause-whole
returns-clause-whole g c =
    let s = sections_in c.args.handle.now in
    let units : ℕ = c.count-units.result in
    let count : units ≡ unit_count s.info s.order = c.count-units.ensures.count ∙ ap (λ (u : Units). unit_count u.info u.order) c.index.ensures in (
      count,
      as_entries s units c.units.entries count
          (entries_all s c.units.unit (units - c.units.unit) c.units.entries _ (omega (arith, c.units-test.false)) c.units.invariant.entries),
      refl,
    )
