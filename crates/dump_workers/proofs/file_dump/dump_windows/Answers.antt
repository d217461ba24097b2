use Rattle.std.proofs.Common.{◌≡◌, ◌≤◌, ◌<◌, ◌+◌, ◌-◌, ◌*◌, ◌∙◌, ℕ, refl, ap, subst, arith, Ok, None}
use Rattle.handle_cache.specs.Handles.{sections_in}
use Rattle.unit_headers.specs.Headers.{unit_count}
use Rattle.unit_headers.specs.Units.{Units}
use Rattle.unit_draws.specs.Windows.{window_count}
use Rattle.unit_draws.specs.declared.windows.TheConstants.{WINDOW}
use Rattle.dump_workers.specs.Dumps.{Prints, dump_from}
use Rattle.dump_workers.specs.UnitDumps.{entries_from}
use Rattle.dump_workers.specs.Windows.{NoteBelow}
use Rattle.dump_workers.proofs.SeatLaws.{each_counts_same, each_counts_then, each_gains_same, each_gains_then, each_length, each_same, each_then}
use Rattle.dump_workers.proofs.WindowSums.{entries_begin, entries_whole, entries_window, notes_begin, notes_whole, notes_window, refuses_some, units_below, windows_begin, windows_done, windows_end, windows_stop, windows_then}
use Rattle.dump_workers.proofs.file_dump.dump_windows.Goals as goal

pub windows-init : goal.windows-init
windows-init g c =
    let s = sections_in c.args.handle.now in
    let none : units_below c.count-units.result 0 ≡ 0 = omega arith in record {
      printed = windows_begin s c.count-units.result (g.O.Sink.held c.args.out.now);
      entries = entries_begin s c.count-units.result;
      room = omega arith;
      belong = c.requires.belong;
      follow = each_same c.args.seats.now.items;
      gains = each_gains_same s c.args.seats.now.items;
      counts = each_counts_same s c.args.seats.now.items;
      noted = λ given. notes_begin s c.count-units.result c.args.seats.now.items;
      stands = c.requires.stands;
      size = refl;
      later = omega arith;
    }

pub returns-in-Ok-default-Some-clause-dump : goal.returns-in-Ok-default-Some-clause-dump
returns-in-Ok-default-Some-clause-dump g c =
    let s = sections_in c.args.handle.now in
    let units : ℕ = c.count-units.result in
    let w : ℕ = c.windows.window in
    let count : units ≡ unit_count s.info s.order = c.count-units.ensures.count ∙ ap (λ (u : Units). unit_count u.info u.order) c.index.ensures in
    let all = c.count_windows-window-end.ensures in
    let below : w < window_count units = omega (arith, all, c.windows-test.true) in
    let end_is : c.min-end.result ≡ units_below units (w + 1) = let e = c.min-end.ensures in omega (arith, e) in
    windows_end s units w (WINDOW * w) c.min-end.result (g.O.Sink.held c.args.out.now) (g.O.Sink.held c.windows.out) (g.O.Sink.held c.dump_window.new.out) c.in-Ok-default-Some.refused
    refl (omega (arith, below, end_is)) (omega (arith, end_is)) count c.windows.invariant.printed (rw c.in-Ok-default-Some.field-0-1-is at c.in-Ok-default-Some.ensures.printed)

pub returns-in-Ok-default-Some-clause-follow : goal.returns-in-Ok-default-Some-clause-follow
returns-in-Ok-default-Some-clause-follow g c = each_then c.args.seats.now.items c.windows.seats.items c.dump_window.new.seats.items c.windows.invariant.follow c.in-Ok-default-Some.ensures.follow

pub returns-in-Ok-default-Some-clause-gains : goal.returns-in-Ok-default-Some-clause-gains
returns-in-Ok-default-Some-clause-gains g c =
    each_gains_then (sections_in c.args.handle.now) c.args.seats.now.items c.windows.seats.items c.dump_window.new.seats.items
    c.windows.invariant.gains c.in-Ok-default-Some.ensures.gains

pub returns-in-Ok-default-Some-clause-counts : goal.returns-in-Ok-default-Some-clause-counts
returns-in-Ok-default-Some-clause-counts g c =
    each_counts_then (sections_in c.args.handle.now) c.args.seats.now.items c.windows.seats.items c.dump_window.new.seats.items
    c.windows.invariant.follow c.windows.invariant.counts c.in-Ok-default-Some.ensures.counts

pub returns-in-Ok-default-Some-clause-noted : goal.returns-in-Ok-default-Some-clause-noted
returns-in-Ok-default-Some-clause-noted g c =
    let s = sections_in c.args.handle.now in
    let units : ℕ = c.count-units.result in
    let w : ℕ = c.windows.window in
    let count : units ≡ unit_count s.info s.order = c.count-units.ensures.count ∙ ap (λ (u : Units). unit_count u.info u.order) c.index.ensures in
    let all = c.count_windows-window-end.ensures in
    let below : w < window_count units = omega (arith, all, c.windows-test.true) in
    let end_is : c.min-end.result ≡ units_below units (w + 1) = let e = c.min-end.ensures in omega (arith, e) in
    let inside : WINDOW * w + (c.min-end.result - WINDOW * w) ≤ unit_count s.info s.order = omega (arith, below, end_is, count) in
    λ none. refuses_some s (WINDOW * w) (c.min-end.result - WINDOW * w) c.in-Ok-default-Some.refused (g.O.Sink.held c.windows.out) (g.O.Sink.held c.dump_window.new.out)
    inside (rw c.in-Ok-default-Some.field-0-1-is at c.in-Ok-default-Some.ensures.printed) none

pub returns-in-Err-clause-dump : goal.returns-in-Err-clause-dump
returns-in-Err-clause-dump g c =
    let s = sections_in c.args.handle.now in
    let units : ℕ = c.count-units.result in
    let w : ℕ = c.windows.window in
    let count : units ≡ unit_count s.info s.order = c.count-units.ensures.count ∙ ap (λ (u : Units). unit_count u.info u.order) c.index.ensures in
    let all = c.count_windows-window-end.ensures in
    let below : w < window_count units = omega (arith, all, c.windows-test.true) in
    let end_is : c.min-end.result ≡ units_below units (w + 1) = let e = c.min-end.ensures in omega (arith, e) in
    windows_stop s units w (WINDOW * w) c.min-end.result (g.O.Sink.held c.args.out.now) (g.O.Sink.held c.windows.out) (g.O.Sink.held c.dump_window.new.out) c.in-Err.fault
    refl (omega (arith, below, end_is)) (omega (arith, end_is)) count c.windows.invariant.printed c.in-Err.ensures.part

pub returns-in-Err-clause-follow : goal.returns-in-Err-clause-follow
returns-in-Err-clause-follow g c =
    each_then c.args.seats.now.items c.windows.seats.items c.dump_window.new.seats.items c.windows.invariant.follow c.in-Err.ensures.follow

pub returns-in-Err-clause-counts : goal.returns-in-Err-clause-counts
returns-in-Err-clause-counts g c =
    each_counts_then (sections_in c.args.handle.now) c.args.seats.now.items c.windows.seats.items c.dump_window.new.seats.items
    c.windows.invariant.follow c.windows.invariant.counts c.in-Err.ensures.counts

pub windows-preserved : goal.windows-preserved
windows-preserved g c =
    let s = sections_in c.args.handle.now in
    let units : ℕ = c.count-units.result in
    let w : ℕ = c.windows.window in
    let before = c.windows.invariant in
    let count : units ≡ unit_count s.info s.order = c.count-units.ensures.count ∙ ap (λ (u : Units). unit_count u.info u.order) c.index.ensures in
    let all = c.count_windows-window-end.ensures in
    let below : w < window_count units = omega (arith, all, c.windows-test.true) in
    let end : ℕ = c.min-end.result in
    let end_is : end ≡ units_below units (w + 1) = let e = c.min-end.ensures in omega (arith, e) in
    let order : WINDOW * w ≤ end = omega (arith, below, end_is) in
    let inside : end ≤ units = omega (arith, end_is) in
    record {
      printed = subst (λ (n : ℕ). Prints (Ok None) (dump_from s 0 n) (g.O.Sink.held c.args.out.now) (g.O.Sink.held c.dump_window.new.out)) end_is
          (windows_then s units w (WINDOW * w) end (g.O.Sink.held c.args.out.now) (g.O.Sink.held c.windows.out) (g.O.Sink.held c.dump_window.new.out) (Ok None)
          refl order inside before.printed (rw c.in-Ok-default-None.field-0-1-is at c.in-Ok-default-None.ensures.printed));
      entries = entries_window s units w (WINDOW * w) end c.windows.entries c.dump_window.new.entries refl order inside before.entries (c.in-Ok-default-None.ensures.entries c.in-Ok-default-None.field-0-1-is)
          ∙ ap (entries_from s 0) end_is;
      room = let room = c.in-Ok-default-None.ensures.room c.in-Ok-default-None.field-0-1-is in omega (arith, room, end_is);
      belong = c.in-Ok-default-None.ensures.belong;
      follow = each_then c.args.seats.now.items c.windows.seats.items c.dump_window.new.seats.items before.follow c.in-Ok-default-None.ensures.follow;
      gains = each_gains_then s c.args.seats.now.items c.windows.seats.items c.dump_window.new.seats.items before.gains c.in-Ok-default-None.ensures.gains;
      counts = each_counts_then s c.args.seats.now.items c.windows.seats.items c.dump_window.new.seats.items before.follow before.counts c.in-Ok-default-None.ensures.counts;
      noted = λ none. subst (λ (n : ℕ). NoteBelow s n c.dump_window.new.seats.items) end_is
          (notes_window s units w end c.windows.seats.items c.dump_window.new.seats.items (omega (arith, end_is)) c.in-Ok-default-None.ensures.follow (before.noted none) count
          (c.in-Ok-default-None.ensures.noted none));
      stands = c.in-Ok-default-None.ensures.stands;
      size = each_length c.windows.seats.items c.dump_window.new.seats.items c.in-Ok-default-None.ensures.follow ∙ before.size;
      later = let a = before.later in let b = c.dump_window.ensures.cause.later in omega (arith, a, b);
    }

pub returns-clause-dump : goal.returns-clause-dump
returns-clause-dump g c =
    let s = sections_in c.args.handle.now in
    let units : ℕ = c.count-units.result in
    let count : units ≡ unit_count s.info s.order = c.count-units.ensures.count ∙ ap (λ (u : Units). unit_count u.info u.order) c.index.ensures in
    let all = c.count_windows-window-end.ensures in
    let end : window_count units ≤ c.windows.window = omega (arith, all, c.windows-test.false) in
    windows_done s units c.windows.window (g.O.Sink.held c.args.out.now) (g.O.Sink.held c.windows.out) count end c.windows.invariant.printed

pub returns-clause-whole : goal.returns-clause-whole
returns-clause-whole g c =
    let s = sections_in c.args.handle.now in
    let units : ℕ = c.count-units.result in
    let count : units ≡ unit_count s.info s.order = c.count-units.ensures.count ∙ ap (λ (u : Units). unit_count u.info u.order) c.index.ensures in
    let all = c.count_windows-window-end.ensures in
    let end : window_count units ≤ c.windows.window = omega (arith, all, c.windows-test.false) in (
      count,
      entries_whole s units c.windows.window c.windows.entries count end c.windows.invariant.entries,
      c.len-workers.ensures ∙ c.windows.seats.ok.0 ∙ c.windows.invariant.size,
    )

pub returns-clause-noted : goal.returns-clause-noted
returns-clause-noted g c =
    let s = sections_in c.args.handle.now in
    let units : ℕ = c.count-units.result in
    let count : units ≡ unit_count s.info s.order = c.count-units.ensures.count ∙ ap (λ (u : Units). unit_count u.info u.order) c.index.ensures in
    let all = c.count_windows-window-end.ensures in
    let end : window_count units ≤ c.windows.window = omega (arith, all, c.windows-test.false) in
    λ none. notes_whole s units c.windows.window c.windows.seats.items count end (c.windows.invariant.noted none)
