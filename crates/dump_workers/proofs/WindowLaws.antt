-- One window: what its seats are given, what comes back of them, and what the window leaves.
use Rattle.std.specs.Prelude.{◌≡◌, refl, ℕ, zero, suc, ◌+◌, ◌-◌, ◌*◌, ◌≤◌, ◌<◌, List, length, slice_index_or, Result, Ok, Err, IfOk, OnOk}
use Rattle.std.proofs.Common.{arith, sym, ap, ◌∙◌, subst}
use Rattle.elf_sections.specs.Shapes.{SectionsView}
use Rattle.map_cells.specs.Seen.{PassView, Follows}
use Rattle.map_cells.specs.FollowLaws.{follows_same}
use Rattle.handle_cache.specs.Handles.{HandleView, sections_in}
use Rattle.unit_draws.specs.declared.view.DrawView.{DrawView}
use Rattle.unit_draws.specs.declared.view.TheConstants.{MOST_SEATS}
use Rattle.unit_draws.specs.declared.windows.TheConstants.{WINDOW}
use Rattle.unit_draws.specs.Seats.{DrawsView, SeatView, IsSeatOf, HasEverySeat, first_seat, occurrences}
use Rattle.unit_draws.specs.Windows.{IsUnitOfWindow}
use Rattle.unit_draws.proofs.Occurrences.{occurrences-nil}
use Rattle.unit_headers.specs.Headers.{unit_count}
use Rattle.dump_workers.specs.declared.reading.Reading.{Reading}
use Rattle.dump_workers.specs.declared.seat.Work.{Work}
use Rattle.dump_workers.specs.declared.seat.Work.TheVariants.{Idle, Drawing, Drawn}
use Rattle.dump_workers.specs.FileKeys.{CountsUnits, GainsUnits, RefusesNone}
use Rattle.dump_workers.specs.Readings.{units_read}
use Rattle.dump_workers.specs.Seats.{DumpSeatView, EachBelongs, EachCounts, EachFollows, EachGains, SameSeat}
use Rattle.dump_workers.specs.Windows.{ComesBackWork, EachComesBack, EachNotes, HasServed, IsDrawnWork, IsGathered, IsHandedOut, IsHandedWork, IsReady, LeavesServed, MayJoinWork, MayServe, NoteWindow, NotesWork, ReadsWindow, SomeNotesReadings, SomeSeatNotesUnit, StandsBefore, with_spare}
use Rattle.dump_workers.proofs.ReadingLaws.{holds_of, none_behind}
use Rattle.dump_workers.proofs.SeatLaws.{belongs_at, counts_places, follows_places, gains_places, some_later}

-- # One seat

handed_open : (d : DrawsView) (first : DrawView) (window place : ℕ) (v : SeatView) → occurrences window first.ended ≡ 0 → IsHandedOut d first place v → occurrences window v.knows.ended ≡ 0
handed_open d first window zero v none handed = ap (λ (x : DrawView). occurrences window x.ended) (handed.is_first refl) ∙ none
handed_open d first window (suc place) v none handed = ap (occurrences window) (handed.fresh (omega arith)).ended ∙ occurrences-nil window

handed_ready : (d : DrawsView) (first : DrawView) (window place : ℕ) (work : Work) → occurrences window first.ended ≡ 0 → IsHandedWork d first place work → IsReady d window work
handed_ready d first window place (Drawing v) none handed = (handed.of_draws, handed_open d first window place v none handed)
handed_ready d first window place Idle none handed = absurd handed
handed_ready d first window place (Drawn v readings) none handed = absurd handed

comes_back : (d : DrawsView) (s : SectionsView) (window : ℕ) (first : DrawView) (place : ℕ) (old : DumpSeatView) (p : PassView) (given after : Work)
    → IsHandedWork d first place given → HasServed d s window old p given after → ComesBackWork d s window first place after
comes_back d s window first place old p (Drawing before) (Drawn v readings) handed served = record { before = before; handed = handed; served = served.0 }
comes_back d s window first place old p (Drawing before) Idle handed served = tt
comes_back d s window first place old p (Drawing before) (Drawing v) handed served = tt
comes_back d s window first place old p Idle after handed served = absurd handed
comes_back d s window first place old p (Drawn v readings) after handed served = absurd handed

served_notes : (d : DrawsView) (s : SectionsView) (window : ℕ) (first : DrawView) (place : ℕ) (old : DumpSeatView) (p : PassView) (given after : Work)
    → IsHandedWork d first place given → HasServed d s window old p given after → NotesWork s p after
served_notes d s window first place old p (Drawing before) (Drawn v readings) handed served = served.1
served_notes d s window first place old p (Drawing before) Idle handed served = tt
served_notes d s window first place old p (Drawing before) (Drawing v) handed served = tt
served_notes d s window first place old p Idle after handed served = absurd handed
served_notes d s window first place old p (Drawn v readings) after handed served = absurd handed

served_gains : (d : DrawsView) (s : SectionsView) (window : ℕ) (first : DrawView) (place : ℕ) (old : DumpSeatView) (p : PassView) (given after : Work)
    → IsHandedWork d first place given → IsDrawnWork after → HasServed d s window old p given after → GainsUnits s old.pass p
served_gains d s window first place old p (Drawing before) (Drawn v readings) handed drawn served = served.2
served_gains d s window first place old p (Drawing before) Idle handed drawn served = absurd drawn
served_gains d s window first place old p (Drawing before) (Drawing v) handed drawn served = absurd drawn
served_gains d s window first place old p Idle after handed drawn served = absurd handed
served_gains d s window first place old p (Drawn v readings) after handed drawn served = absurd handed

back_joins : (d : DrawsView) (s : SectionsView) (window : ℕ) (first : DrawView) (place : ℕ) (work : Work) → ComesBackWork d s window first place work → MayJoinWork d place work
back_joins d s window first place (Drawn v readings) back = (
  back.served.of_draws,
  λ behind is. (back.handed.fresh behind).number (sym back.served.keeps.number ∙ is),
)
back_joins d s window first place Idle back = tt
back_joins d s window first place (Drawing v) back = tt

-- # All seats: before the window, with draw seats, served, and gathered

module _ (h : HandleView) (d : DrawsView) (window : ℕ) (first : DrawView) (old given : List DumpSeatView) (sizes : length given ≡ length old)
    (same : (i : ℕ) (e : DumpSeatView) → i < length old → SameSeat (slice_index_or old i e) (slice_index_or given i e))
    (handed : (i : ℕ) (e : DumpSeatView) → i < length old → IsHandedWork d first i (slice_index_or given i e).work) where
  pub all_may_serve : EachBelongs h old → occurrences window first.ended ≡ 0 → (i : ℕ) (e : DumpSeatView) → i < length given → MayServe h d window (slice_index_or given i e)
  all_may_serve belong none i e low = let inside : i < length old = omega (arith, sizes, low) in record {
    belongs = rw (same i e inside).pass (belongs_at h old i e belong inside);
    ready = handed_ready d first window i (slice_index_or given i e).work none (handed i e inside);
  }

  module _ (served : List DumpSeatView) (as_many : length served ≡ length given)
      (each : (i : ℕ) (e : DumpSeatView) → i < length given → LeavesServed h d window (slice_index_or given i e) (slice_index_or served i e)) where
    at_place : (i : ℕ) (e : DumpSeatView) → i < length old → LeavesServed h d window (slice_index_or given i e) (slice_index_or served i e)
    at_place i e low = each i e (omega (arith, sizes, low))

    inside_old : (i : ℕ) → i < length served → i < length old
    inside_old i low = omega (arith, sizes, as_many, low)

    pub all_come_back : EachComesBack d (sections_in h) window first served
    all_come_back i e low = comes_back d (sections_in h) window first i (slice_index_or given i e) (slice_index_or served i e).pass
        (slice_index_or given i e).work (slice_index_or served i e).work (handed i e (inside_old i low)) (at_place i e (inside_old i low)).served

    pub all_may_join : (i : ℕ) (e : DumpSeatView) → i < length served → MayJoinWork d i (slice_index_or served i e).work
    all_may_join i e low = back_joins d (sections_in h) window first i (slice_index_or served i e).work (all_come_back i e low)

    pub all_note : EachNotes (sections_in h) served
    all_note i e low = served_notes d (sections_in h) window first i (slice_index_or given i e) (slice_index_or served i e).pass
        (slice_index_or given i e).work (slice_index_or served i e).work (handed i e (inside_old i low)) (at_place i e (inside_old i low)).served

    module _ (new : List DumpSeatView) (new_many : length new ≡ length served)
        (kept : (i : ℕ) (e : DumpSeatView) → i < length served → SameSeat (slice_index_or served i e) (slice_index_or new i e)) where
      kept_at : (i : ℕ) (e : DumpSeatView) → i < length old → SameSeat (slice_index_or served i e) (slice_index_or new i e)
      kept_at i e low = kept i e (omega (arith, sizes, as_many, low))

      pub window_follows : EachFollows old new
      window_follows = follows_places old new (omega (arith, sizes, as_many, new_many)) (λ i e low.
          rw (kept_at i e low).pass (subst (λ (p : PassView). Follows p (slice_index_or served i e).pass) (same i e low).pass (at_place i e low).follows))

      pub window_gains : ((i : ℕ) (e : DumpSeatView) → i < length served → IsDrawnWork (slice_index_or served i e).work) → EachGains (sections_in h) old new
      window_gains drawn = gains_places (sections_in h) old new (omega (arith, sizes, as_many, new_many)) (λ i e low.
          gains_kept (slice_index_or old i e) (slice_index_or given i e) (slice_index_or served i e) (slice_index_or new i e) (same i e low) (kept_at i e low)
          (served_gains d (sections_in h) window first i (slice_index_or given i e) (slice_index_or served i e).pass
          (slice_index_or given i e).work (slice_index_or served i e).work (handed i e low) (drawn i e (omega (arith, sizes, as_many, low))) (at_place i e low).served))
        where
          gains_kept : (o g t n : DumpSeatView) → SameSeat o g → SameSeat t n → GainsUnits (sections_in h) g.pass t.pass → GainsUnits (sections_in h) o.pass n.pass
          gains_kept o g t n p q gains = rw (q.pass, ← p.pass) gains

      -- whatever was gathered
      pub window_counts : EachCounts (sections_in h) old new
      window_counts = counts_places (sections_in h) old new (omega (arith, sizes, as_many, new_many)) (λ i e low.
          counts_kept (slice_index_or old i e) (slice_index_or given i e) (slice_index_or served i e) (slice_index_or new i e) (same i e low) (kept_at i e low)
          (at_place i e low).counts)
        where
          counts_kept : (o g t n : DumpSeatView) → SameSeat o g → SameSeat t n → CountsUnits (sections_in h) g.pass g.steps t.steps → CountsUnits (sections_in h) o.pass o.steps n.steps
          counts_kept o g t n p q counts = rw (q.steps, ← p.pass, ← p.steps) counts

      kept_seats : EachFollows served new
      kept_seats = follows_places served new new_many (λ i e low. rw (kept i e low).pass (follows_same (slice_index_or served i e).pass))

      -- each unit that was read is noted behind the window too
      pub window_notes : (readings : List Reading) → SomeNotesReadings (sections_in h) served readings
          → ((u : ℕ) → WINDOW * window ≤ u → u < WINDOW * (window + 1) → u < unit_count (sections_in h).info (sections_in h).order → occurrences u (units_read readings) ≡ 1)
          → RefusesNone (sections_in h) → NoteWindow (sections_in h) window new
      window_notes readings notes once none u from below counted =
          some_later (sections_in h) u served new kept_seats
          (holds_of (λ (x : ℕ). SomeSeatNotesUnit (sections_in h) x served) u readings (notes none)
          (let one = once u from below counted in omega (arith, one)))

-- # The first draw seat behind the window

module _ (d : DrawsView) (s : SectionsView) (window others : ℕ) (v w : SeatView) (readings : List Reading) (units : d.sizes.units ≡ unit_count s.info s.order)
    (stands : StandsBefore d window v) (room : others ≤ v.knows.spare) (gathered : IsGathered d s window (with_spare v.knows (v.knows.spare - others)) others w readings) where
  made_then : length w.knows.numbers + w.knows.spare ≡ d.sizes.seats
  made_then =
      let a = gathered.numbers in let b = gathered.spare in let c = stands.made in omega (arith, a, b, c, room)

  every_seat : HasEverySeat w.knows
  every_seat = record {
    first = gathered.number ∙ stands.number;
    all = let all = made_then in let seats = gathered.of_draws.seats in omega (arith, all, seats);
  }

  pub reads_once : (u : ℕ) → WINDOW * window ≤ u → u < WINDOW * (window + 1) → u < unit_count s.info s.order → occurrences u (units_read readings) ≡ 1
  reads_once u from below counted =
      let inside : IsUnitOfWindow w.knows.units window u = record { counted = rw (gathered.of_draws.units ∙ units) counted; from = from; below = below } in
      let one : occurrences u w.knows.drawn ≡ 1 = gathered.all every_seat u inside in
      let sum : occurrences u w.knows.drawn ≡ occurrences u v.knows.drawn + occurrences u (units_read readings) = gathered.drawn u in
      let none : occurrences u v.knows.drawn ≡ 0 = stands.drawn u from in omega (arith, one, sum, none)

  pub reads_window : ReadsWindow s window readings
  reads_window = record { each = gathered.each; once = reads_once }

  pub stands_then : others ≤ 63 → StandsBefore d (window + 1) w
  stands_then few = record {
    of_draws = gathered.of_draws;
    number = gathered.number ∙ stands.number;
    some = let a = gathered.numbers in let b = stands.some in omega (arith, a, b);
    made = made_then;
    enough = let a = gathered.spare in let b = stands.enough in omega (arith, a, b, few, room);
    drawn = λ u far.
        let sum : occurrences u w.knows.drawn ≡ occurrences u v.knows.drawn + occurrences u (units_read readings) = gathered.drawn u in
        let none : occurrences u v.knows.drawn ≡ 0 = stands.drawn u (omega (arith, far)) in
        let here : occurrences u (units_read readings) ≡ 0 = none_behind s window u readings gathered.each far in omega (arith, sum, none, here);
    ended = λ x far. gathered.ended x (λ is. omega (arith, is, far)) ∙ stands.ended x (omega (arith, far));
  }

-- # Answers

pub if_ok : {A E : Type 0} (r : Result A E) (P Q : A → Type 0) → IfOk r P → ((x : A) → P x → Q x) → IfOk r Q
if_ok (Ok x) P Q p after = after x p
if_ok (Err e) P Q p after = tt

pub on_ok : {A E : Type 0} (r : Result A E) (P Q : Type 0) → OnOk r P → (P → Q) → OnOk r Q
on_ok (Ok x) P Q p after = after p
on_ok (Err e) P Q p after = tt

pub ok_both : {A E : Type 0} (r : Result A E) (P P' : A → Type 0) (Q : Type 0) → IfOk r P → IfOk r P' → ((x : A) → P x → P' x → Q) → OnOk r Q
ok_both (Ok x) P P' Q p p' after = after x p p'
ok_both (Err e) P P' Q p p' after = tt

-- # Before the first window

pub stands_first : (d : DrawsView) (v : SeatView) → IsSeatOf d v → v.knows ≡ first_seat d.sizes d.tag → d.sizes.seats ≡ MOST_SEATS → StandsBefore d 0 v
stands_first d v of_draws is seats =
    let numbers : length v.knows.numbers ≡ 1 = ap (λ (x : DrawView). length x.numbers) is in
    let spare : v.knows.spare ≡ d.sizes.seats - 1 = ap (λ (x : DrawView). x.spare) is in
    let most : d.sizes.seats ≡ 65536 = seats in
    record {
      of_draws = of_draws;
      number = ap (λ (x : DrawView). x.number) is;
      some = omega (arith, numbers);
      made = omega (arith, numbers, spare, most);
      enough = omega (arith, spare, most);
      drawn = λ u from. ap (λ (x : DrawView). occurrences u x.drawn) is ∙ occurrences-nil u;
      ended = λ w from. ap (λ (x : DrawView). occurrences w x.ended) is ∙ occurrences-nil w;
    }
