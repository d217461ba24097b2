use Rattle.std.proofs.Common.{◌≡◌, ◌≤◌, ◌+◌, ◌-◌, ℕ, subst, arith, length}
use Rattle.handle_cache.specs.Handles.{sections_in}
use Rattle.dump_workers.specs.FileKeys.{RefusesNone}
use Rattle.dump_workers.specs.Windows.{IsGathered, NoteWindow, ReadsWindow, StandsBefore, with_spare}
use Rattle.dump_workers.proofs.SeatLaws.{each_belongs}
use Rattle.dump_workers.proofs.WindowLaws.{all_come_back, all_may_serve, all_note, if_ok, ok_both, on_ok, reads_once, reads_window, stands_then, window_counts, window_follows, window_gains, window_notes}
use Rattle.dump_workers.proofs.window.read_window.Goals as goal

pub serve_all-requires-clause-serve : goal.serve_all-requires-clause-serve
serve_all-requires-clause-serve g c κs within =
    let n : ℕ = length c.args.seats.now.items in
    all_may_serve c.args.handle.now c.args.draws.now c.args.window (with_spare c.args.first.knows (c.args.first.knows.spare - (n - 1)))
    c.args.seats.now.items c.hand_out.new.seats.items c.hand_out.ensures.length c.hand_out.ensures.same c.hand_out.ensures.handed
    c.requires.belong (c.requires.stands.ended c.args.window (omega arith))

pub returns-clause-follow : goal.returns-clause-follow
returns-clause-follow g c =
    let n : ℕ = length c.args.seats.now.items in
    window_follows c.args.handle.now c.args.draws.now c.args.window (with_spare c.args.first.knows (c.args.first.knows.spare - (n - 1)))
    c.args.seats.now.items c.hand_out.new.seats.items c.hand_out.ensures.length c.hand_out.ensures.same c.hand_out.ensures.handed
    c.serve_all.new.seats.items c.serve_all.ensures.served.size c.serve_all.ensures.served.each c.gather.new.seats.items c.gather.ensures.length c.gather.ensures.same

pub returns-clause-belong : goal.returns-clause-belong
returns-clause-belong g c =
    let n : ℕ = length c.args.seats.now.items in
    each_belongs c.args.handle.now c.args.seats.now.items c.gather.new.seats.items c.requires.belong
    (window_follows c.args.handle.now c.args.draws.now c.args.window (with_spare c.args.first.knows (c.args.first.knows.spare - (n - 1)))
    c.args.seats.now.items c.hand_out.new.seats.items c.hand_out.ensures.length c.hand_out.ensures.same c.hand_out.ensures.handed
    c.serve_all.new.seats.items c.serve_all.ensures.served.size c.serve_all.ensures.served.each c.gather.new.seats.items c.gather.ensures.length c.gather.ensures.same)

pub returns-clause-stands : goal.returns-clause-stands
returns-clause-stands g c =
    let n : ℕ = length c.args.seats.now.items in
    let first = with_spare c.args.first.knows (c.args.first.knows.spare - (n - 1)) in
    let s = sections_in c.args.handle.now in
    let back = all_come_back c.args.handle.now c.args.draws.now c.args.window first
    c.args.seats.now.items c.hand_out.new.seats.items c.hand_out.ensures.length c.hand_out.ensures.same c.hand_out.ensures.handed
    c.serve_all.new.seats.items c.serve_all.ensures.served.size c.serve_all.ensures.served.each in
    let same : length c.serve_all.new.seats.items - 1 ≡ n - 1 = let a = c.serve_all.ensures.served.size in let b = c.hand_out.ensures.length in omega (arith, a, b) in
    let few : n - 1 ≤ 63 = let a = c.requires.few in omega (arith, a) in
    let room : n - 1 ≤ c.args.first.knows.spare = let a = c.requires.stands.enough in let b = c.requires.windows in omega (arith, a, b, few) in
    if_ok c.gather.result _ (λ r. StandsBefore c.args.draws.now (c.args.window + 1) r.0) c.gather.ensures.gathered
    (λ r gathered. stands_then c.args.draws.now s c.args.window (n - 1) c.args.first r.0 r.1.items c.requires.units c.requires.stands room
    (subst (λ (k : ℕ). IsGathered c.args.draws.now s c.args.window first k r.0 r.1.items) same (gathered s c.args.window first back)) few)

pub returns-clause-reads : goal.returns-clause-reads
returns-clause-reads g c =
    let n : ℕ = length c.args.seats.now.items in
    let first = with_spare c.args.first.knows (c.args.first.knows.spare - (n - 1)) in
    let s = sections_in c.args.handle.now in
    let back = all_come_back c.args.handle.now c.args.draws.now c.args.window first
    c.args.seats.now.items c.hand_out.new.seats.items c.hand_out.ensures.length c.hand_out.ensures.same c.hand_out.ensures.handed
    c.serve_all.new.seats.items c.serve_all.ensures.served.size c.serve_all.ensures.served.each in
    let same : length c.serve_all.new.seats.items - 1 ≡ n - 1 = let a = c.serve_all.ensures.served.size in let b = c.hand_out.ensures.length in omega (arith, a, b) in
    let few : n - 1 ≤ 63 = let a = c.requires.few in omega (arith, a) in
    let room : n - 1 ≤ c.args.first.knows.spare = let a = c.requires.stands.enough in let b = c.requires.windows in omega (arith, a, b, few) in
    if_ok c.gather.result _ (λ r. ReadsWindow s c.args.window r.1.items) c.gather.ensures.gathered
    (λ r gathered. reads_window c.args.draws.now s c.args.window (n - 1) c.args.first r.0 r.1.items c.requires.units c.requires.stands room
    (subst (λ (k : ℕ). IsGathered c.args.draws.now s c.args.window first k r.0 r.1.items) same (gathered s c.args.window first back)))

pub returns-clause-gains : goal.returns-clause-gains
returns-clause-gains g c =
    let n : ℕ = length c.args.seats.now.items in
    on_ok c.gather.result _ _ c.gather.ensures.drawn
    (window_gains c.args.handle.now c.args.draws.now c.args.window (with_spare c.args.first.knows (c.args.first.knows.spare - (n - 1)))
    c.args.seats.now.items c.hand_out.new.seats.items c.hand_out.ensures.length c.hand_out.ensures.same c.hand_out.ensures.handed
    c.serve_all.new.seats.items c.serve_all.ensures.served.size c.serve_all.ensures.served.each c.gather.new.seats.items c.gather.ensures.length c.gather.ensures.same)

pub returns-clause-counts : goal.returns-clause-counts
returns-clause-counts g c =
    let n : ℕ = length c.args.seats.now.items in
    window_counts c.args.handle.now c.args.draws.now c.args.window (with_spare c.args.first.knows (c.args.first.knows.spare - (n - 1)))
    c.args.seats.now.items c.hand_out.new.seats.items c.hand_out.ensures.length c.hand_out.ensures.same c.hand_out.ensures.handed
    c.serve_all.new.seats.items c.serve_all.ensures.served.size c.serve_all.ensures.served.each c.gather.new.seats.items c.gather.ensures.length c.gather.ensures.same

pub returns-clause-noted : goal.returns-clause-noted
returns-clause-noted g c =
    let n : ℕ = length c.args.seats.now.items in
    let first = with_spare c.args.first.knows (c.args.first.knows.spare - (n - 1)) in
    let s = sections_in c.args.handle.now in
    let back = all_come_back c.args.handle.now c.args.draws.now c.args.window first
    c.args.seats.now.items c.hand_out.new.seats.items c.hand_out.ensures.length c.hand_out.ensures.same c.hand_out.ensures.handed
    c.serve_all.new.seats.items c.serve_all.ensures.served.size c.serve_all.ensures.served.each in
    let note = all_note c.args.handle.now c.args.draws.now c.args.window first
    c.args.seats.now.items c.hand_out.new.seats.items c.hand_out.ensures.length c.hand_out.ensures.same c.hand_out.ensures.handed
    c.serve_all.new.seats.items c.serve_all.ensures.served.size c.serve_all.ensures.served.each in
    let same : length c.serve_all.new.seats.items - 1 ≡ n - 1 = let a = c.serve_all.ensures.served.size in let b = c.hand_out.ensures.length in omega (arith, a, b) in
    let few : n - 1 ≤ 63 = let a = c.requires.few in omega (arith, a) in
    let room : n - 1 ≤ c.args.first.knows.spare = let a = c.requires.stands.enough in let b = c.requires.windows in omega (arith, a, b, few) in
    ok_both c.gather.result _ _ (RefusesNone s → NoteWindow s c.args.window c.gather.new.seats.items) c.gather.ensures.gathered c.gather.ensures.notes
    (λ r gathered notes. window_notes c.args.handle.now c.args.draws.now c.args.window first
    c.args.seats.now.items c.hand_out.new.seats.items c.hand_out.ensures.length c.hand_out.ensures.same c.hand_out.ensures.handed
    c.serve_all.new.seats.items c.serve_all.ensures.served.size c.serve_all.ensures.served.each c.gather.new.seats.items c.gather.ensures.length c.gather.ensures.same
    r.1.items (notes s note)
    (reads_once c.args.draws.now s c.args.window (n - 1) c.args.first r.0 r.1.items c.requires.units c.requires.stands room
    (subst (λ (k : ℕ). IsGathered c.args.draws.now s c.args.window first k r.0 r.1.items) same (gathered s c.args.window first back))))
