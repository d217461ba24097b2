-- Laws of the turns of a line program, whose rows a caller keeps in part.
use Rattle.std.proofs.Common.{◌≡◌, ℕ, suc, ◌-◌, ◌<◌, ◌≤◌, List, [], ◌++◌, map, Result, Ok, Err, refl, sym, ap, ◌∙◌, append-nil}
use Rattle.std.proofs.lemmas.List.{map-append, map-id}
use Rattle.dw_fields.specs.declared.fault_code.Fault.{Fault}
use Rattle.dw_fields.specs.Span.{Span, at}
use Rattle.dw_fields.specs.Walk.{walk, ahead, ahead-append, walk_next, walk_ends, walk_fails, walk_stops}
use Rattle.line_machine.specs.declared.registers.Row.{Row}
use Rattle.line_machine.specs.declared.registers.Program.{Program}
use Rattle.line_machine.specs.Machine.{fresh}
use Rattle.line_machine.specs.Running.{kept_rows, line_rows, step_at}

in_front_of_none : {A : Type 0} → (read : Result (List A) Fault) → ahead [] read ≡ read
in_front_of_none (Ok rest) = refl
in_front_of_none (Err f) = refl

kept_ahead : {K : Type 0} → (kept : Row → K) (more : List Row) (read : Result (List Row) Fault)
    → kept_rows kept (ahead more read) ≡ ahead (map kept more) (kept_rows kept read)
kept_ahead kept more (Ok rest) = ap (λ xs. Ok xs) (map-append kept more rest)
kept_ahead kept more (Err f) = refl

-- rows that are kept whole
pub kept_whole : (read : Result (List Row) Fault) → kept_rows (λ row. row) read ≡ read
kept_whole (Ok rows) = ap (λ xs. Ok xs) (map-id rows)
kept_whole (Err f) = refl

pub rows_start : {K : Type 0} → (kept : Row → K) (h : Program) (lengths : List ℕ) (s : Span) (m : ℕ) (registers : Row) → m ≡ s.end - s.place → registers ≡ fresh h
    → ahead [] (kept_rows kept (walk (step_at h lengths) m registers s)) ≡ kept_rows kept (line_rows h lengths s)
unfolding line_rows
rows_start kept h lengths s m registers turns start = in_front_of_none (kept_rows kept (walk (step_at h lengths) m registers s)) ∙ rw (turns, start) refl

-- one turn more was made
pub rows_next : {K : Type 0} → (kept : Row → K) (h : Program) (lengths : List ℕ) (m n : ℕ) (state after : Row) (cut next : Span) (front items : List K) (more : List Row) (all : Result (List K) Fault)
    → m ≡ suc n → cut.place < cut.end → step_at h lengths state cut ≡ Ok ((after, more), next.place) → next ≡ at cut next.place → items ≡ front ++ map kept more
    → ahead front (kept_rows kept (walk (step_at h lengths) m state cut)) ≡ all → ahead items (kept_rows kept (walk (step_at h lengths) n after next)) ≡ all
rows_next kept h lengths m n state after cut next front items more all turns inside e q is w =
    let made = walk_next (step_at h lengths) m n state after cut [] more next.place turns inside e ∙ in_front_of_none (walk (step_at h lengths) m state cut) in
    ap (λ xs. ahead xs (kept_rows kept (walk (step_at h lengths) n after next))) is
    ∙ ap (λ s. ahead (front ++ map kept more) (kept_rows kept (walk (step_at h lengths) n after s))) q
    ∙ ahead-append front (map kept more) (kept_rows kept (walk (step_at h lengths) n after (at cut next.place)))
    ∙ ap (ahead front) (sym (kept_ahead kept more (walk (step_at h lengths) n after (at cut next.place))))
    ∙ ap (λ read. ahead front (kept_rows kept read)) made ∙ w

-- a turn that is refused is the answer
pub rows_fail : {K : Type 0} → (kept : Row → K) (h : Program) (lengths : List ℕ) (m n : ℕ) (state : Row) (cut : Span) (front : List K) (f : Fault)
    → m ≡ suc n → cut.place < cut.end → step_at h lengths state cut ≡ Err f → ahead front (kept_rows kept (walk (step_at h lengths) m state cut)) ≡ Err f
rows_fail kept h lengths m n state cut front f turns inside e =
    ap (λ read. ahead front (kept_rows kept read)) (sym (in_front_of_none (walk (step_at h lengths) m state cut)) ∙ walk_fails (step_at h lengths) m n state cut [] f turns inside e)

-- at the end, and where no turn is left, what was kept is the answer
pub rows_end : {K : Type 0} → (kept : Row → K) (h : Program) (lengths : List ℕ) (m : ℕ) (state : Row) (cut : Span) (front : List K)
    → cut.end ≤ cut.place → ahead front (kept_rows kept (walk (step_at h lengths) m state cut)) ≡ Ok front
rows_end kept h lengths m state cut front past =
    ap (λ read. ahead front (kept_rows kept read)) (sym (in_front_of_none (walk (step_at h lengths) m state cut)) ∙ walk_ends (step_at h lengths) m state cut [] past)
    ∙ ap (λ xs. Ok xs) (append-nil front)

pub rows_stop : {K : Type 0} → (kept : Row → K) (h : Program) (lengths : List ℕ) (m : ℕ) (state : Row) (cut : Span) (front : List K)
    → m ≡ 0 → ahead front (kept_rows kept (walk (step_at h lengths) m state cut)) ≡ Ok front
rows_stop kept h lengths m state cut front none =
    ap (λ read. ahead front (kept_rows kept read)) (sym (in_front_of_none (walk (step_at h lengths) m state cut)) ∙ walk_stops (step_at h lengths) m state cut [] none)
    ∙ ap (λ xs. Ok xs) (append-nil front)
