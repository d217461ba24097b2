-- Laws of the lists of a header.
use Rattle.std.proofs.Common.{◌≡◌, ℕ, suc, ◌≤◌, length, take, List, [], ◌∷◌, ◌++◌, map, refl, sym, ap, ◌∙◌}
use Rattle.dw_fields.specs.declared.fault_code.Fault.{Fault}
use Rattle.dw_fields.specs.Span.{Span, at}
use Rattle.dw_fields.specs.Reading.{Reader, ◌>>=◌}
use Rattle.dw_fields.specs.Times.{times, with_front, times_fails, times_next}
use Rattle.std.proofs.lemmas.List.{take_all}
use Rattle.std.specs.Prelude.{Result, Ok}
use Rattle.unit_headers.specs.declared.refusal.UnitRefusal.{UnitRefusal}
use Rattle.unit_headers.specs.declared.refusal.UnitRefusal.TheVariants.{Refused, OutOfMemory}
use Rattle.unit_headers.specs.Refusals.{Refuses}
use Rattle.line_programs.specs.declared.names.FileName.{FileName}
use Rattle.line_programs.specs.Shapes.{name_view}

-- a cut that went on is the same part at another place
pub at_again : (first here next : Span) → here ≡ at first here.place → next ≡ at here next.place → next ≡ at first next.place
at_again first here next p q = q ∙ ap (λ s. at s next.place) p

-- a value more was read, and goes to the end of those before it
pub turn_next : {X : Type 0} → (read : Reader X) (m n : ℕ) (s next : Span) (front kept : List X) (x : X) (all : Result (List X × ℕ) Fault)
    → m ≡ suc n → read s ≡ Ok (x, next.place) → next ≡ at s next.place → kept ≡ front ++ x ∷ []
    → with_front front (times m read s) ≡ all → with_front kept (times n read next) ≡ all
turn_next read m n s next front kept x all turns e q k w =
    ap (λ xs. with_front xs (times n read next)) k
    ∙ ap (λ c. with_front (front ++ x ∷ []) (times n read c)) q
    ∙ times_next read m n s front x next.place turns e ∙ w

paths_of : (names : List FileName) → map (λ n. n.path.now) names ≡ map (λ d. d.path) (map name_view names)
paths_of [] = refl
paths_of (name ∷ names) = ap (λ paths. name.path.now ∷ paths) (paths_of names)

-- when all were taken, the paths are those of all names
pub paths_end : (paths : List (List ℕ)) (names : List FileName) (taken : ℕ) → length names ≤ taken
    → paths ≡ map (λ n. n.path.now) (take taken names) → paths ≡ map (λ d. d.path) (map name_view names)
paths_end paths names taken all p = p ∙ ap (map (λ n. n.path.now)) (take_all taken names all) ∙ paths_of names

-- what refuses an answer refuses what goes on from it
pub refused_then : {A B : Type 0} → (read : Result A Fault) (f : A → Result B Fault) (e : UnitRefusal) → Refuses e read → Refuses e (read >>= f)
refused_then read f (Refused fault) refused = rw refused refl
refused_then read f OutOfMemory refused = tt

-- a value that is refused refuses all
pub turn_refused : {X : Type 0} → (read : Reader X) (m n : ℕ) (s : Span) (front : List X) (e : UnitRefusal) (all : Result (List X × ℕ) Fault)
    → m ≡ suc n → Refuses e (read s) → with_front front (times m read s) ≡ all → Refuses e all
turn_refused read m n s front (Refused f) all turns refused w = sym w ∙ times_fails read m n s front f turns refused
turn_refused read m n s front OutOfMemory all turns refused w = tt
