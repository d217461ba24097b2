-- Units that are refused, and those behind them.
use Rattle.std.specs.Prelude.{◌≡◌, ℕ, ◌+◌, ◌*◌, ◌<◌, ◌≤◌, List, Ok, Err, IsErr, IsOk}
use Rattle.std.proofs.Common.{arith, sym, subst, refl}
use mathlib.Core.Logic.{dite}
use native.Mathlib.Decide.{ℕ_discrete}
use Rattle.dw_fields.specs.declared.fault_code.Fault.{Fault}
use Rattle.elf_sections.specs.Shapes.{SectionsView}
use Rattle.handle_cache.specs.Handles.{HandleView, IsOpened, sections_in}
use Rattle.unit_draws.specs.declared.windows.TheConstants.{WINDOW}
use Rattle.unit_headers.specs.Headers.{unit_count}
use Rattle.unit_text.specs.Pieces.{Text}
use Rattle.dump_workers.specs.FileKeys.{RefusesNone}
use Rattle.dump_workers.specs.RefusedUnits.{IsBehindRefused, RefusesUnit, RefusesUnitOf}
use Rattle.dump_workers.specs.UnitDumps.{unit_dump}

-- the tag of a file's draws tells which of its units are refused
pub refuses_unit : (h : HandleView) (tag : List ℕ) (unit : ℕ) → IsOpened h → tag ≡ h.file → IsErr (unit_dump (sections_in h) unit) → RefusesUnit tag unit
refuses_unit h tag unit opened same refused =
    subst (λ (file : List ℕ). RefusesUnit file unit) (sym same) (subst (λ r. RefusesUnitOf r unit) (sym opened.elf) refused)

pub unit_refused : (h : HandleView) (tag : List ℕ) (unit : ℕ) → IsOpened h → tag ≡ h.file → RefusesUnit tag unit → IsErr (unit_dump (sections_in h) unit)
unit_refused h tag unit opened same refused =
    subst (λ r. RefusesUnitOf r unit) opened.elf (subst (λ (file : List ℕ). RefusesUnit file unit) same refused)

pub error_of : (r : Text) (f : Fault) → r ≡ Err f → IsErr r
error_of (Ok t) f is = absurd (cc)
error_of (Err g) f is = refl

pub not_both : {P : Type 0} (r : Text) → IsErr r → IsOk r → P
not_both (Ok t) e ok = absurd (cc)
not_both (Err g) e ok = absurd (cc)

-- where none is refused, none stands behind a refused one
pub none_behind_refused : {P : Type 0} (s : SectionsView) (unit : ℕ) → unit < unit_count s.info s.order → IsBehindRefused s unit → RefusesNone s → P
none_behind_refused s unit counted behind none =
    let before = behind.before in
    not_both (unit_dump s behind.refused) behind.refuses (none behind.refused (omega (arith, counted, before)))

-- a unit of a window whose units before it were printed doesn't stand behind a refused one
pub not_behind : {P : Type 0} (s : SectionsView) (window start unit : ℕ) → WINDOW * window ≡ start → start ≤ unit
    → ((x : ℕ) → start ≤ x → x < unit → IsOk (unit_dump s x)) → IsBehindRefused s unit → P
not_behind s window start unit is low whole behind =
    let from = behind.from in
    not_both (unit_dump s behind.refused) behind.refuses (whole behind.refused (omega (arith, is, low, from)) behind.before)

-- one unit more was printed
pub whole_more : (s : SectionsView) (start unit : ℕ) (text : List ℕ) → ((x : ℕ) → start ≤ x → x < unit → IsOk (unit_dump s x)) → unit_dump s unit ≡ Ok text
    → (x : ℕ) → start ≤ x → x < unit + 1 → IsOk (unit_dump s x)
whole_more s start unit text before here x low high =
    dite (ℕ_discrete x unit)
    (λ is. subst (λ (u : ℕ). IsOk (unit_dump s u)) (sym is) (subst IsOk (sym here) refl))
    (λ isnt. before x low (omega (arith, high, isnt)))
