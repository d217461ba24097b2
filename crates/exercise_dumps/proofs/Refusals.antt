-- A dump of a file of which no unit is refused.
use Rattle.std.specs.Prelude.{◌≡◌, ℕ, zero, suc, ◌+◌, ◌<◌, None, Ok, Err, IsOk, refl}
use Rattle.std.proofs.Common.{arith, ap, sym, ◌∙◌, true≢false}
use Rattle.dw_fields.specs.declared.fault_code.Fault.{Fault}
use Rattle.elf_sections.specs.Shapes.{SectionsView}
use Rattle.unit_headers.specs.Headers.{unit_count}
use Rattle.unit_text.specs.Pieces.{Text}
use Rattle.dump_workers.specs.declared.ends.DumpEnd.{DumpEnd}
use Rattle.dump_workers.specs.declared.ends.DumpEnd.TheVariants.{Refused}
use Rattle.dump_workers.specs.Dumps.{DumpText, dump_from, dump_of, refused_by, unit_dumped}
use Rattle.dump_workers.specs.FileKeys.{RefusesNone}
use Rattle.dump_workers.specs.UnitDumps.{unit_dump}

one_passes : (unit : ℕ) (text : Text) (others : DumpText) → IsOk text → others.refused ≡ None → (unit_dumped unit text others).refused ≡ None
one_passes unit (Ok text) others ok none = none
one_passes unit (Err fault) others ok none = absurd (true≢false (sym ok))

all_pass : (s : SectionsView) (unit n : ℕ) → ((i : ℕ) → i < unit + n → IsOk (unit_dump s i)) → (dump_from s unit n).refused ≡ None
unfolding dump_from
all_pass s unit zero each = refl
all_pass s unit (suc n) each =
    one_passes unit (unit_dump s unit) (dump_from s (unit + 1) n) (each unit (omega arith)) (all_pass s (unit + 1) n (λ i below. each i (omega arith)))

none_refused : (s : SectionsView) → RefusesNone s → (dump_of s).refused ≡ None
unfolding dump_of
none_refused s none = all_pass s 0 (unit_count s.info s.order) (λ i below. none i (omega arith))

-- it can't end with a refused unit
pub never_refused : (s : SectionsView) (end : DumpEnd) (unit : ℕ) (fault : Fault) → RefusesNone s → end ≡ Refused unit fault → refused_by end ≡ (dump_of s).refused → ⊥
never_refused s end unit fault none is ends =
    let both = sym (ap refused_by is) ∙ ends ∙ none_refused s none in cc
