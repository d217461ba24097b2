-- The printing of a window, one unit more, and its end.
use Rattle.std.specs.Prelude.{◌≡◌, ◌≢◌, refl, ℕ, suc, ◌+◌, ◌-◌, ◌<◌, ◌≤◌, List, Option, Some, None, Result, Ok, Err}
use Rattle.std.proofs.Common.{arith, sym, subst}
use Rattle.dw_fields.specs.declared.fault_code.Fault.{Fault}
use Rattle.dw_outside.specs.Faults.{HasCause, Rose-earlier}
use Rattle.dw_outside.specs.Gains.{Gains, GainsPart}
use Rattle.elf_sections.specs.Shapes.{SectionsView}
use Rattle.dump_workers.specs.declared.ends.DumpFault.{DumpFault}
use Rattle.dump_workers.specs.declared.ends.DumpFault.TheVariants.{WriteFault, OutOfMemory}
use Rattle.dump_workers.specs.declared.ends.RefusedUnit.{RefusedUnit}
use Rattle.dump_workers.specs.Dumps.{Prints, dump_from}
use Rattle.dump_workers.specs.Printers.{GoesOn, Leaves, PrinterView}
use Rattle.dump_workers.specs.UnitDumps.{entries_from, entry_count, unit_dump}
use Rattle.dump_workers.proofs.DumpLaws.{entries_next, printed_cut, printed_done, printed_next, printed_refused}
use Rattle.dump_workers.proofs.PrintLemmas.{cause_of}

-- a later part had the cause
cause_then : {T : Type 0} (before mid now : ℕ) (r : Result T DumpFault) → before ≤ mid → HasCause WriteFault mid now r → HasCause WriteFault before now r
cause_then before mid now r earlier cause = record {
  later = let later = cause.later in omega (arith, earlier, later);
  rose = λ is. Rose-earlier before mid now earlier (cause.rose is);
}

more_entries : (s : SectionsView) (next end entries count : ℕ) → next < end → count ≡ entry_count s next
    → entries + count + entries_from s (next + 1) (end - (next + 1)) ≡ entries + entries_from s next (end - next)
more_entries s next end entries count more is =
    let a : ℕ = entries_from s next (end - next) in
    let b : ℕ = entries_from s (next + 1) (end - (next + 1)) in
    let e : ℕ = entry_count s next in
    let here : count ≡ e = is in
    let all : a ≡ e + b = entries_next s next (end - next) (end - (next + 1)) (omega arith) in
    let goal : entries + count + b ≡ entries + a = omega arith in goal

-- the next unit's text went out
pub goes_printed : (s : SectionsView) (held new : Option (List ℕ)) (faults later start end next entries count : ℕ) (f : Option DumpFault) (t : List ℕ)
    → f ≡ None → next < end → unit_dump s next ≡ Ok t → count ≡ entry_count s next → Gains held new t → faults ≤ later
    → GoesOn s (record { held = held; faults = faults; start = start; end = end; next = next; entries = entries; fault = f })
    (record { held = new; faults = later; start = start; end = end; next = next + 1; entries = entries + count; fault = f })
goes_printed s held new faults later start end next entries count f t none more is has gains risen = rw none (record {
  rest = λ r last now left. (
    printed_next s next (end - next) (end - (next + 1)) t t held new last r (omega arith) is refl gains left.0,
    cause_then faults later now r risen left.1,
  );
  entries = more_entries s next end entries count more has;
  start = refl;
  end = refl;
})

-- the sink stopped within it
pub goes_stopped : (s : SectionsView) (held new : Option (List ℕ)) (faults later start end next entries : ℕ) (f : Option DumpFault) (t : List ℕ) (e : DumpFault)
    → f ≡ None → next < end → unit_dump s next ≡ Ok t → GainsPart held new t → HasCause {T = Unit {0}} WriteFault faults later (Err e)
    → GoesOn s (record { held = held; faults = faults; start = start; end = end; next = next; entries = entries; fault = f })
    (record { held = new; faults = later; start = start; end = end; next = next; entries = entries; fault = Some e })
goes_stopped s held new faults later start end next entries f t e none more is part cause = rw none (record {
  rest = λ r last now left. rw (left.0, left.1, left.2) (
    printed_cut s next (end - next) (end - (next + 1)) t t held new e (omega arith) is refl part,
    cause_of e WriteFault faults faults later (omega arith) cause,
  );
  entries = refl;
  start = refl;
  end = refl;
})

-- it is refused
pub leaves_refused : (s : SectionsView) (x : PrinterView) (unit : ℕ) (held : Option (List ℕ)) (faults : ℕ) (fault : Fault)
    → unit ≡ x.next → held ≡ x.held → faults ≡ x.faults → x.next < x.end → unit_dump s unit ≡ Err fault
    → Leaves s x None (Ok (Some (record { unit = unit; fault = fault }))) held faults
leaves_refused s x unit held faults fault next same count more is = rw (next, same, count) (
  printed_refused s x.next (x.end - x.next) (x.end - (x.next + 1)) fault x.held (omega (arith, more)) (rw next at is),
  record { later = omega arith; rose = λ wrong. absurd (cc) },
)

-- no unit is left
pub leaves_done : (s : SectionsView) (x y : PrinterView) → GoesOn s x y → y.fault ≡ None → y.end ≤ y.next → Leaves s x x.fault (Ok None) y.held y.faults
leaves_done s x y goes none all =
    goes.rest (Ok None) y.held y.faults (subst (λ f. Leaves s y f (Ok None) y.held y.faults) (sym none) (
      printed_done s y.next (y.end - y.next) y.held (omega (arith, all)),
      record { later = omega arith; rose = λ wrong. absurd (cc) },
    ))
