-- The printing of a window's texts, as far as it has come.
use Rattle.std.specs.Prelude.{◌≡◌, ℕ, ◌+◌, ◌-◌, ◌*◌, ◌^◌, ◌<◌, ◌≤◌, List, Option, Some, None, Result, Ok, Err, IsOk}
use Rattle.std.proofs.Common.{refl, ◌∙◌}
use Rattle.dw_outside.specs.Faults.{HasCause}
use Rattle.elf_sections.specs.Shapes.{SectionsView}
use Rattle.dump_workers.specs.declared.ends.DumpFault.{DumpFault}
use Rattle.dump_workers.specs.declared.ends.DumpFault.TheVariants.{WriteFault}
use Rattle.dump_workers.specs.declared.ends.RefusedUnit.{RefusedUnit}
use Rattle.dump_workers.specs.Dumps.{Prints, dump_from}
use Rattle.dump_workers.specs.UnitDumps.{entries_from, unit_dump}

-- the units that are printed, from the first one to the end; the next of them, how many entries those before it have,
-- and why the printing was stopped, where it was
pub record PrinterState : Type 0 where
  pub start : ℕ
  pub end : ℕ
  pub next : ℕ
  pub entries : ℕ
  pub fault : Option DumpFault

-- what the sink holds and how many faults it has met; the units that are printed, from the first one to the end; the
-- next of them, how many entries those before it have, and why the printing was stopped, where it was
pub record PrinterView : Type 0 where
  pub held : Option (List ℕ)
  pub faults : ℕ
  pub start : ℕ
  pub end : ℕ
  pub next : ℕ
  pub entries : ℕ
  pub fault : Option DumpFault

-- a printer and its sink
abbrev pub printing : PrinterState → Option (List ℕ) → ℕ → PrinterView
printing p held faults = record {
  held = held;
  faults = faults;
  start = p.start;
  end = p.end;
  next = p.next;
  entries = p.entries;
  fault = p.fault;
}

-- What the printing still has to do: the texts that are left, where nothing has stopped it; and else to tell the fault.
abbrev pub Leaves : SectionsView → PrinterView → Option DumpFault → Result (Option RefusedUnit) DumpFault → Option (List ℕ) → ℕ → Type 0
Leaves s p None r new faults = Prints r (dump_from s p.next (p.end - p.next)) p.held new × HasCause WriteFault p.faults faults r
Leaves s p (Some fault) r new faults = (r ≡ Err fault) × (new ≡ p.held) × (faults ≡ p.faults)

-- The printing went on: what is left now makes up what was left before.
pub record GoesOn (s : SectionsView) (x y : PrinterView) : Type 0 where
  pub rest : (r : Result (Option RefusedUnit) DumpFault) (new : Option (List ℕ)) (faults : ℕ) → Leaves s y y.fault r new faults → Leaves s x x.fault r new faults
  pub entries : y.entries + entries_from s y.next (y.end - y.next) ≡ x.entries + entries_from s x.next (x.end - x.next)
  pub start : y.start ≡ x.start
  pub end : y.end ≡ x.end

pub goes_same : (s : SectionsView) (x : PrinterView) → GoesOn s x x
goes_same s x = record { rest = λ r new faults p. p; entries = refl; start = refl; end = refl }

pub goes_then : (s : SectionsView) (x y z : PrinterView) → GoesOn s x y → GoesOn s y z → GoesOn s x z
goes_then s x y z p q = record {
  rest = λ r new faults left. p.rest r new faults (q.rest r new faults left);
  entries = q.entries ∙ p.entries;
  start = q.start ∙ p.start;
  end = q.end ∙ p.end;
}

-- the units from the first one to the next are printed, so none of them is refused; there is room for the sum of their entries
pub record IsPrinting (s : SectionsView) (start end next entries : ℕ) : Type 0 where
  pub low : start ≤ next
  pub high : next ≤ end
  pub room : entries ≤ next * 2 ^ 32
  pub whole : (u : ℕ) → start ≤ u → u < next → IsOk (unit_dump s u)
