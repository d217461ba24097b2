-- One code after another until one isn't 0.
use Rattle.std.proofs.Common.{◌≡◌, ◌<◌, ◌≤◌, ℕ, zero, suc, false, Some, None, Ok, Err, refl, le-leb}
use Rattle.std.proofs.lemmas.Bool.{lt-leb}
use Rattle.std.specs.Prelude.{◌==◌}
use Rattle.dw_fields.specs.declared.fault_code.Fault.{Fault}
use Rattle.dw_fields.specs.Span.{Span, at}
use Rattle.dw_fields.specs.Reading.{uleb_at}
use Rattle.entry_tree.specs.Entries.{first_code_from}

pub first_next : (m n : ℕ) (s : Span) (code q : ℕ) → m ≡ suc n → s.place < s.end → uleb_at s ≡ Ok (code, q) → code ≡ 0
    → first_code_from n (at s q) ≡ first_code_from m s
first_next m n s code q fuel inside read none = rw (fuel, lt-leb s.end s.place inside, read, none) refl

pub first_fault : (m n : ℕ) (s : Span) (f : Fault) → m ≡ suc n → s.place < s.end → uleb_at s ≡ Err f → first_code_from m s ≡ Err f
first_fault m n s f fuel inside read = rw (fuel, lt-leb s.end s.place inside, read) refl

pub first_found : (m n : ℕ) (s : Span) (code q : ℕ) → m ≡ suc n → s.place < s.end → uleb_at s ≡ Ok (code, q) → code == 0 ≡ false
    → first_code_from m s ≡ Ok (Some (record { place = s.place; code = code; next = q }))
first_found m n s code q fuel inside read some = rw (fuel, lt-leb s.end s.place inside, read, some) refl

pub first_end : (m : ℕ) (s : Span) → s.end ≤ s.place → first_code_from m s ≡ Ok None
first_end zero s past = refl
first_end (suc m) s past = rw (le-leb s.end s.place past) refl

pub first_stop : (m : ℕ) (s : Span) → m ≡ 0 → first_code_from m s ≡ Ok None
first_stop m s none = rw none refl
