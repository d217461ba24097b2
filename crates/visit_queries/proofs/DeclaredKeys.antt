-- The keys of declarations that reading a unit may place.
use Rattle.std.specs.Prelude.{◌≡◌, refl, ℕ, List, Option, Some, None, Result, Ok, Err}
use Rattle.dw_fields.specs.declared.fault_code.Fault.{Fault}
use Rattle.abbrev_decl.specs.Lookup.{IsSmallFound, first_declaration, key}
use Rattle.entry_tree.specs.declared.first.RootCode.{RootCode}
use Rattle.entry_tree.specs.Keys.{GainsOnly, IsDeclaredKey, IsFoundKey, RootPlaces}
use Rattle.entry_tree.proofs.KeyLaws.{GainsOnly-one, GainsOnly-same, GainsOnly-then, GainsOnly-weaker}

-- what reading a root places
pub root_declared : (section : List ℕ) (table : ℕ) (old new : List ℕ) (root : Result (Option RootCode) Fault)
    → RootPlaces section table old new root → GainsOnly (IsDeclaredKey section) old new
root_declared section table old new (Ok (Some root)) placed =
    GainsOnly-one (IsDeclaredKey section) old new (key table root.code) (IsSmallFound root.code (first_declaration section table root.code))
    (λ found. record { table = table; found = record { code = root.code; small = found.0; is = refl; found = found.1 } }) placed
root_declared section table old new (Ok None) same = rw same (GainsOnly-same (IsDeclaredKey section) old)
root_declared section table old new (Err f) same = rw same (GainsOnly-same (IsDeclaredKey section) old)

-- what reading entries behind the root places; the source may have another state there
pub entries_declared : (section later : List ℕ) (table : ℕ) (old mid new : List ℕ) → later ≡ section
    → GainsOnly (IsDeclaredKey section) old mid → GainsOnly (IsFoundKey later table) mid new → GainsOnly (IsDeclaredKey section) old new
entries_declared section later table old mid new kept before placed =
    GainsOnly-then (IsDeclaredKey section) old mid new before
    (GainsOnly-weaker (IsFoundKey later table) (IsDeclaredKey section) mid new
    (λ k found. record { table = table; found = rw (← kept) found }) placed)

-- what one unit places, and then the units behind it
pub units_declared : (section later : List ℕ) (old mid new : List ℕ) → later ≡ section
    → GainsOnly (IsDeclaredKey section) old mid → GainsOnly (IsDeclaredKey later) mid new → GainsOnly (IsDeclaredKey section) old new
units_declared section later old mid new kept before placed =
    GainsOnly-then (IsDeclaredKey section) old mid new before (rw (← kept) placed)
