-- The entries and the facts of a unit.
use Rattle.std.specs.Prelude.{◌≡◌, ℕ, ◌+◌, ◌*◌, ◌<◌, ◌≤◌, length, Some, None, Ok, refl}
use Rattle.std.proofs.Common.{arith}
use Rattle.entry_tree.specs.Facts.{base_of, bases_of, facts_of_values, low_pc_of}
use Rattle.entry_tree.specs.Units.{entries_of, facts_of}
use Rattle.form_values.specs.declared.raw.UnitFacts.{UnitFacts}
use Rattle.form_values.specs.Resolved.{address_of}
use Rattle.built_files.specs.Places.{lies_front}
use Rattle.exercise_file.specs.Generated.{declarations, low_address, table_place}
use Rattle.exercise_file.specs.Views.{generated_sections}
use Rattle.exercise_file.proofs.Headers.{header}
use Rattle.exercise_file.proofs.Items.{Entry, item_bytes, items_bytes, items_read, items_seen, root_read}
use Rattle.exercise_file.proofs.UnitItems.{items_lie, root_children, root_entry, unit_declared, unit_items}

pub entries_read : (n i : ℕ) → n ≤ 9999 → i < n → entries_of (generated_sections n) (header i) ≡ Ok (items_seen (143 * i + 12) 0 (unit_items i))
entries_read n i few inside =
    items_read (declarations n) (table_place i) (143 * i + 12) (143 * i + 4 + 139) (unit_items i) (omega arith) (unit_declared n i few inside) (items_lie n i inside)

pub seven : (i place depth : ℕ) → length (items_seen place depth (unit_items i)) ≡ 7
seven i place depth = refl

-- what the root says of a unit: only where it begins
abbrev pub facts : ℕ → UnitFacts
facts i = record {
  bases = record { text = None; address = None; ranges = None; locations = None };
  low_pc = Some (low_address i);
  line = None;
  root_end = Some (143 * i + 12 + 25);
}

pub facts_read : (n i : ℕ) → n ≤ 9999 → i < n → facts_of (generated_sections n) (header i) ≡ Ok (facts i)
unfolding facts_of facts_of_values bases_of base_of low_pc_of address_of
facts_read n i few inside =
    let root = root_read (declarations n) (table_place i) (143 * i + 12) (143 * i + 4 + 139) (root_entry i) (omega arith) (unit_declared n i few inside).0
    (lies_front (item_bytes (Entry (root_entry i))) (items_bytes (root_children i)) (items_lie n i inside)) in
    rw root refl
