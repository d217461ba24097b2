-- The keys that the generated file uses in the table of its handle.
use Rattle.std.specs.Prelude.{◌≡◌, ℕ, ◌+◌, ◌*◌, true, List, [], ◌∷◌, ◌++◌}
use Rattle.abbrev_decl.specs.Lookup.{key}
use Rattle.map_core.specs.History.{is_in}
use Rattle.map_core.specs.Passes.{Distinct}
use Rattle.handle_cache.specs.Scanned.{word_key}
use Rattle.dump_workers.specs.FileKeys.{IsFileKey}
use Rattle.exercise_file.specs.Generated.{pieces, table_count}
use Rattle.exercise_file.specs.Views.{generated_sections}

-- those of the four declarations of a table
abbrev pub declaration_keys : ℕ → List ℕ
declaration_keys t = key (55 * t) 1 ∷ key (55 * t) 2 ∷ key (55 * t) 3 ∷ key (55 * t) 4 ∷ []

-- those of the eight words of a unit
abbrev pub words_of_unit : ℕ → List ℕ
words_of_unit unit =
    word_key unit 0 ∷ word_key unit 1 ∷ word_key unit 2 ∷ word_key unit 3 ∷ word_key unit 4 ∷ word_key unit 5 ∷ word_key unit 6
    ∷ word_key unit 7 ∷ []

-- all of them
unfoldable pub generated_keys : ℕ → List ℕ
generated_keys units = pieces declaration_keys (table_count units) ++ pieces words_of_unit units

-- how many they are
abbrev pub generated_key_count : ℕ → ℕ
generated_key_count units = 4 * table_count units + 8 * units

-- these are the keys that some unit of the file uses, each once
pub record AreAllKeys (units : ℕ) (keys : List ℕ) : Type 0 where
  pub once : Distinct keys
  pub only : (k : ℕ) → is_in k keys ≡ true → IsFileKey (generated_sections units) k
  pub each : (k : ℕ) → IsFileKey (generated_sections units) k → is_in k keys ≡ true
