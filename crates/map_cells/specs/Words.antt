-- The numbers that key words and value words are.
use Rattle.std.specs.Prelude.{ℕ}
use Rattle.map_core.specs.Machine.{greatest, IsWord}
use Rattle.map_cells.specs.declared.words.KeyWord.{KeyWord}
use Rattle.map_cells.specs.declared.words.KeyWord.TheVariants.{Empty, Sealed, Key}
use Rattle.map_cells.specs.declared.words.ValueWord.{ValueWord}
use Rattle.map_cells.specs.declared.words.ValueWord.TheVariants.{Unset, Closed, Value}

abbrev pub key_number : KeyWord → ℕ
key_number Empty = 0
key_number Sealed = greatest
key_number (Key k) = k

abbrev pub value_number : ValueWord → ℕ
value_number Unset = 0
value_number Closed = greatest
value_number (Value v) = v

-- a key is neither 0 nor the greatest number
abbrev pub IsProperKey : KeyWord → Type 0
IsProperKey Empty = Unit {0}
IsProperKey Sealed = Unit {0}
IsProperKey (Key k) = IsWord k

-- nor is a value
abbrev pub IsProperValue : ValueWord → Type 0
IsProperValue Unset = Unit {0}
IsProperValue Closed = Unit {0}
IsProperValue (Value v) = IsWord v
