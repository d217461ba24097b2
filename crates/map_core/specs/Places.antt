-- Where the words of a table lie, and how a key walks through a generation.
-- A place is a number: the words of the cells lie behind the first words of the table, each at its place.
use Rattle.std.specs.Prelude.{ℕ, ◌+◌, ◌-◌, ◌*◌, ◌/◌, ◌%◌, ◌^◌, ◌<◌, ◌≤◌, List, slice_index, if◌then◌else◌, nat_lt}
use Rattle.map_core.specs.declared.layout.Layout.{Layout}
use Rattle.map_core.specs.declared.places.TheConstants.{CURRENT_WORD, COUNT_WORD, FIRST_TAKE_WORD, FIRST_CELL_WORD, HASH_MULTIPLIER}
use Rattle.map_core.specs.Sizes.{cells_of}

-- the lowest generation
unfoldable pub lowest : Layout → ℕ
lowest l = 0

-- how many cells lie below generation g
unfoldable pub base : ℕ → ℕ
base g = 64 * (2 ^ g - 1)

unfoldable pub key_place : Layout → ℕ → ℕ → ℕ
key_place l g i = 2 * (base g + i)

unfoldable pub value_place : Layout → ℕ → ℕ → ℕ
value_place l g i = 2 * (base g + i) + 1

-- the finish words of the blocks lie behind the cells
unfoldable pub finish_place : Layout → ℕ → ℕ → ℕ
finish_place l g b = 2 * (base l.last + cells_of l.last) + (base g / 64 + b)

-- the words of the cells lie behind the current generation, the count and the take words, on cache lines of their own
unfoldable pub offset : Layout → ℕ
offset l = FIRST_CELL_WORD

-- two words for each cell, and one for each block of 64
unfoldable pub word_count : Layout → ℕ
word_count l = 2 * (base l.last + cells_of l.last) + (base l.last + cells_of l.last) / 64 + offset l

-- the take word of a generation
unfoldable pub take_word : ℕ → ℕ
take_word g = FIRST_TAKE_WORD + g

-- the current generation
abbrev pub current_in : List ℕ → ℕ
current_in words = slice_index words CURRENT_WORD

-- the count of entries
abbrev pub count_in : List ℕ → ℕ
count_in words = slice_index words COUNT_WORD

-- the take words, by their generations
abbrev pub takes_in : Layout → List ℕ → ℕ → ℕ
takes_in l words g = if nat_lt l.last g then 0 else slice_index words (take_word g)

-- the words of the cells, by their places
abbrev pub cells_in : Layout → List ℕ → ℕ → ℕ
cells_in l words q = slice_index words (q + offset l)

-- the home cell of a key: the top bits of its product with a constant
unfoldable pub home : ℕ → ℕ → ℕ
home g k = k * HASH_MULTIPLIER % 2 ^ 64 / 2 ^ (58 - g)

-- the cell at step d of the walk of a key, which goes upwards from its home and wraps
unfoldable pub spot : ℕ → ℕ → ℕ → ℕ
spot g k d = (home g k + d) % cells_of g

abbrev pub Within : Layout → ℕ → Type 0
Within l g = (lowest l ≤ g) × (g ≤ l.last)

abbrev pub IsCell : Layout → ℕ → ℕ → Type 0
IsCell l g i = Within l g × (i < cells_of g)

-- a generation has a block for each 64 cells
abbrev pub IsBlock : Layout → ℕ → ℕ → Type 0
IsBlock l g b = Within l g × (b < cells_of g / 64)
