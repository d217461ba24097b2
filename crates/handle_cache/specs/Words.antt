-- The eight words in which a table keeps the facts of a unit. A fact that is absent is 1, another is its
-- number plus 2, so that no word is 0; that is a form of our own.
use Rattle.std.specs.Prelude.{ℕ, ◌+◌, ◌-◌, ◌*◌, ◌/◌, ◌%◌, ◌^◌, ◌<◌, ◌==◌, Bool, true, nat_lt, List, [], ◌∷◌, slice_index, Option, Some, None, option_map, if◌then◌else◌}
use Rattle.form_values.specs.declared.raw.UnitFacts.{UnitFacts}
use Rattle.map_core.specs.Machine.{IsWord}

unfoldable pub word_of_fact : Option ℕ → ℕ
word_of_fact None = 1
word_of_fact (Some n) = n + 2

unfoldable pub fact_of_word : ℕ → Option ℕ
fact_of_word word = if word == 1 then None else Some (word - 2)

-- the low and the high 32 bits of an address
unfoldable pub low_half : Option ℕ → Option ℕ
low_half address = option_map (λ n. n % 2 ^ 32) address

unfoldable pub high_half : Option ℕ → Option ℕ
high_half address = option_map (λ n. n / 2 ^ 32) address

-- the bases text, address, ranges and locations; the halves of the lowest address; the offset of the line
-- program; the place behind the root
unfoldable pub words_of_facts : UnitFacts → List ℕ
words_of_facts facts =
    word_of_fact facts.bases.text
    ∷ word_of_fact facts.bases.address
    ∷ word_of_fact facts.bases.ranges
    ∷ word_of_fact facts.bases.locations
    ∷ word_of_fact (low_half facts.low_pc)
    ∷ word_of_fact (high_half facts.low_pc)
    ∷ word_of_fact facts.line
    ∷ word_of_fact facts.root_end
    ∷ []

-- the address of its halves, modulo 2^64
unfoldable pub address_of_halves : Option ℕ → Option ℕ → Option ℕ
address_of_halves (Some low) (Some high) = Some ((high * 2 ^ 32 % 2 ^ 64 + low) % 2 ^ 64)
address_of_halves (Some low) None = None
address_of_halves None high = None

-- the facts that eight words tell
unfoldable pub facts_of_words : List ℕ → UnitFacts
facts_of_words words = record {
  bases = record {
    text = fact_of_word (slice_index words 0);
    address = fact_of_word (slice_index words 1);
    ranges = fact_of_word (slice_index words 2);
    locations = fact_of_word (slice_index words 3);
  };
  low_pc = address_of_halves (fact_of_word (slice_index words 4))
      (fact_of_word (slice_index words 5));
  line = fact_of_word (slice_index words 6);
  root_end = fact_of_word (slice_index words 7);
}

-- each of eight numbers may stand in the table
abbrev pub AreWords : List ℕ → Type 0
AreWords words = (word : ℕ) → word < 8 → IsWord (slice_index words word)

-- An address of at most 64 bits, as each that is read.
abbrev pub has_64_bits : Option ℕ → Bool
has_64_bits None = true
has_64_bits (Some n) = nat_lt n (2 ^ 64)
