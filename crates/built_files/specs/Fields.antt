-- A number in a field of fixed width reads back.
use Rattle.std.specs.Prelude.{◌≡◌, ℕ, ◌+◌, ◌<◌, ◌^◌, List, ◌++◌, length, Bool, true, false}
use Rattle.std.proofs.Common.{arith, ap, ◌∙◌, length-append}
use Rattle.byteorder.specs.Numbers.{length-bytes_high_first, length-bytes_low_first, big_number-reads_back, little_number-reads_back}
use Rattle.dw_fields.specs.declared.byte_order.Order.{Order}
use Rattle.dw_fields.specs.declared.byte_order.Order.TheVariants.{Little, Big}
use Rattle.dw_fields.specs.Reading.{number_of}
use Rattle.elf_builder.specs.Fields.{field, word_field}
use Rattle.elf_sections.specs.Layouts as layouts
use Rattle.elf_sections.specs.Layouts.{word_size}
use Rattle.elf_sections.specs.declared.class_layout.ClassLayout.{ClassLayout}
use Rattle.built_files.specs.Places.{LiesAt}

pub length-field : (order : Order) (n x : ℕ) → length (field order n x) ≡ n
unfolding field
length-field Little n x = length-bytes_low_first 0 n x
length-field Big n x = length-bytes_high_first n x

-- what a field begins with is the number, where it fits
pub number-field : (order : Order) (n x : ℕ) (rest : List ℕ) → x < 256 ^ n → number_of order n (field order n x ++ rest) ≡ x
unfolding field
number-field Little n x rest fits = little_number-reads_back n x rest fits
number-field Big n x rest fits = big_number-reads_back n x rest fits

pub field_read : {file : List ℕ} {place : ℕ} (order : Order) (n x : ℕ) → x < 256 ^ n → LiesAt file place (field order n x) → layouts.field order n place file ≡ x
unfolding layouts.field
field_read order n x fits l = ap (number_of order n) l.is ∙ number-field order n x l.rest fits

word_long : (wide : Bool) (x : ℕ) → x < 2 ^ 32 → x < 256 ^ word_size (record { order = Little; wide = wide })
unfolding word_size
word_long true x small = omega arith
word_long false x small = small

-- a number of 32 bits fits a word of either class
pub fits_word : (layout : ClassLayout) (x : ℕ) → x < 2 ^ 32 → x < 256 ^ word_size layout
unfolding word_size
fits_word layout x small = word_long layout.wide x small

pub length-word : (layout : ClassLayout) (x : ℕ) → length (word_field layout x) ≡ word_size layout
unfolding word_field
length-word layout x = length-field layout.order (word_size layout) x

pub word_read : {file : List ℕ} {place : ℕ} (layout : ClassLayout) (x : ℕ) → x < 2 ^ 32 → LiesAt file place (word_field layout x) → layouts.word layout place file ≡ x
unfolding word_field
word_read layout x small l = field_read layout.order (word_size layout) x (fits_word layout x small) l

-- lengths of parts, one behind the other
pub length_more : (xs ys : List ℕ) (m n : ℕ) → length xs ≡ m → length ys ≡ n → length (xs ++ ys) ≡ m + n
length_more xs ys m n front back = length-append xs ys ∙ ap (λ k. k + length ys) front ∙ ap (λ k. m + k) back
