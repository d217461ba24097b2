-- The words of a table as a list: what one write changes, and how many there are.
use Rattle.std.proofs.Common.{◌≡◌, ◌≢◌, ℕ, ◌+◌, ◌*◌, ◌/◌, ◌<◌, ◌≤◌, Bool, List, length, set, slice_index, if◌then◌else◌, refl, sym, subst, ◌∙◌, arith, lt-ltb, le-ltb, get_or-set_other, get_or-set_same}
use mathlib.Core.Logic.{dite}
use native.Mathlib.Decide.{dec_lt}
use Rattle.map_core.specs.declared.entry.Entry.{Entry}
use Rattle.map_core.specs.declared.layout.Layout.{Layout}
use Rattle.map_core.specs.Sizes.{cells_of}
use Rattle.map_core.specs.declared.places.TheConstants.{CURRENT_WORD, COUNT_WORD, FIRST_CELL_WORD}
use Rattle.map_core.specs.Places.{base, offset, word_count, take_word, key_place, value_place, finish_place, takes_in, cells_in, Within, IsCell}
use Rattle.map_core.specs.Machine.{state_of}
use Rattle.map_core.specs.Events.{WritesWord}
use Rattle.map_core.proofs.SizeLemmas.{last_small, cells_small}
use Rattle.map_core.proofs.PlaceLemmas.{base_is, cells_double, place_within}

pub last_low : (l : Layout) → l.last ≤ 17
last_low l = last_small l.capacity l.passes l.last l.capacity_fits.1 l.passes_fit.1 l.last_fits

-- no generation has a higher number
pub within_low : (l : Layout) (g : ℕ) → Within l g → g ≤ 17
within_low l g w = let a = last_low l in let b = w.1 in omega arith

-- two words for each cell and one for each block, behind the first words
pub words_are : (l : Layout) (n : ℕ) → n + 64 ≡ cells_of (l.last + 1) → 2 * n + n / 64 + FIRST_CELL_WORD ≡ word_count l
unfolding word_count offset
words_are l n is =
    let x : ℕ = base l.last in
    let y : ℕ = cells_of l.last in
    let z : ℕ = cells_of (l.last + 1) in
    let a : x + 64 ≡ y = base_is l.last in
    let b : z ≡ 2 * y = cells_double l.last in
    let is' : n + 64 ≡ z = is in
    let same : n ≡ x + y = omega arith in
    λ i. 2 * same i + same i / 64 + FIRST_CELL_WORD

-- no table has more words
abbrev pub most_words : ℕ
most_words = 34000000

pub words_small : (l : Layout) → word_count l ≤ most_words
unfolding word_count offset
words_small l =
    let x : ℕ = base l.last in
    let y : ℕ = cells_of l.last in
    let a : x + 64 ≡ y = base_is l.last in
    let b : y ≤ 8388608 = cells_small l.last (last_low l) in
    let goal : 2 * (x + y) + (x + y) / 64 + 64 ≤ 34000000 = omega arith in goal

-- the current generation, the count and the take words are words of the table
has_first : (l : Layout) (q : ℕ) → q < 64 → q < word_count l
unfolding word_count offset
has_first l q low = let n : ℕ = base l.last + cells_of l.last in let goal : q < 2 * n + n / 64 + 64 = omega arith in goal

pub has_count : (l : Layout) → COUNT_WORD < word_count l
has_count l = has_first l COUNT_WORD (omega arith)

pub has_current : (l : Layout) → CURRENT_WORD < word_count l
has_current l = has_first l CURRENT_WORD (omega arith)

take_low : (l : Layout) (g : ℕ) → Within l g → take_word g < 64
unfolding take_word
take_low l g w = let a = within_low l g w in let goal : 32 + g < 64 = omega arith in goal

pub has_take : (l : Layout) (g : ℕ) → Within l g → take_word g < word_count l
has_take l g w = has_first l (take_word g) (take_low l g w)

pub key_within : (l : Layout) (g i : ℕ) → IsCell l g i → key_place l g i + offset l < word_count l
unfolding word_count key_place
key_within l g i a =
    let p = place_within l g i a in
    let x : ℕ = base g + i in
    let y : ℕ = base l.last + cells_of l.last in
    let o : ℕ = offset l in
    let p' : x < y = p in
    let goal : 2 * x + o < 2 * y + y / 64 + o = omega arith in goal

pub value_within : (l : Layout) (g i : ℕ) → IsCell l g i → value_place l g i + offset l < word_count l
unfolding word_count value_place
value_within l g i a =
    let p = place_within l g i a in
    let x : ℕ = base g + i in
    let y : ℕ = base l.last + cells_of l.last in
    let o : ℕ = offset l in
    let p' : x < y = p in
    let goal : 2 * x + 1 + o < 2 * y + y / 64 + o = omega arith in goal

pub same_place : (l : Layout) (p q : ℕ) → p + offset l ≡ q + offset l → p ≡ q
same_place l p q e = let o : ℕ = offset l in let e' : p + o ≡ q + o = e in let goal : p ≡ q = omega arith in goal

-- a word before the cells is none of theirs
first_apart : (l : Layout) (p q : ℕ) → q < 64 → q ≢ p + offset l
unfolding offset
first_apart l p q low e = let e' : q ≡ p + 64 = e in omega arith

-- the take words that a table has
takes_here : (l : Layout) (ws : List ℕ) (g : ℕ) → g ≤ l.last → takes_in l ws g ≡ slice_index ws (take_word g)
takes_here l ws g le = let x : ℕ = slice_index ws (take_word g) in subst (λ (b : Bool). (if b then 0 else x) ≡ x) (sym (le-ltb l.last g le)) refl

takes_above : (l : Layout) (ws : List ℕ) (g : ℕ) → l.last < g → takes_in l ws g ≡ 0
takes_above l ws g lt = let x : ℕ = slice_index ws (take_word g) in subst (λ (b : Bool). ◌≡◌ {A = ℕ} (if b then 0 else x) 0) (sym (lt-ltb l.last g lt)) refl

-- a write to another word leaves the take words
takes_still : (l : Layout) (ws : List ℕ) (q x : ℕ) → ((g : ℕ) → g ≤ l.last → take_word g ≢ q) → (g : ℕ) → takes_in l (set ws q x) g ≡ takes_in l ws g
takes_still l ws q x apart g =
    dite (dec_lt l.last g)
    (λ above. takes_above l (set ws q x) g above ∙ sym (takes_above l ws g above))
    (λ here. let le : g ≤ l.last = omega arith in takes_here l (set ws q x) g le ∙ (get_or-set_other ws q (take_word g) x 0 (apart g le) ∙ sym (takes_here l ws g le)))

-- where all words are 0, so are the take words
pub takes_zero : (l : Layout) (ws : List ℕ) → ((q : ℕ) → slice_index ws q ≡ 0) → (g : ℕ) → takes_in l ws g ≡ 0
takes_zero l ws zeros g =
    dite (dec_lt l.last g)
    (λ above. takes_above l ws g above)
    (λ here. takes_here l ws g (omega arith) ∙ zeros (take_word g))

take_below : (l : Layout) (g : ℕ) → g ≤ l.last → take_word g < 64
unfolding take_word
take_below l g le = let a = last_low l in let goal : 32 + g < 64 = omega arith in goal

-- a take word is neither the count word nor that of the current generation
pub take_behind : (g : ℕ) → 32 ≤ take_word g
unfolding take_word
take_behind g = omega arith

pub same_take : (g h : ℕ) → take_word g ≡ take_word h → g ≡ h
unfolding take_word
same_take g h e = let e' : 32 + g ≡ 32 + h = e in omega arith

-- one cell word is written
pub writes_word : (l : Layout) (ws : List ℕ) (log log' : List Entry) (p x : ℕ) → p + offset l < length ws → WritesWord p (slice_index ws (p + offset l)) x (state_of l ws log) (state_of l (set ws (p + offset l) x) log')
writes_word l ws log log' p x low =
    record {
      was = refl;
      is = get_or-set_same ws (p + offset l) x 0 low;
      only = λ q ne. get_or-set_other ws (p + offset l) (q + offset l) x 0 (λ e. ne (same_place l q p e));
      current = get_or-set_other ws (p + offset l) CURRENT_WORD x 0 (first_apart l p CURRENT_WORD (omega arith));
      count = get_or-set_other ws (p + offset l) COUNT_WORD x 0 (first_apart l p COUNT_WORD (omega arith));
      takes = takes_still l ws (p + offset l) x (λ g le. first_apart l p (take_word g) (take_below l g le));
    }

-- a word before the cells is written
pub first_cells : (l : Layout) (ws : List ℕ) (q x : ℕ) → q < 64 → (p : ℕ) → cells_in l (set ws q x) p ≡ cells_in l ws p
first_cells l ws q x low p = get_or-set_other ws q (p + offset l) x 0 (λ e. first_apart l p q low (sym e))

-- the count word or that of the current generation
pub first_takes : (l : Layout) (ws : List ℕ) (q x : ℕ) → q < 32 → (g : ℕ) → takes_in l (set ws q x) g ≡ takes_in l ws g
first_takes l ws q x low = takes_still l ws q x (λ g le e. let behind = take_behind g in omega arith)

-- a take word is written
pub take_cells : (l : Layout) (ws : List ℕ) (g x : ℕ) → Within l g → (p : ℕ) → cells_in l (set ws (take_word g) x) p ≡ cells_in l ws p
take_cells l ws g x w p = first_cells l ws (take_word g) x (take_low l g w) p

pub take_others : (l : Layout) (ws : List ℕ) (g x : ℕ) → (h : ℕ) → h ≢ g → takes_in l (set ws (take_word g) x) h ≡ takes_in l ws h
unfolding take_word
take_others l ws g x h ne =
    dite (dec_lt l.last h)
    (λ above. takes_above l (set ws (take_word g) x) h above ∙ sym (takes_above l ws h above))
    (λ here. let le : h ≤ l.last = omega arith in
    let apart : take_word h ≢ take_word g = λ e. let e' : 32 + h ≡ 32 + g = e in ne (omega arith) in
    takes_here l (set ws (take_word g) x) h le ∙ (get_or-set_other ws (take_word g) (take_word h) x 0 apart ∙ sym (takes_here l ws h le)))

pub take_is : (l : Layout) (ws : List ℕ) (g : ℕ) → Within l g → takes_in l ws g ≡ slice_index ws (take_word g)
take_is l ws g w = takes_here l ws g w.1

pub take_written : (l : Layout) (ws : List ℕ) (g x : ℕ) → Within l g → take_word g < length ws → takes_in l (set ws (take_word g) x) g ≡ x
take_written l ws g x w low = takes_here l (set ws (take_word g) x) g w.1 ∙ get_or-set_same ws (take_word g) x 0 low

pub first_current : (ws : List ℕ) (q x : ℕ) → 0 < q → slice_index (set ws q x) CURRENT_WORD ≡ slice_index ws CURRENT_WORD
first_current ws q x pos = get_or-set_other ws q CURRENT_WORD x 0 (λ e. omega arith)

pub first_count : (ws : List ℕ) (q x : ℕ) → q ≢ COUNT_WORD → slice_index (set ws q x) COUNT_WORD ≡ slice_index ws COUNT_WORD
first_count ws q x ne = get_or-set_other ws q COUNT_WORD x 0 (λ e. ne (sym e))

-- the places by what the code computes, where n cells lie below the generation
pub key_word_is : (l : Layout) (g i n : ℕ) → n + 64 ≡ cells_of g → 2 * (n + i) + FIRST_CELL_WORD ≡ key_place l g i + offset l
unfolding key_place offset
key_word_is l g i n is =
    let b : ℕ = base g in
    let m : ℕ = cells_of g in
    let e : b + 64 ≡ m = base_is g in
    let is' : n + 64 ≡ m = is in
    let goal : 2 * (n + i) + 64 ≡ 2 * (b + i) + 64 = omega arith in goal

-- a cell's value word lies behind its key word
pub value_word_is : (l : Layout) (g i : ℕ) → key_place l g i + offset l + 1 ≡ value_place l g i + offset l
unfolding key_place value_place
value_word_is l g i = let b : ℕ = base g in let o : ℕ = offset l in let goal : 2 * (b + i) + o + 1 ≡ 2 * (b + i) + 1 + o = omega arith in goal

-- m cells are in the table
pub finish_word_is : (l : Layout) (g b n m : ℕ) → n + 64 ≡ cells_of g → m + 64 ≡ cells_of (l.last + 1) → 2 * m + (n / 64 + b) + FIRST_CELL_WORD ≡ finish_place l g b + offset l
unfolding finish_place offset
finish_word_is l g b n m is whole =
    let x : ℕ = base l.last in
    let y : ℕ = cells_of l.last in
    let z : ℕ = cells_of (l.last + 1) in
    let a : x + 64 ≡ y = base_is l.last in
    let d : z ≡ 2 * y = cells_double l.last in
    let whole' : m + 64 ≡ z = whole in
    let same : m ≡ x + y = omega arith in
    let c : ℕ = base g in
    let k : ℕ = cells_of g in
    let e : c + 64 ≡ k = base_is g in
    let is' : n + 64 ≡ k = is in
    let below : n ≡ c = omega arith in
    λ i. 2 * same i + (below i / 64 + b) + FIRST_CELL_WORD
