-- Places tell cells apart, and the walk of a key passes each cell once.
use Rattle.std.proofs.Common.{◌≡◌, ◌≢◌, ℕ, ◌+◌, ◌-◌, ◌*◌, ◌/◌, ◌^◌, ◌<◌, ◌≤◌, refl, sym, ap, arith, mod-lt, pow_pos}
use Rattle.std.proofs.lemmas.Nat.{pow-add}
use mathlib.Core.Logic.{dite}
use native.Mathlib.Decide.{ℕ_discrete, dec_lt}
use Rattle.map_core.specs.declared.layout.Layout.{Layout}
use Rattle.map_core.specs.Sizes.{cells_of}
use Rattle.map_core.specs.Places.{lowest, base, offset, word_count, key_place, value_place, finish_place, home, spot, Within, IsCell, IsBlock}
use Rattle.map_core.proofs.SizeLemmas.{cells_pos, cells_mono}

pub last_within : (l : Layout) → Within l l.last
unfolding lowest
last_within l = (omega arith, omega arith)

pub lowest_within : (l : Layout) → Within l (lowest l)
unfolding lowest
lowest_within l = (omega arith, omega arith)

pub lowest_zero : (l : Layout) → lowest l ≡ 0
unfolding lowest
lowest_zero l = refl

-- each generation up to the last is one of the table's
pub up_to_last : (l : Layout) (g : ℕ) → g ≤ l.last → Within l g
unfolding lowest
up_to_last l g le = (omega arith, le)

-- the generation above one that isn't the last
pub next_within : (l : Layout) (g : ℕ) → Within l g → g + 1 ≤ l.last → Within l (g + 1)
next_within l g w le = let lo = w.0 in (omega arith, le)

-- a generation has twice the cells of the one below
pub cells_double : (g : ℕ) → cells_of (g + 1) ≡ 2 * cells_of g
unfolding cells_of
cells_double g =
    let p : 2 ^ (1 + g) ≡ 2 ^ 1 * 2 ^ g = pow-add 2 1 g in
    let e : g + 1 ≡ 1 + g = omega arith in
    let x : ℕ = 2 ^ g in
    let y : ℕ = 2 ^ (g + 1) in
    let z : ℕ = 2 ^ (1 + g) in
    let same : y ≡ z = ap (λ (n : ℕ). 2 ^ n) e in
    let twice : z ≡ 2 * x = p in
    let goal : 64 * y ≡ 2 * (64 * x) = omega arith in goal

-- below a generation lie 64 cells less than it has
pub base_is : (g : ℕ) → base g + 64 ≡ cells_of g
unfolding base cells_of
base_is g = let x : ℕ = 2 ^ g in let pos : 0 < x = pow_pos g in let goal : 64 * (x - 1) + 64 ≡ 64 * x = omega arith in goal

-- the cells of a generation lie below those of a higher one
pub base_next : (g h : ℕ) → g < h → base g + cells_of g ≤ base h
base_next g h lt =
    let a : ℕ = base g in
    let b : ℕ = base h in
    let x : ℕ = cells_of g in
    let y : ℕ = cells_of h in
    let z : ℕ = cells_of (g + 1) in
    let p : a + 64 ≡ x = base_is g in
    let q : b + 64 ≡ y = base_is h in
    let r : z ≡ 2 * x = cells_double g in
    let s : z ≤ y = cells_mono (g + 1) h (omega arith) in
    let goal : a + x ≤ b = omega arith in goal

-- and so do its blocks
pub blocks_next : (g h : ℕ) → g < h → base g / 64 + cells_of g / 64 ≤ base h / 64
unfolding base cells_of
blocks_next g h lt =
    let next = base_next g h lt in
    let x : ℕ = 2 ^ g in
    let y : ℕ = 2 ^ h in
    let next' : 64 * (x - 1) + 64 * x ≤ 64 * (y - 1) = next in
    let goal : 64 * (x - 1) / 64 + 64 * x / 64 ≤ 64 * (y - 1) / 64 = omega arith in goal

-- two cells at one place are one
pub same_cell : (l : Layout) (g i h j : ℕ) → IsCell l g i → IsCell l h j → base g + i ≡ base h + j → (g ≡ h) × (i ≡ j)
same_cell l g i h j a b e =
    let x : ℕ = base g in
    let y : ℕ = base h in
    let n : ℕ = cells_of g in
    let m : ℕ = cells_of h in
    let small : i < n = a.1 in
    let small' : j < m = b.1 in
    let e' : x + i ≡ y + j = e in
    dite (dec_lt g h)
    (λ lt. let next : x + n ≤ y = base_next g h lt in absurd (omega arith))
    (λ ge. dite (dec_lt h g)
    (λ lt. let next : y + m ≤ x = base_next h g lt in absurd (omega arith))
    (λ le. let p : g ≡ h = omega arith in let q : x ≡ y = ap base p in (p, omega arith)))

-- the cells below a generation's end are at most those of the table
pub up_to_end : (l : Layout) (g : ℕ) → g ≤ l.last → base g + cells_of g ≤ base l.last + cells_of l.last
up_to_end l g le =
    let x : ℕ = base g in
    let y : ℕ = base l.last in
    let n : ℕ = cells_of g in
    let m : ℕ = cells_of l.last in
    dite (ℕ_discrete g l.last)
    (λ e. let p : x ≡ y = ap base e in let q : n ≡ m = ap cells_of e in let goal : x + n ≤ y + m = omega arith in goal)
    (λ ne. let next : x + n ≤ y = base_next g l.last (omega arith) in let goal : x + n ≤ y + m = omega arith in goal)

-- a cell's place is inside the table
pub place_within : (l : Layout) (g i : ℕ) → IsCell l g i → base g + i < base l.last + cells_of l.last
place_within l g i a =
    let x : ℕ = base g in
    let n : ℕ = cells_of g in
    let y : ℕ = base l.last + cells_of l.last in
    let small : i < n = a.1 in
    let end : x + n ≤ y = up_to_end l g a.0.1 in
    let goal : x + i < y = omega arith in goal

-- the block of a cell
pub cell_block : (l : Layout) (g i : ℕ) → IsCell l g i → IsBlock l g (i / 64)
unfolding cells_of
cell_block l g i a = let x : ℕ = 2 ^ g in let small : i < 64 * x = a.1 in let goal : i / 64 < 64 * x / 64 = omega arith in (a.0, goal)

-- two blocks with one finish word are one
pub same_block : (l : Layout) (g b h c : ℕ) → IsBlock l g b → IsBlock l h c → finish_place l g b ≡ finish_place l h c → (g ≡ h) × (b ≡ c)
unfolding finish_place
same_block l g b h c a d e =
    let x : ℕ = base g / 64 in
    let y : ℕ = base h / 64 in
    let n : ℕ = cells_of g / 64 in
    let m : ℕ = cells_of h / 64 in
    let t : ℕ = 2 * (base l.last + cells_of l.last) in
    let small : b < n = a.1 in
    let small' : c < m = d.1 in
    let e' : t + (x + b) ≡ t + (y + c) = e in
    dite (dec_lt g h)
    (λ lt. let next : x + n ≤ y = blocks_next g h lt in absurd (omega arith))
    (λ ge. dite (dec_lt h g)
    (λ lt. let next : y + m ≤ x = blocks_next h g lt in absurd (omega arith))
    (λ le. let p : g ≡ h = omega arith in let q : x ≡ y = ap (λ (z : ℕ). base z / 64) p in (p, omega arith)))

-- a finish word is one of the table's
pub block_within : (l : Layout) (g b : ℕ) → IsBlock l g b → finish_place l g b + offset l < word_count l
unfolding finish_place word_count base cells_of
block_within l g b a =
    let end = up_to_end l g a.0.1 in
    let x : ℕ = 2 ^ g in
    let y : ℕ = 2 ^ l.last in
    let o : ℕ = offset l in
    let small : b < 64 * x / 64 = a.1 in
    let end' : 64 * (x - 1) + 64 * x ≤ 64 * (y - 1) + 64 * y = end in
    let goal : 2 * (64 * (y - 1) + 64 * y) + (64 * (x - 1) / 64 + b) + o < 2 * (64 * (y - 1) + 64 * y) + (64 * (y - 1) + 64 * y) / 64 + o = omega arith in goal

module _ (l : Layout) where
  pub key_key : (g i h j : ℕ) → IsCell l g i → IsCell l h j → key_place l g i ≡ key_place l h j → (g ≡ h) × (i ≡ j)
  unfolding key_place
  key_key g i h j a b e = let x : ℕ = base g in let y : ℕ = base h in let e' : 2 * (x + i) ≡ 2 * (y + j) = e in let s : x + i ≡ y + j = omega arith in same_cell l g i h j a b s

  pub value_value : (g i h j : ℕ) → IsCell l g i → IsCell l h j → value_place l g i ≡ value_place l h j → (g ≡ h) × (i ≡ j)
  unfolding value_place
  value_value g i h j a b e = let x : ℕ = base g in let y : ℕ = base h in let e' : 2 * (x + i) + 1 ≡ 2 * (y + j) + 1 = e in let s : x + i ≡ y + j = omega arith in same_cell l g i h j a b s

  pub key_value : (g i h j : ℕ) → key_place l g i ≢ value_place l h j
  unfolding key_place value_place
  key_value g i h j e = let x : ℕ = base g in let y : ℕ = base h in let e' : 2 * (x + i) ≡ 2 * (y + j) + 1 = e in omega arith

  pub value_key : (g i h j : ℕ) → value_place l g i ≢ key_place l h j
  value_key g i h j e = key_value h j g i (sym e)

  pub key_finish : (g i h b : ℕ) → IsCell l g i → key_place l g i ≢ finish_place l h b
  unfolding key_place finish_place
  key_finish g i h b a e =
      let x : ℕ = base g + i in
      let y : ℕ = base l.last + cells_of l.last in
      let z : ℕ = base h / 64 + b in
      let e' : 2 * x ≡ 2 * y + z = e in
      let s : x < y = place_within l g i a in omega arith

  pub value_finish : (g i h b : ℕ) → IsCell l g i → value_place l g i ≢ finish_place l h b
  unfolding value_place finish_place
  value_finish g i h b a e =
      let x : ℕ = base g + i in
      let y : ℕ = base l.last + cells_of l.last in
      let z : ℕ = base h / 64 + b in
      let e' : 2 * x + 1 ≡ 2 * y + z = e in
      let s : x < y = place_within l g i a in omega arith

  pub spot_cell : (g k d : ℕ) → Within l g → IsCell l g (spot g k d)
  unfolding spot
  spot_cell g k d w = (w, mod-lt (home g k + d) (cells_pos g))
