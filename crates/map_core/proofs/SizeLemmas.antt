-- On the sizes of generations.
use Rattle.std.proofs.Common.{◌≡◌, ℕ, ◌+◌, ◌*◌, ◌^◌, ◌/◌, ◌%◌, ◌<◌, ◌≤◌, arith, pow_mono, pow_pos, mod-eq_of_lt}
use mathlib.Core.Logic.{dite}
use native.Mathlib.Decide.{dec_le}
use Rattle.map_core.specs.Sizes.{cells_of, IsLastFor}

pub cells_pos : (g : ℕ) → 0 < cells_of g
unfolding cells_of
cells_pos g = let h : 0 < 2 ^ g = pow_pos g in omega arith

pub cells_mono : (g h : ℕ) → g ≤ h → cells_of g ≤ cells_of h
unfolding cells_of
cells_mono g h le = let p : 2 ^ g ≤ 2 ^ h = pow_mono le in omega arith

-- the last generation of a table is at most 17
pub last_small : (capacity passes last : ℕ) → capacity ≤ 4194304 → passes ≤ 128 → IsLastFor capacity passes last → last ≤ 17
unfolding cells_of
last_small capacity passes last c p is = dite (dec_le last 17) (λ d. d) (λ n. let small : 3 * 8388608 < 4 * (capacity + passes) = is.1 17 (omega arith) in absurd (omega arith))

pub cells_small : (g : ℕ) → g ≤ 17 → cells_of g ≤ 8388608
unfolding cells_of
cells_small g le = let p : 2 ^ g ≤ 2 ^ 17 = pow_mono le in omega arith

-- nor has the one above it more
pub next_small : (g : ℕ) → g ≤ 18 → cells_of g ≤ 16777216
unfolding cells_of
next_small g le = let p : 2 ^ g ≤ 2 ^ 18 = pow_mono le in omega arith

pub cells_least : (g : ℕ) → 64 ≤ cells_of g
unfolding cells_of
cells_least g = let p : 0 < 2 ^ g = pow_pos g in let x : ℕ = 2 ^ g in let goal : 64 ≤ 64 * x = omega arith in goal

pub cells_shifted : (g : ℕ) → g ≤ 18 → 64 * 2 ^ g % 18446744073709551616 ≡ cells_of g
unfolding cells_of
cells_shifted g le = let p : 2 ^ g ≤ 2 ^ 18 = pow_mono le in let small : 64 * 2 ^ g < 18446744073709551616 = omega arith in mod-eq_of_lt small

pub not_last : (g needed : ℕ) → g ≤ 17 → needed ≤ 16777728 → 3 * cells_of g < needed → g + 1 ≤ 17
unfolding cells_of
not_last g needed le most more = dite (dec_le 17 g) (λ d. let p : 2 ^ 17 ≤ 2 ^ g = pow_mono d in absurd (omega arith)) (λ n. omega arith)

pub blocks_pos : (g : ℕ) → 0 < cells_of g / 64
unfolding cells_of
blocks_pos g = let h : 0 < 2 ^ g = pow_pos g in let x : ℕ = 2 ^ g in let e : 64 * x / 64 ≡ x = omega arith in omega arith

-- a generation is whole blocks
pub blocks_whole : (g : ℕ) → 64 * (cells_of g / 64) ≡ cells_of g
unfolding cells_of
blocks_whole g = let x : ℕ = 2 ^ g in let goal : 64 * (64 * x / 64) ≡ 64 * x = omega arith in goal
