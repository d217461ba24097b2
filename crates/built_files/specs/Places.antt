-- Bytes that lie at a place of other bytes.
use Rattle.std.specs.Prelude.{◌≡◌, ℕ, ◌+◌, ◌-◌, ◌<◌, ◌≤◌, List, [], ◌∷◌, ◌++◌, length, take, drop}
use Rattle.std.proofs.Common.{arith, ap, sym, subst, ◌∙◌, append_assoc, append-nil, drop-drop, length-append, length-drop}
use Rattle.std.proofs.Math.Seq.{drop-append_seam, take-append_seam}

-- from the place on, the bytes begin with this part
pub record LiesAt (bytes : List ℕ) (place : ℕ) (part : List ℕ) : Type 0 where
  pub rest : List ℕ
  pub is : drop place bytes ≡ part ++ rest

pub lies_whole : (bytes : List ℕ) → LiesAt bytes 0 bytes
lies_whole bytes = record { rest = []; is = sym (append-nil bytes) }

-- the front of a part lies where the part does
pub lies_front : {bytes : List ℕ} {place : ℕ} → (xs ys : List ℕ) → LiesAt bytes place (xs ++ ys) → LiesAt bytes place xs
lies_front xs ys l = record { rest = ys ++ l.rest; is = l.is ∙ append_assoc xs ys l.rest }

-- and its back lies behind the front
pub lies_back : {bytes : List ℕ} {place : ℕ} → (xs ys : List ℕ) → LiesAt bytes place (xs ++ ys) → LiesAt bytes (place + length xs) ys
lies_back {bytes = bytes} {place = place} xs ys l =
    record {
      rest = l.rest;
      is = sym (drop-drop (length xs) place bytes)
          ∙ ap (λ (t : List ℕ). drop (length xs) t) (l.is ∙ append_assoc xs ys l.rest)
          ∙ drop-append_seam xs (ys ++ l.rest);
    }

pub lies_at : {bytes : List ℕ} {place there : ℕ} {part : List ℕ} → place ≡ there → LiesAt bytes place part → LiesAt bytes there part
lies_at {bytes = bytes} {part = part} e l = subst (λ p. LiesAt bytes p part) e l

pub lies_as : {bytes : List ℕ} {place : ℕ} {part other : List ℕ} → part ≡ other → LiesAt bytes place part → LiesAt bytes place other
lies_as {bytes = bytes} {place = place} e l = subst (λ p. LiesAt bytes place p) e l

-- as many bytes from the place on are the part
pub lies_taken : {bytes : List ℕ} {place : ℕ} {part : List ℕ} → LiesAt bytes place part → take (length part) (drop place bytes) ≡ part
lies_taken {part = part} l = ap (λ (t : List ℕ). take (length part) t) l.is ∙ take-append_seam part l.rest

-- a part that isn't empty lies inside
pub lies_inside : {bytes : List ℕ} {place : ℕ} {part : List ℕ} → 0 < length part → LiesAt bytes place part → place + length part ≤ length bytes
lies_inside {bytes = bytes} {place = place} {part = part} some l =
    let left : length bytes - place ≡ length part + length l.rest = sym (length-drop place bytes) ∙ ap (λ (t : List ℕ). length t) l.is ∙ length-append part l.rest in
    omega arith

-- parts one behind the other, the first of them in front
abbrev pub in_a_row : List ℕ → List (List ℕ) → List ℕ
in_a_row front [] = front
in_a_row front (part ∷ parts) = in_a_row (front ++ part) parts

-- each of them lies behind those before it
abbrev pub AllLie : List ℕ → ℕ → List (List ℕ) → Type 0
AllLie bytes place [] = Unit {0}
AllLie bytes place (part ∷ parts) = LiesAt bytes place part × AllLie bytes (place + length part) parts

pub row_front : {bytes : List ℕ} {place : ℕ} → (front : List ℕ) (parts : List (List ℕ)) → LiesAt bytes place (in_a_row front parts) → LiesAt bytes place front
row_front front [] l = l
row_front front (part ∷ parts) l = lies_front front part (row_front (front ++ part) parts l)

pub row_lies : {bytes : List ℕ} {place : ℕ} → (front : List ℕ) (parts : List (List ℕ)) → LiesAt bytes place (in_a_row front parts) → AllLie bytes (place + length front) parts
row_lies front [] l = tt
row_lies {bytes = bytes} {place = place} front (part ∷ parts) l =
    let on : place + length (front ++ part) ≡ place + length front + length part = omega (arith, length-append front part) in
    (lies_back front part (row_front (front ++ part) parts l), subst (λ p. AllLie bytes p parts) on (row_lies (front ++ part) parts l))
