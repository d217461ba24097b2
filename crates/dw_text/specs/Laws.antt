-- Laws of what is appended, for loops that append piece after piece.
use Rattle.std.specs.Prelude.{◌≡◌, refl, ℕ, suc, ◌+◌, ◌-◌, ◌≤◌, true, List, [], ◌∷◌, ◌++◌, length, take, drop, Result, Ok, Err}
use Rattle.std.proofs.Common.{ap, ◌∙◌, append_assoc, length-drop, length-take-le, arith, get_or-take, get_or-drop}
use Rattle.dw_text.specs.Added.{Adds}
use Rattle.dw_text.specs.Escapes.{IsPlainFrom, escape, escaped, is_plain}

-- a text that was appended, and then another
pub adds_then : {E : Type 0} (r : Result (Unit {0}) E) (old mid new a b : List ℕ) → mid ≡ old ++ a → Adds r mid new b → Adds r old new (a ++ b)
adds_then (Ok u) old mid new a b e p = p ∙ ap (λ x. x ++ b) e ∙ append_assoc old a b
adds_then (Err f) old mid new a b e p = (a ++ p.0, p.1 ∙ ap (λ x. x ++ p.0) e ∙ append_assoc old a p.0)

-- a byte that stands for itself
pub plain_escape : (b : ℕ) → is_plain b ≡ true → escape b ≡ b ∷ []
unfolding escape
plain_escape b e = rw e refl

-- a text of bytes that stand for themselves has no escape
pub plain_all : (text : List ℕ) → IsPlainFrom text 0 (length text) → escaped text ≡ text
unfolding escaped
plain_all [] p = refl
plain_all (x ∷ xs) p =
    ap (λ t. t ++ escaped xs) (plain_escape x (p 0 (omega arith) (omega arith)))
    ∙ ap (λ t. x ∷ t) (plain_all xs (λ k low high. p (suc k) (omega arith) (omega arith)))

-- the same of a part of a text
pub plain_part : (text : List ℕ) (from end : ℕ) → from ≤ end → end ≤ length text → IsPlainFrom text from end
    → escaped (take (end - from) (drop from text)) ≡ take (end - from) (drop from text)
plain_part text from end begins within plain =
    let long : length (take (end - from) (drop from text)) ≡ end - from = length-take-le (end - from) (drop from text) (omega (arith, length-drop from text)) in
    plain_all (take (end - from) (drop from text)) (λ k low high.
    rw (get_or-take (end - from) (drop from text) k 0 (omega (arith, long)), get_or-drop from text k 0) (plain (from + k) (omega arith) (omega (arith, long))))
