-- Laws of texts without escapes, and of where such a text ends.
use Rattle.std.specs.Prelude.{◌≡◌, refl, ℕ, zero, suc, ◌+◌, ◌-◌, ◌<◌, ◌≤◌, ◌==◌, nat_lt, Bool, true, false, List, [], ◌∷◌, ◌++◌, length, take, drop, get_or, codes, position, Ok, Some, None}
use Rattle.std.specs.List.{position_or_len}
use Rattle.std.proofs.Common.{sym, ap, ◌∙◌, append_assoc, arith, length-drop, get_or-drop, cond}
use Rattle.std.proofs.lemmas.Bool.Decides.{nat_tests}
use Rattle.dw_text.specs.Added.{labelled}
use Rattle.dw_text.specs.Escapes.{IsPlainFrom, escaped, is_plain}
use Rattle.form_values.specs.Resolved.{text_from}
use Rattle.unit_text.specs.Values.{quoted}

-- the line of a text without escapes, behind the name
pub quoted_line : (text : List ℕ) → escaped text ≡ text → codes " text \"" ++ (text ++ codes "\"\n") ≡ quoted text ++ (10 ∷ [])
unfolding quoted labelled
quoted_line text plain =
    ap (λ t. codes " text \"" ++ (t ++ codes "\"\n")) (sym plain)
    ∙ sym (append_assoc (codes " text \"") (escaped text) (codes "\"\n"))
    ∙ sym (append_assoc (codes " text \"" ++ escaped text) (codes "\"") (10 ∷ []))

-- zero does not stand for itself
not_zero : (b : ℕ) → is_plain b ≡ true → (b == 0) ≡ false
unfolding is_plain
not_zero zero plain = sym plain
not_zero (suc b) plain = grind (arith, nat_tests)

-- a zero byte behind bytes that stand for themselves is the first
ends_at : (xs : List ℕ) (n : ℕ) → n < length xs → IsPlainFrom xs 0 n → get_or xs n 0 ≡ 0 → position_or_len (λ b. b == 0) xs ≡ n
ends_at [] n within plain zero-there = absurd (omega arith)
ends_at (x ∷ xs) zero within plain e = rw e refl
ends_at (x ∷ xs) (suc n) within plain e =
    let more : 1 + n ≡ suc n = omega arith in
    rw (not_zero x (plain 0 (omega arith) (omega arith)))
    (ap (λ m. 1 + m) (ends_at xs n (omega arith) (λ k low high. plain (suc k) (omega arith) (omega arith)) e) ∙ more)

-- the text at a place of a section whose bytes stand for themselves up to a zero byte
pub plain_text_from : (section : List ℕ) (place end : ℕ) → place ≤ end → end < length section → IsPlainFrom section place end → get_or section end 0 ≡ 0
    → text_from section place ≡ Ok (take (end - place) (drop place section))
unfolding text_from
plain_text_from section place end begins within plain e =
    let xs = drop place section in
    let n = end - place in
    let p : ℕ → Bool = λ b. b == 0 in
    let there : place + n ≡ end = omega arith in
    let at : position_or_len p xs ≡ n =
    ends_at xs n (omega (arith, length-drop place section))
    (λ k low high. rw (get_or-drop place section k 0) (plain (place + k) (omega arith) (omega arith)))
    (get_or-drop place section n 0 ∙ ap (λ j. get_or section j 0) there ∙ e) in
    let inside : nat_lt place (length section) ≡ true = grind (arith, nat_tests) in
    let met : nat_lt n (length xs) ≡ true = grind (arith, nat_tests, length-drop place section) in
    let pos : position p xs ≡ Some n = ap (λ m. cond (nat_lt m (length xs)) (Some m) None) at ∙ ap (λ b. cond b (Some n) None) met in
    rw (inside, pos) refl
