-- Laws of what is appended.
use Rattle.std.proofs.Common.{ℕ, zero, suc, ◌+◌, ◌-◌, ◌/◌, ◌%◌, ◌<◌, ◌≤◌, ◌≡◌, refl, sym, ap, subst, ◌∙◌, true, false, List, [], ◌∷◌, ◌++◌, length, drop, take, set, get_or, append_assoc, append-nil, drop-cons, drop_of_length-le, length-drop, arith}
use Rattle.std.proofs.lemmas.List.{take_more_set, length-set, get_or-drop}
use Rattle.std.proofs.Common.{ltb, drop-drop}
use Rattle.std.proofs.lemmas.Bool.{false≢true}
use Rattle.std.proofs.lemmas.Bool.Decides.{nat_tests}
use Rattle.std.specs.Prelude.{Result}
use Rattle.std.specs.Fmt.{digit_glyph}
use Rattle.std.proofs.Math.IntN.{ℤ, pos, negsuc, nat_abs}
use Rattle.std.specs.Int.Signed.{lt_z}
use Rattle.dw_text.specs.Laws.{adds_then, plain_escape}
use Rattle.dw_text.specs.Added.{Adds, labelled}
use Rattle.dw_text.specs.Numbers.{signed, decimal}
use Rattle.dw_text.specs.Bytes.{hex_bytes}
use Rattle.dw_text.specs.Escapes.{escape, escaped, IsPlainFrom}

pub hex_bytes_parts : (n : ℕ) (bytes : List ℕ) → hex_bytes bytes ≡ hex_bytes (take n bytes) ++ hex_bytes (drop n bytes)
unfolding hex_bytes
hex_bytes_parts zero bytes = refl
hex_bytes_parts (suc n) [] = refl
hex_bytes_parts (suc n) (b ∷ bytes) = ap (λ x. digit_glyph false (b / 16) ∷ digit_glyph false (b % 16) ∷ x) (hex_bytes_parts n bytes)

pub hex_bytes_at : (bytes : List ℕ) (i : ℕ) → i < length bytes
    → hex_bytes (drop i bytes) ≡ digit_glyph false (get_or bytes i 0 / 16) ∷ digit_glyph false (get_or bytes i 0 % 16) ∷ hex_bytes (drop (i + 1) bytes)
unfolding hex_bytes
hex_bytes_at bytes i within =
    let e : suc i ≡ i + 1 = omega arith in
    ap hex_bytes (drop-cons bytes i 0 within) ∙ ap (λ j. digit_glyph false (get_or bytes i 0 / 16) ∷ digit_glyph false (get_or bytes i 0 % 16) ∷ hex_bytes (drop j bytes)) e

pub take_two : (xs : List ℕ) (i x y : ℕ) → i + 1 < length xs → take (i + 2) (set (set xs i x) (i + 1) y) ≡ take i xs ++ (x ∷ y ∷ [])
take_two xs i x y within =
    let e : i + 2 ≡ (i + 1) + 1 = omega arith in
    let long = length-set xs i x in
    ap (λ j. take j (set (set xs i x) (i + 1) y)) e
    ∙ take_more_set (set xs i x) (i + 1) y (omega arith)
    ∙ ap (λ l. l ++ (y ∷ [])) (take_more_set xs i x (omega arith))
    ∙ append_assoc (take i xs) (x ∷ []) (y ∷ [])

pub escaped_at : (text : List ℕ) (i : ℕ) → i < length text → escaped (drop i text) ≡ escape (get_or text i 0) ++ escaped (drop (i + 1) text)
unfolding escaped
escaped_at text i within =
    let e : suc i ≡ i + 1 = omega arith in
    ap escaped (drop-cons text i 0 within) ∙ ap (λ j. escape (get_or text i 0) ++ escaped (drop j text)) e

pub hex_bytes_end : (bytes : List ℕ) (i : ℕ) → length bytes ≤ i → hex_bytes (drop i bytes) ≡ []
unfolding hex_bytes
hex_bytes_end bytes i past = ap hex_bytes (drop_of_length-le bytes {i = i} past)

pub escaped_end : (text : List ℕ) (i : ℕ) → length text ≤ i → escaped (drop i text) ≡ []
unfolding escaped
escaped_end text i past = ap escaped (drop_of_length-le text {i = i} past)

pub chunk_more : (filled_digits bytes : List ℕ) (filled i x y : ℕ) → filled + 1 < length filled_digits → i < length bytes
    → x ≡ digit_glyph false (get_or bytes i 0 / 16) → y ≡ digit_glyph false (get_or bytes i 0 % 16)
    → take (filled + 2) (set (set filled_digits filled x) (filled + 1) y) ++ hex_bytes (drop (i + 1) bytes) ≡ take filled filled_digits ++ hex_bytes (drop i bytes)
chunk_more ds bytes filled i x y room within e f =
    ap (λ t. t ++ hex_bytes (drop (i + 1) bytes)) (take_two ds filled x y room)
    ∙ append_assoc (take filled ds) (x ∷ y ∷ []) (hex_bytes (drop (i + 1) bytes))
    ∙ (λ j. take filled ds ++ (e j ∷ f j ∷ hex_bytes (drop (i + 1) bytes)))
    ∙ ap (λ t. take filled ds ++ t) (sym (hex_bytes_at bytes i within))

pub chunk_whole : (filled_digits bytes : List ℕ) (filled i : ℕ) → length bytes ≤ i
    → take filled filled_digits ++ hex_bytes (drop i bytes) ≡ hex_bytes bytes → take filled filled_digits ≡ hex_bytes bytes
chunk_whole ds bytes filled i past e = sym (append-nil (take filled ds)) ∙ ap (λ t. take filled ds ++ t) (sym (hex_bytes_end bytes i past)) ∙ e

pub chunk_then : {E : Type 0} (r : Result (Unit {0}) E) (old mid new bytes front behind : List ℕ) (n : ℕ) → front ≡ take n bytes → behind ≡ drop n bytes
    → mid ≡ old ++ hex_bytes front → Adds r mid new (hex_bytes behind) → Adds r old new (hex_bytes bytes)
chunk_then r old mid new bytes front behind n e f m p =
    subst (λ t. Adds r old new t) (ap (λ t. t ++ hex_bytes behind) (ap hex_bytes e) ∙ ap (λ t. hex_bytes (take n bytes) ++ t) (ap hex_bytes f) ∙ sym (hex_bytes_parts n bytes))
    (adds_then r old mid new (hex_bytes front) (hex_bytes behind) m p)

pub chunk_end : (old bytes : List ℕ) → length bytes ≡ 0 → old ≡ old ++ hex_bytes bytes
unfolding hex_bytes
chunk_end old [] e = sym (append-nil old)
chunk_end old (b ∷ bytes) e = absurd (omega arith)

-- plain bytes at the start of a text stand as they are
plain_run : (xs : List ℕ) (n : ℕ) → n ≤ length xs → IsPlainFrom xs 0 n → escaped xs ≡ take n xs ++ escaped (drop n xs)
unfolding escaped
plain_run xs zero within p = refl
plain_run [] (suc n) within p = absurd (omega arith)
plain_run (x ∷ xs) (suc n) within p =
    ap (λ t. t ++ escaped xs) (plain_escape x (p 0 (omega arith) (omega arith)))
    ∙ ap (λ t. x ∷ t) (plain_run xs n (omega arith) (λ k low high. p (suc k) (omega arith) (omega arith)))

-- bytes that stand for themselves are their own text with escapes
pub run_of : (text : List ℕ) (from end : ℕ) → from ≤ end → end ≤ length text → IsPlainFrom text from end
    → escaped (drop from text) ≡ take (end - from) (drop from text) ++ escaped (drop end text)
run_of text from end begins within plain =
    let n : from + (end - from) ≡ end = omega arith in
    plain_run (drop from text) (end - from) (omega (arith, length-drop from text)) (λ k low high. rw (get_or-drop from text k 0) (plain (from + k) (omega arith) (omega arith)))
    ∙ ap (λ t. take (end - from) (drop from text) ++ escaped t) (drop-drop (end - from) from text ∙ ap (λ j. drop j text) n)

pub run_last : (old mid text : List ℕ) (done end : ℕ) → length text ≤ end
    → escaped (drop done text) ≡ take (end - done) (drop done text) ++ escaped (drop end text)
    → mid ≡ old ++ take (end - done) (drop done text) → mid ≡ old ++ escaped (drop done text)
run_last old mid text done end past run m =
    m ∙ ap (λ t. old ++ t) (sym (append-nil (take (end - done) (drop done text))) ∙ ap (λ t. take (end - done) (drop done text) ++ t) (sym (escaped_end text end past)) ∙ sym run)

pub escape_then : {E : Type 0} (r : Result (Unit {0}) E) (old mid later new text : List ℕ) (done end : ℕ) → end < length text
    → escaped (drop done text) ≡ take (end - done) (drop done text) ++ escaped (drop end text)
    → mid ≡ old ++ take (end - done) (drop done text) → later ≡ mid ++ escape (get_or text end 0)
    → Adds r later new (escaped (drop (end + 1) text)) → Adds r old new (escaped (drop done text))
escape_then r old mid later new text done end within run m n p =
    let q = adds_then r mid later new _ _ n p in
    let s = adds_then r old mid new _ _ m (subst (λ t. Adds r mid new t) (sym (escaped_at text end within)) q) in
    subst (λ t. Adds r old new t) (sym run) s

pub signed_below : (z : ℤ) → lt_z z (pos 0) ≡ true → signed z ≡ labelled (45 ∷ []) (decimal (nat_abs z))
unfolding labelled
signed_below (pos n) e = absurd (false≢true (sym (no n) ∙ e))
  where
    no : (n : ℕ) → ltb n 0 ≡ false
    no n = grind (arith, nat_tests)
signed_below (negsuc n) e = refl

pub signed_above : (z : ℤ) → lt_z z (pos 0) ≡ false → signed z ≡ labelled [] (decimal (nat_abs z))
unfolding labelled
signed_above (pos n) e = refl
signed_above (negsuc n) e = absurd (false≢true (sym e))

-- a front that is within the first of two parts
pub drop_inside : (n : ℕ) (front behind : List ℕ) → n ≤ length front → drop n (front ++ behind) ≡ drop n front ++ behind
drop_inside zero front behind within = refl
drop_inside (suc n) [] behind within = absurd (omega arith)
drop_inside (suc n) (b ∷ front) behind within = drop_inside n front behind (omega arith)
