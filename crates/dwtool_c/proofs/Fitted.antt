-- What a buffer holds behind another piece of a text.
use Rattle.std.proofs.Common.{◌≡◌, ◌∙◌, ◌≤◌, ◌<◌, ◌+◌, ◌-◌, ℕ, List, [], ◌++◌, length, take, drop, refl, sym, ap, append_assoc, length-append, arith}
use Rattle.std.proofs.lemmas.List.{append-nil, drop_all, drop-append-le, drop-drop, length-drop, length-take, take_all, take-append-le}
use borrow.Rule.Slice.PartMut.{mid_of, put_mid}
use Rattle.std.proofs.Math.Seq.{take-append-add, take-length}
use Rattle.dwtool_c.specs.Answers.{fitted}
use Rattle.dwtool_c.specs.Fronts.{IsFront}

-- a text that fits stands there whole
fitted_whole : (original text : List ℕ) → length text ≤ length original → fitted text original ≡ text ++ drop (length text) original
fitted_whole original text fits = ap (λ t. t ++ drop (length text) original) (take_all (length original) text fits)

-- of a text and another piece, where some of the piece has room
taken_more : (original text bytes : List ℕ) → length text ≤ length original
    → take (length original) (text ++ bytes) ≡ text ++ take (length original - length text) bytes
taken_more original text bytes fits =
    let split : length original ≡ length text + (length original - length text) = omega (arith, fits) in
    ap (λ n. take n (text ++ bytes)) split ∙ take-append-add text bytes (length original - length text)

fitted_more : (original text bytes : List ℕ) → length text ≤ length original
    → text ++ fitted bytes (drop (length text) original) ≡ fitted (text ++ bytes) original
fitted_more original text bytes fits =
    rw (length-drop (length text) original, drop-drop (length bytes) (length text) original, taken_more original text bytes fits, length-append text bytes)
    (sym (append_assoc text (take (length original - length text) bytes) (drop (length text + length bytes) original)))

-- a buffer that is full stays as it is
fitted_full : (original text bytes : List ℕ) → length original ≤ length text → fitted text original ≡ fitted (text ++ bytes) original
fitted_full original text bytes full =
    let past : length original ≤ length (text ++ bytes) = rw (length-append text bytes) (omega (arith, full)) in
    rw (drop_all (length text) original full, drop_all (length (text ++ bytes)) original past, take-append-le (length original) text bytes full) refl

length_fitted : (original text : List ℕ) → length (fitted text original) ≡ length original
length_fitted original text =
    rw (length-append (take (length original) text) (drop (length text) original), length-take (length original) text, length-drop (length text) original) (omega arith)

-- a buffer with a text that fits begins with it, and then has what stood there
front_before : (original text : List ℕ) → length text ≤ length original → take (length text) (fitted text original) ≡ text
front_before original text fits =
    rw (fitted_whole original text fits)
    (take-append-le (length text) text (drop (length text) original) (omega arith) ∙ take-length text)

front_behind : (original text : List ℕ) → length text ≤ length original → drop (length text) (fitted text original) ≡ drop (length text) original
front_behind original text fits =
    rw (fitted_whole original text fits)
    (drop-append-le (length text) text (drop (length text) original) (omega arith)
    ∙ ap (λ t. t ++ drop (length text) original) (drop_all (length text) text (omega arith)))

-- what is written behind so many bytes of a buffer, up to its end
written : (size : ℕ) (old part : List ℕ) → put_mid size (length old - size) old part ≡ take size old ++ part
written size old part =
    let past : length old ≤ size + (length old - size) = omega arith in
    ap (λ rest. take size old ++ rest) (ap (λ post. part ++ post) (drop-drop (length old - size) size old ∙ drop_all (size + (length old - size)) old past) ∙ append-nil part)

room : (size : ℕ) (old : List ℕ) → mid_of size (length old - size) old ≡ drop size old
room size old = take_all (length old - size) (drop size old) (rw (length-drop size old) (omega arith))

-- some of the piece had room
pub front_grows : (bytes old part : List ℕ) (size end : ℕ) → size < length old
    → part ≡ fitted bytes (mid_of size (length old - size) old) → end ≡ size + length bytes
    → (original text : List ℕ) → IsFront original text old size → IsFront original (text ++ bytes) (put_mid size (length old - size) old part) end
front_grows bytes old part size end inside is sum original text front =
    let same : length old ≡ length original = ap (λ l. length l) front.fits ∙ length_fitted original text in
    let fits : length text ≤ length original = omega (arith, inside, same, front.whole) in
    let begins : take size old ≡ text = ap (λ n. take n old) front.whole ∙ ap (λ l. take (length text) l) front.fits ∙ front_before original text fits in
    let behind : drop size old ≡ drop (length text) original = ap (λ n. drop n old) front.whole ∙ ap (λ l. drop (length text) l) front.fits ∙ front_behind original text fits in
    let piece : part ≡ fitted bytes (drop (length text) original) = is ∙ ap (λ l. fitted bytes l) (room size old ∙ behind) in
    record {
      fits = written size old part ∙ ap (λ l. l ++ part) begins ∙ ap (λ l. text ++ l) piece ∙ fitted_more original text bytes fits;
      whole = sum ∙ ap (λ n. n + length bytes) front.whole ∙ sym (length-append text bytes);
    }

-- the buffer was full
pub front_stays : (bytes old : List ℕ) (size end : ℕ) → length old ≤ size → end ≡ size + length bytes
    → (original text : List ℕ) → IsFront original text old size → IsFront original (text ++ bytes) old end
front_stays bytes old size end full sum original text front =
    let same : length old ≡ length original = ap (λ l. length l) front.fits ∙ length_fitted original text in
    record {
      fits = front.fits ∙ fitted_full original text bytes (omega (arith, full, same, front.whole));
      whole = sum ∙ ap (λ n. n + length bytes) front.whole ∙ sym (length-append text bytes);
    }

-- nothing of a text was put yet
pub front_of_nothing : (original : List ℕ) → IsFront original [] original 0
front_of_nothing original = record {
  fits = sym (ap (λ t. t ++ original) (take_all (length original) [] (omega arith)));
  whole = refl;
}
