-- What a word looks like to `clap`, and to specs/GivenWords.antt.
use Rattle.std.proofs.Common.{◌≡◌, ◌∙◌, ◌⊎◌, ◌==◌, ℕ, Bool, true, false, refl, sym, ap, subst, inl, inr, arith, eqb-true, List, [], ◌∷◌, length, Option, Some, None, codes, bytes_eq, chars, slice_get, option_and_then}
use Rattle.std.specs.Char.{encode_utf8}
use Rattle.std.specs.Str.{IsUtf8}
use Rattle.std.proofs.Math.Utf8.{encodes}
use Rattle.std.proofs.lemmas.Str.{chars_past_char, encodes-chars}
use Rattle.clap.specs.Lexer.{long_of, short_of}
use Rattle.dw_words.specs.GivenWords.{GivenWords, WordBytes, as_worker_count, worker_count, is_dashed, option_of, option_parts, with_value}
use Rattle.dw_words.specs.Numbers.{decimal_of, number_in}
use Rattle.dw_words.proofs.Holding.{if_none, meant}
use Rattle.dw_words.proofs.WordSteps.{and-false}

-- the word begins with `-`
abbrev pub HasHyphen : WordBytes → Type 0
HasHyphen word = (t : WordBytes) × (word ≡ 45 ∷ t)

pub record IsDashes (word : WordBytes) : Type 0 where
  pub dashes : bytes_eq word (codes "--") ≡ true
  pub hyphen : HasHyphen word

pub record IsOption (word : WordBytes) : Type 0 where
  pub dashes : bytes_eq word (codes "--") ≡ false
  pub hyphen : HasHyphen word
  pub name : WordBytes
  pub value : Option WordBytes
  pub long : long_of word ≡ Some (name, value)
  pub option : option_of word ≡ Some (name, value)

pub record IsShort (word : WordBytes) : Type 0 where
  pub dashes : bytes_eq word (codes "--") ≡ false
  pub hyphen : HasHyphen word
  pub long : long_of word ≡ None
  pub option : option_of word ≡ None
  pub dashed : is_dashed word ≡ true
  pub first : ℕ
  pub others : WordBytes
  pub short : short_of word ≡ Some (first ∷ others)
  pub char : ℕ
  pub chars_from : slice_get (chars (first ∷ others)) 0 ≡ Some char

pub record IsPlainWord (word : WordBytes) : Type 0 where
  pub dashes : bytes_eq word (codes "--") ≡ false
  pub long : long_of word ≡ None
  pub short : short_of word ≡ None
  pub option : option_of word ≡ None
  pub dashed : is_dashed word ≡ false

abbrev pub Spelled : WordBytes → Type 0
Spelled word = IsDashes word ⊎ (IsOption word ⊎ (IsShort word ⊎ IsPlainWord word))

-- behind the hyphen of a word stands a character
first_char : (x : ℕ) (xs : List ℕ) → IsUtf8 (45 ∷ x ∷ xs) → (c : ℕ) × (slice_get (chars (x ∷ xs)) 0 ≡ Some c)
unfolding encode_utf8
first_char x xs u =
    let past = chars_past_char (45 ∷ x ∷ xs) (x ∷ xs) 45 u refl in
    go (chars (x ∷ xs)) (sym (ap encodes past) ∙ encodes-chars (45 ∷ x ∷ xs) u)
  where
    go : (cs : List ℕ) → encodes (45 ∷ cs) ≡ 45 ∷ x ∷ xs → (c : ℕ) × (slice_get cs 0 ≡ Some c)
    go [] e =
        let short : 1 ≡ length (45 ∷ x ∷ xs) = ap length e in
        absurd (omega (arith, short))
    go (c ∷ cs) e = (c, refl)

long_word : (a b c : ℕ) (cs : WordBytes) → (a == 45) ≡ true → (b == 45) ≡ true → HasHyphen (a ∷ b ∷ c ∷ cs) → IsOption (a ∷ b ∷ c ∷ cs)
long_word a b c cs e f h = record { dashes = rw (e, f) refl; hyphen = h; name = (option_parts (c ∷ cs)).0; value = (option_parts (c ∷ cs)).1; long = rw (e, f) refl; option = rw (e, f) refl }

short_word : (a b : ℕ) (cs : WordBytes) → (a == 45) ≡ true → (b == 45) ≡ false → IsUtf8 (a ∷ b ∷ cs) → HasHyphen (a ∷ b ∷ cs) → IsShort (a ∷ b ∷ cs)
short_word a b cs e f u h =
    let is : a ≡ 45 = eqb-true a 45 e in
    let char = first_char b cs (subst (λ x. IsUtf8 (x ∷ b ∷ cs)) is u) in
    record {
      dashes = rw (e, f) refl;
      hyphen = h;
      long = rw (e, f) refl;
      option = none cs;
      dashed = rw e refl;
      first = b;
      others = cs;
      short = rw (e, f) refl;
      char = char.0;
      chars_from = char.1;
    }
  where
    none : (cs : WordBytes) → option_of (a ∷ b ∷ cs) ≡ None
    none [] = refl
    none (c ∷ cs) = rw (e, f) refl

plain_word : (a : ℕ) (cs : WordBytes) → (a == 45) ≡ false → IsPlainWord (a ∷ cs)
plain_word a cs e = record { dashes = rw e refl; long = rw e refl; short = rw e refl; option = none cs; dashed = no cs }
  where
    none : (cs : WordBytes) → option_of (a ∷ cs) ≡ None
    none [] = refl
    none (b ∷ []) = refl
    none (b ∷ c ∷ cs) = rw e refl

    no : (cs : WordBytes) → is_dashed (a ∷ cs) ≡ false
    no [] = refl
    no (b ∷ cs) = e

pub spelled : (word : WordBytes) → IsUtf8 word → Spelled word
spelled [] u = inr (inr (inr (record { dashes = refl; long = refl; short = refl; option = refl; dashed = refl })))
spelled (a ∷ rest) u = go (a == 45) refl
  where
    second : (rest : WordBytes) → (a == 45) ≡ true → IsUtf8 (a ∷ rest) → Spelled (a ∷ rest)
    second [] e u = inr (inr (inr (record { dashes = rw e refl; long = rw e refl; short = rw e refl; option = refl; dashed = refl })))
    second (b ∷ cs) e u = third (b == 45) refl cs u
      where
        third : (t : Bool) → (b == 45) ≡ t → (cs : WordBytes) → IsUtf8 (a ∷ b ∷ cs) → Spelled (a ∷ b ∷ cs)
        third true f [] u = inl (record { dashes = rw (e, f) refl; hyphen = (b ∷ [], ap (λ x. x ∷ b ∷ []) (eqb-true a 45 e)) })
        third true f (c ∷ cs) u = inr (inl (long_word a b c cs e f (b ∷ c ∷ cs, ap (λ x. x ∷ b ∷ c ∷ cs) (eqb-true a 45 e))))
        third false f cs u = inr (inr (inl (short_word a b cs e f u (b ∷ cs, ap (λ x. x ∷ b ∷ cs) (eqb-true a 45 e)))))

    go : (t : Bool) → (a == 45) ≡ t → Spelled (a ∷ rest)
    go true e = second rest e u
    go false e = inr (inr (inr (plain_word a rest e)))

-- a word that begins with `-` is no number of workers
no_number : (t : WordBytes) → decimal_of (45 ∷ t) ≡ None
unfolding number_in
no_number t = rw (and-false _) refl

no_count : (t : WordBytes) → worker_count (45 ∷ t) ≡ None
unfolding worker_count
no_count t = ap (option_and_then as_worker_count) (no_number t)

pub no_value : (word : WordBytes) → HasHyphen word → (g : GivenWords) (o : Option GivenWords) → meant g (with_value word o) ≡ None
no_value word h g None = refl
no_value word h g (Some k) = go g.workers refl k.workers refl
  where
    none : worker_count word ≡ None
    none = ap worker_count h.1 ∙ no_count h.0

    go : (xs : List WordBytes) → g.workers ≡ xs → (ys : List WordBytes) → k.workers ≡ ys → meant g (with_value word (Some k)) ≡ None
    go [] e [] f = rw (e, f, none) (if_none _)
    go [] e (y ∷ ys) f = rw (e, f) (if_none _)
    go (x ∷ []) e ys f = rw e (if_none _)
    go (x ∷ z ∷ zs) e ys f = rw e (if_none _)
