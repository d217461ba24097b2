-- What each kind of word gives, in the words of specs/GivenWords.antt.
use Rattle.std.proofs.Common.{◌≡◌, true, false, refl, List, ◌∷◌, Some, None, codes, bytes_eq}
use Rattle.dw_words.specs.GivenWords.{WordBytes, given_of, nothing_given, option_of, is_dashed, with_stats, with_value, with_word}

module _ (word : WordBytes) (words : List WordBytes) where
  pub gives_dashes : bytes_eq word (codes "--") ≡ true → given_of false (word ∷ words) ≡ Some (record nothing_given { rest = words })
  unfolding given_of
  gives_dashes d = rw d refl

  pub gives_workers : (name : WordBytes) → bytes_eq word (codes "--") ≡ false → option_of word ≡ Some (name, None) → bytes_eq (codes "workers") name ≡ true → given_of false (word ∷ words) ≡ given_of true words
  unfolding given_of
  gives_workers name d o n = rw (d, o, n) refl

  pub gives_workers_value : (name v : WordBytes) → bytes_eq word (codes "--") ≡ false → option_of word ≡ Some (name, Some v) → bytes_eq (codes "workers") name ≡ true → given_of false (word ∷ words) ≡ with_value v (given_of false words)
  unfolding given_of
  gives_workers_value name v d o n = rw (d, o, n) refl

  pub gives_stats : (name : WordBytes) → bytes_eq word (codes "--") ≡ false → option_of word ≡ Some (name, None) → bytes_eq (codes "workers") name ≡ false → bytes_eq (codes "stats") name ≡ true → given_of false (word ∷ words) ≡ with_stats (given_of false words)
  unfolding given_of
  gives_stats name d o n m = rw (d, o, n, m) refl

  pub gives_no_value : (name v : WordBytes) → bytes_eq word (codes "--") ≡ false → option_of word ≡ Some (name, Some v) → bytes_eq (codes "workers") name ≡ false → given_of false (word ∷ words) ≡ None
  unfolding given_of
  gives_no_value name v d o n = rw (d, o, n) refl

  pub gives_unknown : (name : WordBytes) → bytes_eq word (codes "--") ≡ false → option_of word ≡ Some (name, None) → bytes_eq (codes "workers") name ≡ false → bytes_eq (codes "stats") name ≡ false → given_of false (word ∷ words) ≡ None
  unfolding given_of
  gives_unknown name d o n m = rw (d, o, n, m) refl

  pub gives_dashed : bytes_eq word (codes "--") ≡ false → option_of word ≡ None → is_dashed word ≡ true → given_of false (word ∷ words) ≡ None
  unfolding given_of
  gives_dashed d o s = rw (d, o, s) refl

  pub gives_word : bytes_eq word (codes "--") ≡ false → option_of word ≡ None → is_dashed word ≡ false → given_of false (word ∷ words) ≡ with_word word (given_of false words)
  unfolding given_of
  gives_word d o s = rw (d, o, s) refl

  pub gives_value : given_of true (word ∷ words) ≡ with_value word (given_of false words)
  unfolding given_of
  gives_value = refl
