-- Words that are read as addresses, one after another.
use Rattle.std.proofs.Common.{◌≡◌, ◌∙◌, ◌<◌, ◌≤◌, ◌+◌, arith, drop_of_length-le, ℕ, suc, refl, sym, ap, subst, append_assoc, append-nil, drop-cons, List, [], ◌∷◌, ◌++◌, drop, length, map, Option, Some, None, option_map, get_or}
use Rattle.std.specs.Borrow.{Bor}
use Rattle.dw_words.specs.Numbers.{address_of_word}
use Rattle.dw_words.specs.Requests.{addresses_of}

-- the addresses behind those that are read
abbrev pub behind_read : List ℕ → Option (List ℕ) → Option (List ℕ)
behind_read done = option_map (λ more. done ++ more)

pub addresses_start : (o : Option (List ℕ)) → o ≡ behind_read [] o
addresses_start None = refl
addresses_start (Some more) = refl

pub addresses_next : (all : Option (List ℕ)) (done : List ℕ) (word : List ℕ) (words : List (List ℕ)) (a : ℕ) → all ≡ behind_read done (addresses_of (word ∷ words)) → Some a ≡ address_of_word word
    → all ≡ behind_read (done ++ a ∷ []) (addresses_of words)
unfolding addresses_of
addresses_next all done word words a e f = e ∙ rw (← f) (go (addresses_of words))
  where
    go : (o : Option (List ℕ)) → behind_read done (option_map (λ others. a ∷ others) o) ≡ behind_read (done ++ a ∷ []) o
    go None = refl
    go (Some others) = ap Some (sym (append_assoc done (a ∷ []) others))

pub addresses_stop : (all : Option (List ℕ)) (done : List ℕ) (word : List ℕ) (words : List (List ℕ)) → all ≡ behind_read done (addresses_of (word ∷ words)) → None ≡ address_of_word word → all ≡ None
unfolding addresses_of
addresses_stop all done word words e f = e ∙ rw (← f) refl

pub addresses_end : (all : Option (List ℕ)) (done : List ℕ) → all ≡ behind_read done (addresses_of []) → all ≡ Some done
unfolding addresses_of
addresses_end all done e = e ∙ ap Some (append-nil done)

-- ---- the loop over a slice of words

abbrev pub words_from : List (Bor (List ℕ)) → ℕ → List (List ℕ)
words_from words i = map (λ word. word.now) (drop i words)

pub stop_at : (all : Option (List ℕ)) (done : List ℕ) (words : List (Bor (List ℕ))) (i : ℕ) (d : Bor (List ℕ)) → i < length words → all ≡ behind_read done (addresses_of (words_from words i)) → None ≡ address_of_word (get_or words i d).now → all ≡ None
stop_at all done words i d lt e f =
    addresses_stop all done (get_or words i d).now (words_from words (suc i)) (e ∙ ap (λ (ws : List (Bor (List ℕ))). behind_read done (addresses_of (map (λ word. word.now) ws))) (drop-cons words i d lt)) f

pub next_at : (all : Option (List ℕ)) (done new : List ℕ) (words : List (Bor (List ℕ))) (i a : ℕ) (d : Bor (List ℕ)) → i < length words → all ≡ behind_read done (addresses_of (words_from words i)) → Some a ≡ address_of_word (get_or words i d).now
    → new ≡ done ++ a ∷ [] → all ≡ behind_read new (addresses_of (words_from words (i + 1)))
next_at all done new words i a d lt e f grown =
    let next : suc i ≡ i + 1 = omega arith in
    let here = addresses_next all done (get_or words i d).now (words_from words (suc i)) a (e ∙ ap (λ (ws : List (Bor (List ℕ))). behind_read done (addresses_of (map (λ word. word.now) ws))) (drop-cons words i d lt)) f in
    subst (λ n. all ≡ behind_read new (addresses_of (words_from words n))) next (subst (λ l. all ≡ behind_read l (addresses_of (words_from words (suc i)))) (sym grown) here)

pub end_at : (all : Option (List ℕ)) (done : List ℕ) (words : List (Bor (List ℕ))) (i : ℕ) → length words ≤ i → all ≡ behind_read done (addresses_of (words_from words i)) → all ≡ Some done
end_at all done words i le e = addresses_end all done (e ∙ ap (λ (ws : List (Bor (List ℕ))). behind_read done (addresses_of (map (λ word. word.now) ws))) (drop_of_length-le words le))
