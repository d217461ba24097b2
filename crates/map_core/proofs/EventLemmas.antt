-- Each event keeps the facts on the words and the history.
use Rattle.std.proofs.Common.{◌≡◌, ℕ, ◌<◌, ◌≤◌, List, [], ◌∷◌, ◌++◌, Some, None, sym, ap, subst, ◌∙◌, ⊎_elim}
use mathlib.Core.Logic.{dite}
use native.Mathlib.Decide.{ℕ_discrete}
use Rattle.map_core.specs.declared.entry.Entry.{Entry}
use Rattle.map_core.specs.declared.layout.Layout.{Layout}
use Rattle.map_core.specs.History.{value_in}
use Rattle.map_core.specs.Places.{key_place, value_place, IsCell}
use Rattle.map_core.specs.Machine.{greatest, IsWord, Keeps, Only, Reaches, OneCellPerKey, OneHistory}
use Rattle.map_core.proofs.PlaceLemmas.{last_within, key_key, value_value, key_value, value_key}
use Rattle.map_core.proofs.WordLemmas.{keeps_at, keeps_word, reaches_on, published_on}
use Rattle.map_core.proofs.HistoryLemmas.{value_stays, value_pushed, value_new, legal_push}

module _ (l : Layout) (C D : ℕ → ℕ) where
  -- the words of cells stay, as far as keys and values go
  abbrev pub SameCells : Type 0
  SameCells = (g i : ℕ) → IsCell l g i → (D (key_place l g i) ≡ C (key_place l g i)) × (D (value_place l g i) ≡ C (value_place l g i))

  module _ (keeps : Keeps C D) where
    pub cells_stay : SameCells → OneCellPerKey l C → OneCellPerKey l D
    cells_stay same m =
        record {
          walked = λ g i a w. let e = (same g i a).0 in subst (λ (x : ℕ). Reaches l D g i x) (sym e) (reaches_on l C D keeps g i (C (key_place l g i)) (m.walked g i a (subst IsWord e w)));
          keyed = λ g i a some_there. let e = same g i a in subst IsWord (sym e.0) (m.keyed g i a (subst (λ (x : ℕ). 0 < x) e.1 some_there));
          bounded = λ g i a. subst (λ (x : ℕ). x ≤ greatest) (sym (same g i a).1) (m.bounded g i a);
          last_open = λ i a. let e = same l.last i (last_within l, a) in let o = m.last_open i a in (subst (λ (x : ℕ). x < greatest) (sym e.0) o.0, subst (λ (x : ℕ). x < greatest) (sym e.1) o.1);
        }

    pub history_stays : (fits : ℕ → ℕ → Type 0) (log : List Entry) → SameCells → OneHistory l C fits log → OneHistory l D fits log
    history_stays fits log same m =
        record {
          kept = λ g i a w x. let e = same g i a in subst (λ (p : ℕ × ℕ). value_in log p.0 ≡ Some p.1) (λ j. (sym e.0 j, sym e.1 j)) (m.kept g i a (subst IsWord e.0 w) (subst IsWord e.1 x));
          stands = λ k v h. let p = m.stands k v h in (p.0, published_on l C D keeps p.0 k v p.1);
          legal = m.legal;
        }

  -- a key word g i becomes w, a key whose walk comes here, or sealed below the last generation
  module _ (g i w : ℕ) (cell : IsCell l g i) (empty : C (key_place l g i) ≡ 0) (now : D (key_place l g i) ≡ w) (only : Only (key_place l g i) C D) where
    key_keeps : Keeps C D
    key_keeps = keeps_at (key_place l g i) C D empty only

    pub key_cells : (IsWord w → Reaches l C g i w) → (g ≡ l.last → w < greatest) → OneCellPerKey l C → OneCellPerKey l D
    key_cells walk open_there m =
        record {
          walked = λ h j a x. dite (ℕ_discrete (key_place l h j) (key_place l g i))
              (λ e.
              let same = key_key l h j g i a cell e in
              let is : D (key_place l h j) ≡ w = ap D e ∙ now in
              subst (λ (p : ℕ × ℕ × ℕ). Reaches l D p.0 p.1 p.2) (λ t. (sym same.0 t, sym same.1 t, sym is t)) (reaches_on l C D key_keeps g i w (walk (subst IsWord is x))))
              (λ ne.
              let is = only (key_place l h j) ne in
              subst (λ (y : ℕ). Reaches l D h j y) (sym is) (reaches_on l C D key_keeps h j (C (key_place l h j)) (m.walked h j a (subst IsWord is x))));
          keyed = λ h j a some_there.
              let is = only (value_place l h j) (value_key l h j g i) in
              keeps_word C D key_keeps (key_place l h j) (m.keyed h j a (subst (λ (y : ℕ). 0 < y) is some_there));
          bounded = λ h j a. subst (λ (y : ℕ). y ≤ greatest) (sym (only (value_place l h j) (value_key l h j g i))) (m.bounded h j a);
          last_open = λ j a.
              let o = m.last_open j a in (
                dite (ℕ_discrete (key_place l l.last j) (key_place l g i))
                    (λ e. let same = key_key l l.last j g i (last_within l, a) cell e in subst (λ (y : ℕ). y < greatest) (sym (ap D e ∙ now)) (open_there (sym same.0)))
                    (λ ne. subst (λ (y : ℕ). y < greatest) (sym (only (key_place l l.last j) ne)) o.0),
                subst (λ (y : ℕ). y < greatest) (sym (only (value_place l l.last j) (value_key l l.last j g i))) o.1,
              );
        }

    pub key_history : (fits : ℕ → ℕ → Type 0) (log : List Entry) → OneCellPerKey l C → OneHistory l C fits log → OneHistory l D fits log
    key_history fits log m one =
        record {
          kept = λ h j a x y.
              let v = only (value_place l h j) (value_key l h j g i) in
              let old = subst IsWord v y in
              let k = key_keeps (key_place l h j) (m.keyed h j a old.0).0 in
              subst (λ (p : ℕ × ℕ). value_in log p.0 ≡ Some p.1) (λ t. (sym k t, sym v t)) (one.kept h j a (m.keyed h j a old.0) old);
          stands = λ k v h. let p = one.stands k v h in (p.0, published_on l C D key_keeps p.0 k v p.1);
          legal = one.legal;
        }

  -- the value word of a cell with a key becomes w
  module _ (g i w : ℕ) (cell : IsCell l g i) (key : IsWord (C (key_place l g i))) (unset : C (value_place l g i) ≡ 0) (now : D (value_place l g i) ≡ w) (only : Only (value_place l g i) C D) where
    value_keeps : Keeps C D
    value_keeps = keeps_at (value_place l g i) C D unset only

    keys_same : (h j : ℕ) → D (key_place l h j) ≡ C (key_place l h j)
    keys_same h j = only (key_place l h j) (key_value l h j g i)

    pub value_cells : w ≤ greatest → (g ≡ l.last → w < greatest) → OneCellPerKey l C → OneCellPerKey l D
    value_cells most open_there m =
        record {
          walked = λ h j a x.
              let is = keys_same h j in
              subst (λ (y : ℕ). Reaches l D h j y) (sym is) (reaches_on l C D value_keeps h j (C (key_place l h j)) (m.walked h j a (subst IsWord is x)));
          keyed = λ h j a some_there. dite (ℕ_discrete (value_place l h j) (value_place l g i))
              (λ e.
              let same = value_value l h j g i a cell e in
              subst (λ (p : ℕ × ℕ). IsWord (D (key_place l p.0 p.1))) (λ t. (sym same.0 t, sym same.1 t)) (subst IsWord (sym (keys_same g i)) key))
              (λ ne. let is = only (value_place l h j) ne in subst IsWord (sym (keys_same h j)) (m.keyed h j a (subst (λ (y : ℕ). 0 < y) is some_there)));
          bounded = λ h j a. dite (ℕ_discrete (value_place l h j) (value_place l g i))
              (λ e. subst (λ (y : ℕ). y ≤ greatest) (sym (ap D e ∙ now)) most)
              (λ ne. subst (λ (y : ℕ). y ≤ greatest) (sym (only (value_place l h j) ne)) (m.bounded h j a));
          last_open = λ j a.
              let o = m.last_open j a in (
                subst (λ (y : ℕ). y < greatest) (sym (keys_same l.last j)) o.0,
                dite (ℕ_discrete (value_place l l.last j) (value_place l g i))
                    (λ e. let same = value_value l l.last j g i (last_within l, a) cell e in subst (λ (y : ℕ). y < greatest) (sym (ap D e ∙ now)) (open_there (sym same.0)))
                    (λ ne. subst (λ (y : ℕ). y < greatest) (sym (only (value_place l l.last j) ne)) o.1),
              );
        }

    -- the value is the one that the history has, or it is not a value
    pub value_history : (fits : ℕ → ℕ → Type 0) (log : List Entry) → (IsWord w → value_in log (C (key_place l g i)) ≡ Some w) → OneHistory l C fits log → OneHistory l D fits log
    value_history fits log has one =
        record {
          kept = λ h j a x y. dite (ℕ_discrete (value_place l h j) (value_place l g i))
              (λ e.
              let same = value_value l h j g i a cell e in
              let v : D (value_place l h j) ≡ w = ap D e ∙ now in
              let k : D (key_place l h j) ≡ C (key_place l g i) = keys_same h j ∙ ap (λ (p : ℕ × ℕ). C (key_place l p.0 p.1)) (λ t. (same.0 t, same.1 t)) in
              subst (λ (p : ℕ × ℕ). value_in log p.0 ≡ Some p.1) (λ t. (sym k t, sym v t)) (has (subst IsWord v y)))
              (λ ne.
              let v = only (value_place l h j) ne in
              let k = keys_same h j in
              subst (λ (p : ℕ × ℕ). value_in log p.0 ≡ Some p.1) (λ t. (sym k t, sym v t)) (one.kept h j a (subst IsWord k x) (subst IsWord v y)));
          stands = λ k v h. let p = one.stands k v h in (p.0, published_on l C D value_keeps p.0 k v p.1);
          legal = one.legal;
        }

    -- the value is new, and the history gains the pair
    pub value_new_history : (fits : ℕ → ℕ → Type 0) (log : List Entry) (e : Entry) → e.key ≡ C (key_place l g i) → e.value ≡ w → IsWord w → value_in log e.key ≡ None → fits e.key e.value
        → OneHistory l C fits log → OneHistory l D fits (log ++ e ∷ [])
    value_new_history fits log e key_is value_is word lacks fit one =
        record {
          kept = λ h j a x y. dite (ℕ_discrete (value_place l h j) (value_place l g i))
              (λ at.
              let same = value_value l h j g i a cell at in
              let v : D (value_place l h j) ≡ e.value = (ap D at ∙ now) ∙ sym value_is in
              let k : D (key_place l h j) ≡ e.key = (keys_same h j ∙ ap (λ (p : ℕ × ℕ). C (key_place l p.0 p.1)) (λ t. (same.0 t, same.1 t))) ∙ sym key_is in
              subst (λ (p : ℕ × ℕ). value_in (log ++ e ∷ []) p.0 ≡ Some p.1) (λ t. (sym k t, sym v t)) (value_new log e lacks))
              (λ ne.
              let v = only (value_place l h j) ne in
              let k = keys_same h j in
              subst (λ (p : ℕ × ℕ). value_in (log ++ e ∷ []) p.0 ≡ Some p.1) (λ t. (sym k t, sym v t)) (value_stays log (e ∷ []) (C (key_place l h j)) (C (value_place l h j)) (one.kept h j a (subst IsWord k x) (subst IsWord v y))));
          stands = λ k v h. ⊎_elim
              (λ (old : value_in log k ≡ Some v). let p = one.stands k v old in (p.0, published_on l C D value_keeps p.0 k v p.1))
              (λ (new : (e.key ≡ k) × (e.value ≡ v)). (
                g,
                record {
                  index = i;
                  cell = cell;
                  key_is = keys_same g i ∙ (sym key_is ∙ new.0);
                  value_is = now ∙ (sym value_is ∙ new.1);
                  key = subst IsWord (sym key_is ∙ new.0) key;
                  value = subst IsWord (sym value_is ∙ new.1) word;
                },
              ))
              (value_pushed log e k v h);
          legal = legal_push fits log e one.legal lacks fit;
        }
