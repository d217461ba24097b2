-- How what is met, one after another, is seen.
use Rattle.std.specs.Prelude.{◌≡◌, ℕ, ◌+◌, ◌<◌, ◌≤◌, List, ◌++◌, length, drop, slice_index_or, map, Ok}
use Rattle.std.proofs.Common.{sym, ap, ◌∙◌}
use Rattle.std.proofs.lemmas.List.{at_drop_more, at_drop_all}
use Rattle.visit_queries.specs.declared.visitor.Turn.{Turn}
use Rattle.visit_queries.specs.declared.visitor.Turn.TheVariants.{More, Enough}
use Rattle.visit_queries.specs.Shown.{ShownEntry, Met, met_shown}
use Rattle.visit_queries.specs.Seen.{Step, behind_turn, seen_by}

module _ {X : Type 0} (step : Step) (view : X → ShownEntry) (xs : List X) (i : ℕ) (others : List Met) (state : List ℕ) where
  -- the entry at hand is seen first
  pub seen_here : (d : X) → i < length xs
      → seen_by step (met_shown (map view (drop i xs)) ++ others) state
      ≡ behind_turn (step (view (slice_index_or xs i d)) state) (seen_by step (met_shown (map view (drop (i + 1) xs)) ++ others))
  unfolding seen_by
  seen_here d within = at_drop_more (λ ys. seen_by step (met_shown (map view ys) ++ others) state) xs i d within

  -- no entry is left
  pub seen_all : length xs ≤ i → seen_by step (met_shown (map view (drop i xs)) ++ others) state ≡ seen_by step others state
  unfolding seen_by
  seen_all past = at_drop_all (λ ys. seen_by step (met_shown (map view ys) ++ others) state) xs i past

  module _ (now : Step) (after : List ℕ) (turn : Turn) (d : X) (same : (e : ShownEntry) (s : List ℕ) → now e s ≡ step e s)
      (within : i < length xs) (taken : now (view (slice_index_or xs i d)) state ≡ (after, turn)) where
    -- the entry at hand was seen, and it is not enough
    pub seen_more : turn ≡ More
        → seen_by step (met_shown (map view (drop i xs)) ++ others) state
        ≡ seen_by step (met_shown (map view (drop (i + 1) xs)) ++ others) after
    seen_more more =
        seen_here d within
        ∙ ap (λ r. behind_turn r (seen_by step (met_shown (map view (drop (i + 1) xs)) ++ others)))
        (sym (same (view (slice_index_or xs i d)) state) ∙ taken ∙ ap (λ t. (after, t)) more)

    -- the entry at hand was seen, and it is enough
    pub seen_enough : turn ≡ Enough → seen_by step (met_shown (map view (drop i xs)) ++ others) state ≡ Ok after
    seen_enough enough =
        seen_here d within
        ∙ ap (λ r. behind_turn r (seen_by step (met_shown (map view (drop (i + 1) xs)) ++ others)))
        (sym (same (view (slice_index_or xs i d)) state) ∙ taken ∙ ap (λ t. (after, t)) enough)
