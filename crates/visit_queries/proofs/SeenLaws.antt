-- What a visitor has seen, in other words.
use Rattle.std.specs.Prelude.{◌≡◌, refl, ℕ, List, [], ◌∷◌, Ok, Err}
use Rattle.std.proofs.Common.{ap}
use Rattle.visit_queries.specs.declared.visitor.Turn.{Turn}
use Rattle.visit_queries.specs.declared.visitor.Turn.TheVariants.{More, Enough}
use Rattle.visit_queries.specs.Shown.{ShownEntry, Met}
use Rattle.visit_queries.specs.Seen.{IsSeen, Step, behind_turn, seen_by}

-- an entry, and what is seen behind it
seen_turn : (step : Step) (e : ShownEntry) (others : List Met) (state : List ℕ) (r : List ℕ × Turn) → step e state ≡ r
    → ((next : List ℕ) → IsSeen step others next (seen_by step others next))
    → IsSeen step (Ok e ∷ others) state (behind_turn r (seen_by step others))
seen_turn step e others state (next, More) is behind = let seen = behind next in record {
  entries = e ∷ seen.entries;
  others = seen.others;
  last = seen.last;
  met_is = ap (λ met. Ok e ∷ met) seen.met_is;
  more = (next, is, seen.more);
  end = seen.end;
}
seen_turn step e others state (next, Enough) is behind = record {
  entries = [];
  others = Ok e ∷ others;
  last = state;
  met_is = refl;
  more = refl;
  end = (next, is, refl);
}

pub is_seen : (step : Step) (met : List Met) (state : List ℕ) → IsSeen step met state (seen_by step met state)
unfolding seen_by
is_seen step [] state = record { entries = []; others = []; last = state; met_is = refl; more = refl; end = refl }
is_seen step (Ok e ∷ others) state = seen_turn step e others state (step e state) refl (λ next. is_seen step others next)
is_seen step (Err refused ∷ others) state =
    record { entries = []; others = Err refused ∷ others; last = state; met_is = refl; more = refl; end = refl }
