-- The rows of the walk hold what the words gave so far.
use Rattle.std.proofs.Common.{◌≡◌, ◌∙◌, ◌⊎◌, ◌≤◌, ◌+◌, length, ℕ, Bool, cond, true, false, zero, suc, refl, ap, inl, inr, arith, append_assoc, List, [], ◌∷◌, ◌++◌, Option, Some, None, codes, option_map, option_and_then, nat_le}
use Rattle.clap.specs.Faults.{use_fault}
use Rattle.clap.specs.Walk.{Row, Rule, Text, used}
use Rattle.clap.specs.declared.builder.value_parser.Reading.TheVariants.{AsWritten}
use Rattle.clap.specs.declared.parser.matches.ValueSource.TheVariants.{CommandLine}
use Rattle.dw_words.specs.GivenWords.{GivenWords, Meaning, settle, with_stats, with_value, with_word}
use Rattle.dw_words.proofs.RowLemmas.{found, found_more, found_new, found_other, has_none, has_one, same_without}
use Rattle.dw_words.proofs.WordStates.{Fails, pending_fault, settled_to, top}
use Rattle.dw_words.proofs.WordSteps.{rest_arg, stats_arg, workers_arg}

-- the row of an id with these values
abbrev pub line : Text → List Text → Option Row
line id [] = None
line id (v ∷ vs) = Some (record { id = id; values = v ∷ vs; count = None; source = Some CommandLine; reading = AsWritten })

abbrev pub marks : ℕ → List Text
marks zero = []
marks (suc n) = codes "true" ∷ marks n

pub record Holds (rows : List Row) (g : GivenWords) : Type 0 where
  pub workers : found (codes "workers") rows ≡ line (codes "workers") g.workers
  pub stats : found (codes "stats") rows ≡ line (codes "stats") (marks g.stats)
  pub rest : found (codes "rest") rows ≡ line (codes "rest") g.rest
  pub one_value : length g.workers ≤ 1
  pub one_flag : g.stats ≤ 1

-- what was given, and what is given behind it
abbrev pub joined : GivenWords → GivenWords → GivenWords
joined g h = record { workers = g.workers ++ h.workers; stats = g.stats + h.stats; rest = g.rest ++ h.rest }

abbrev pub merge : GivenWords → Option GivenWords → Option GivenWords
merge g = option_map (joined g)

-- the meaning, where g was given and the words behind give o
abbrev pub meant : GivenWords → Option GivenWords → Option Meaning
meant g o = option_and_then settle (merge g o)

-- whatever is given behind it, there is no meaning
abbrev pub Doomed : GivenWords → Type 0
Doomed g = (o : Option GivenWords) → meant g o ≡ None

abbrev pub value_more : GivenWords → Text → GivenWords
value_more g v = record g { workers = g.workers ++ v ∷ [] }

abbrev pub stats_more : GivenWords → GivenWords
stats_more g = record g { stats = suc g.stats }

abbrev pub word_more : GivenWords → Text → GivenWords
word_more g w = record g { rest = g.rest ++ w ∷ [] }

pub meant_value : (g : GivenWords) (v : Text) (o : Option GivenWords) → meant (value_more g v) o ≡ meant g (with_value v o)
meant_value g v None = refl
meant_value g v (Some h) = ap (λ ws. settle (record { workers = ws; stats = g.stats + h.stats; rest = g.rest ++ h.rest })) (append_assoc g.workers (v ∷ []) h.workers)

pub meant_stats : (g : GivenWords) (o : Option GivenWords) → meant (stats_more g) o ≡ meant g (with_stats o)
meant_stats g None = refl
meant_stats g (Some h) =
    let e : suc g.stats + h.stats ≡ g.stats + suc h.stats = omega arith in
    ap (λ n. settle (record { workers = g.workers ++ h.workers; stats = n; rest = g.rest ++ h.rest })) e

pub meant_word : (g : GivenWords) (w : Text) (o : Option GivenWords) → meant (word_more g w) o ≡ meant g (with_word w o)
meant_word g w None = refl
meant_word g w (Some h) = ap (λ ws. settle (record { workers = g.workers ++ h.workers; stats = g.stats + h.stats; rest = ws })) (append_assoc g.rest (w ∷ []) h.rest)

pub if_none : {X : Type 0} (b : Bool) → cond {A = Option X} b None None ≡ None
if_none true = refl
if_none false = refl

pub doomed_workers : (x v : Text) (xs : List Text) (g : GivenWords) → g.workers ≡ x ∷ xs → Doomed (value_more g v)
doomed_workers x v xs g e None = refl
doomed_workers x v [] g e (Some h) = rw e (if_none _)
doomed_workers x v (y ∷ ys) g e (Some h) = rw e (if_none _)

pub doomed_stats : (n : ℕ) (g : GivenWords) → g.stats ≡ suc n → Doomed (stats_more g)
doomed_stats n g e None = refl
doomed_stats n g e (Some h) =
    let past : nat_le (suc g.stats + h.stats) 1 ≡ false = grind (arith, e) in
    rw past refl

-- a use passes, and the rows hold what it gives; or it is refused, and there is no meaning
abbrev pub Uses : Rule → List Text → List Row → GivenWords → Type 0
Uses rule values rows g = ((use_fault false rule values rows ≡ []) × Holds (used rule values rows) g) ⊎ (Fails (use_fault false rule values rows) × Doomed g)

pub use_value : (rows : List Row) (g : GivenWords) (v : Text) → Holds rows g → Uses workers_arg (v ∷ []) rows (value_more g v)
use_value rows g v h = go g.workers refl h.workers
  where
    go : (ws : List Text) → g.workers ≡ ws → found (codes "workers") rows ≡ line (codes "workers") ws → Uses workers_arg (v ∷ []) rows (value_more g v)
    go [] e none = inl (
      rw (has_none (codes "workers") rows none) refl,
      record {
        workers = rw (same_without (codes "workers") rows none, e) (found_new (codes "workers") AsWritten CommandLine (v ∷ []) rows refl none);
        stats = rw (same_without (codes "workers") rows none) (found_other (codes "workers") AsWritten CommandLine (v ∷ []) (codes "stats") refl rows ∙ h.stats);
        rest = rw (same_without (codes "workers") rows none) (found_other (codes "workers") AsWritten CommandLine (v ∷ []) (codes "rest") refl rows ∙ h.rest);
        one_value = rw e (omega arith);
        one_flag = h.one_flag;
      },
    )
    go (x ∷ xs) e one = inr (rw (has_one (codes "workers") rows _ one) tt, doomed_workers x v xs g e)

pub use_stats : (rows : List Row) (g : GivenWords) → Holds rows g → Uses stats_arg [] rows (stats_more g)
use_stats rows g h = go g.stats refl h.stats
  where
    go : (n : ℕ) → g.stats ≡ n → found (codes "stats") rows ≡ line (codes "stats") (marks n) → Uses stats_arg [] rows (stats_more g)
    go zero e none = inl (
      rw (has_none (codes "stats") rows none) refl,
      record {
        workers = rw (same_without (codes "stats") rows none) (found_other (codes "stats") AsWritten CommandLine (codes "true" ∷ []) (codes "workers") refl rows ∙ h.workers);
        stats = rw (same_without (codes "stats") rows none, e) (found_new (codes "stats") AsWritten CommandLine (codes "true" ∷ []) rows refl none);
        rest = rw (same_without (codes "stats") rows none) (found_other (codes "stats") AsWritten CommandLine (codes "true" ∷ []) (codes "rest") refl rows ∙ h.rest);
        one_value = h.one_value;
        one_flag = rw e (omega arith);
      },
    )
    go (suc n) e one = inr (rw (has_one (codes "stats") rows _ one) tt, doomed_stats n g e)

pub use_word : (rows : List Row) (g : GivenWords) (w : Text) → Holds rows g → Uses rest_arg (w ∷ []) rows (word_more g w)
use_word rows g w h = inl (
  refl,
  record {
    workers = found_other (codes "rest") AsWritten CommandLine (w ∷ []) (codes "workers") refl rows ∙ h.workers;
    stats = found_other (codes "rest") AsWritten CommandLine (w ∷ []) (codes "stats") refl rows ∙ h.stats;
    rest = go g.rest refl h.rest;
    one_value = h.one_value;
    one_flag = h.one_flag;
  },
)
  where
    go : (ws : List Text) → g.rest ≡ ws → found (codes "rest") rows ≡ line (codes "rest") ws → found (codes "rest") (used rest_arg (w ∷ []) rows) ≡ line (codes "rest") (g.rest ++ w ∷ [])
    go [] e none = rw e (found_new (codes "rest") AsWritten CommandLine (w ∷ []) rows refl none)
    go (x ∷ xs) e one = rw e (found_more (codes "rest") AsWritten CommandLine (w ∷ []) rows _ one)

-- the same once the pending use is settled
abbrev pub Stands : Option (Text × List Text) → List Row → GivenWords → Type 0
Stands p rows g = ((pending_fault p rows ≡ []) × Holds (settled_to p rows) g) ⊎ (Fails (pending_fault p rows) × Doomed g)

pub stands_value : (rows : List Row) (g : GivenWords) (v : Text) → Holds rows g → Stands (Some (codes "workers", v ∷ [])) rows (value_more g v)
unfolding top pending_fault settled_to
stands_value rows g v h = use_value rows g v h

pub stands_word : (rows : List Row) (g : GivenWords) (w : Text) → Holds rows g → Stands (Some (codes "rest", w ∷ [])) rows (word_more g w)
unfolding top pending_fault settled_to
stands_word rows g w h = use_word rows g w h

pub stands_alone : (rows : List Row) (g : GivenWords) → Holds rows g → Stands None rows g
unfolding top pending_fault settled_to
stands_alone rows g h = inl (refl, h)
