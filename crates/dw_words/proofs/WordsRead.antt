-- What `clap` makes of the words is their meaning.
use Rattle.std.proofs.Common.{◌≡◌, ◌≤◌, length, option_map, slice_get, ◌∙◌, ◌||◌, ◌+◌, arith, append-nil, ℕ, Bool, cond, true, false, zero, suc, refl, sym, ap, ap₂, subst, inl, inr, List, [], ◌∷◌, Option, Some, None, codes, fold, bytes_eq, option_and_then}
use Rattle.std.specs.Str.{IsUtf8}
use Rattle.std.specs.Option.{is_some}
use Rattle.clap.proofs.OnLiterals.{clap_on_literals}
use Rattle.clap.specs.Lexer.{long_of}
use Rattle.clap.specs.Faults.{check_fault, default_fault, defaults_fault, fault_of, settle_fault, turn_fault, use_fault, walk_fault}
use Rattle.clap.specs.Kinds.{Kinds, or_else}
use Rattle.clap.specs.Simple.{built, entered, is_simple, matches_of}
use Rattle.clap.specs.Faults.{entered_fault, is_simple_and_free}
use Rattle.clap.specs.Walk.{Row, Rule, Text, Waiting, Walk, finished, has_row, nothing_held, one_of, settled, used, walk_from, walked, with_default, idle, positional}
use Rattle.clap.specs.declared.builder.value_parser.Reading.TheVariants.{AsWritten}
use Rattle.clap.specs.declared.parser.matches.ValueSource.TheVariants.{DefaultValue}
use Rattle.dw_words.specs.GivenWords.{GivenWords, Meaning, given_of, meaning, nothing_given, option_of, settle, with_stats, with_value, with_word}
use Rattle.dw_words.specs.Parser.{Ends, MatchesMean, flag_text, listed, words_app}
use Rattle.dw_words.proofs.GivenSteps.{gives_dashed, gives_dashes, gives_no_value, gives_stats, gives_unknown, gives_value, gives_word, gives_workers, gives_workers_value}
use Rattle.dw_words.proofs.Holding.{Doomed, Holds, Stands, Uses, line, marks, meant, meant_stats, meant_value, meant_word, stands_alone, stands_value, stands_word, stats_more, use_stats, use_value, value_more, word_more}
use Rattle.dw_words.proofs.RowLemmas.{found, found_new, found_other, has_none, has_one}
use Rattle.dw_words.proofs.Spelling.{Spelled, no_value, spelled}
use Rattle.dw_words.proofs.WordStates.{Fails, asked, before, behind, free, pending_fault, settled_to, top, waits}
use Rattle.dw_words.proofs.WordSteps as steps

-- ---- what is wanted of the walk from a place on

abbrev pub Reads : Kinds → List Row → Option Meaning → Type 0
Reads [] rows m = MatchesMean rows m
Reads (k ∷ kinds) rows m = m ≡ None

abbrev pub end_fault : Walk → Kinds
end_fault w = or_else (settle_fault top.rules false w.held) (or_else (defaults_fault (settled top.rules w.held).rows top.rules) (check_fault top (finished top.rules w.held) false))

-- from this place on
abbrev pub ReadsFrom : Walk → List Text → Option Meaning → Type 0
ReadsFrom w words m = Reads (or_else (walk_fault top [] w words) (end_fault (fold (walked top.rules []) w words))) (finished top.rules (fold (walked top.rules []) w words).held) m

reads_none : (kinds : Kinds) (rows : List Row) (m : Option Meaning) → Fails kinds → m ≡ None → (next : Kinds) → Reads (or_else kinds next) rows m
reads_none (k ∷ kinds) rows m fails none next = none
reads_none [] rows m fails none next = absurd fails

-- a word that is refused
refused : (w : Walk) (word : Text) (words : List Text) (m : Option Meaning) → Fails (turn_fault top [] w word) → m ≡ None → ReadsFrom w (word ∷ words) m
unfolding walk_fault
refused w word words m fails none = go (turn_fault top [] w word) fails
  where
    go : (kinds : Kinds) → Fails kinds → Reads (or_else (or_else kinds (walk_fault top [] (walked top.rules [] w word) words)) (end_fault (fold (walked top.rules []) w (word ∷ words)))) (finished top.rules (fold (walked top.rules []) w (word ∷ words)).held) m
    go (k ∷ kinds) f = none
    go [] f = absurd f

-- a word that passes
passed : (w next : Walk) (word : Text) (words : List Text) (m : Option Meaning) → steps.Turns w word next [] → ReadsFrom next words m → ReadsFrom w (word ∷ words) m
unfolding walk_fault
passed w next word words m turn reads =
    let from : ReadsFrom (walked top.rules [] w word) words m = subst (λ v. ReadsFrom v words m) (sym turn.0) reads in
    subst (λ kinds. Reads (or_else (or_else kinds (walk_fault top [] (walked top.rules [] w word) words)) (end_fault (fold (walked top.rules []) w (word ∷ words)))) (finished top.rules (fold (walked top.rules []) w (word ∷ words)).held) m) (sym turn.1) from

-- a word behind which nothing is used but what was pending
step_settled : (w next : Walk) (p : Option (Text × List Text)) (rows : List Row) (g : GivenWords) (word : Text) (words : List Text) (m : Option Meaning)
    → steps.Turns w word next (pending_fault p rows) → Stands p rows g → (Doomed g → m ≡ None) → (Holds (settled_to p rows) g → ReadsFrom next words m) → ReadsFrom w (word ∷ words) m
step_settled w next p rows g word words m turn stands doomed more = elim stands [
  | inl h ↦ passed w next word words m (turn.0, turn.1 ∙ h.0) (more h.1)
  | inr h ↦ refused w word words m (subst Fails (sym turn.1) h.0) (doomed h.1)
]

or_fails : (kinds next : Kinds) → Fails kinds → Fails (or_else kinds next)
or_fails (k ∷ kinds) next f = tt
or_fails [] next f = absurd f

-- a word that uses an option
step_used : (w next : Walk) (p : Option (Text × List Text)) (rows : List Row) (rule : Rule) (values : List Text) (g more : GivenWords) (word : Text) (words : List Text) (m : Option Meaning)
    → steps.Turns w word next (steps.use_after p rows rule values) → Stands p rows g → (Holds (settled_to p rows) g → Uses rule values (settled_to p rows) more)
    → (Doomed g → m ≡ None) → (Doomed more → m ≡ None) → (Holds (used rule values (settled_to p rows)) more → ReadsFrom next words m) → ReadsFrom w (word ∷ words) m
step_used w next p rows rule values g more word words m turn stands uses doomed doomed_more then_on = elim stands [
  | inl h ↦ elim (uses h.1) [
    | inl u ↦ passed w next word words m (turn.0, turn.1 ∙ ap₂ or_else h.0 u.0) (then_on u.1)
    | inr u ↦ refused w word words m (subst Fails (sym (turn.1 ∙ ap (λ kinds. or_else kinds (use_fault false rule values (settled_to p rows))) h.0)) u.0) (doomed_more u.1)
  ]
  | inr h ↦ refused w word words m (subst Fails (sym turn.1) (or_fails _ _ h.0)) (doomed h.1)
]

-- ---- at the end of the words

or-true : (b : Bool) → (b || true) ≡ true
or-true true = refl
or-true false = refl

if_same : {X : Type 0} (b : Bool) (x : X) → cond b x x ≡ x
if_same true x = refl
if_same false x = refl

no_default_fault : (rows : List Row) → defaults_fault rows top.rules ≡ []
unfolding defaults_fault top
no_default_fault rows = ap₂ or_else (first rows) (ap₂ or_else (second (with_default rows steps.workers_arg)) (ap₂ or_else (third (with_default (with_default rows steps.workers_arg) steps.stats_arg)) refl))
  where
    first : (rows : List Row) → default_fault rows steps.workers_arg ≡ []
    first rows = rw (or-true _) refl

    second : (rows : List Row) → default_fault rows steps.stats_arg ≡ []
    second rows = if_same (has_row (codes "stats") rows || false) []

    third : (rows : List Row) → default_fault rows steps.rest_arg ≡ []
    third rows = rw (or-true _) refl

finished_rows : (rows : List Row) → fold with_default rows top.rules ≡ with_default rows steps.stats_arg
unfolding top
finished_rows rows =
    let first : with_default rows steps.workers_arg ≡ rows = if_same (has_row (codes "workers") rows) rows in
    ap (λ rs. with_default (with_default rs steps.stats_arg) steps.rest_arg) first ∙ if_same (has_row (codes "rest") (with_default rows steps.stats_arg)) (with_default rows steps.stats_arg)

line_first : (id : Text) (values : List Text) → option_and_then (λ (r : Row). slice_get r.values 0) (line id values) ≡ slice_get values 0
line_first id [] = refl
line_first id (v ∷ vs) = refl

line_values : (id : Text) (values : List Text) → option_map (λ (r : Row). r.values) (line id values) ≡ listed values
line_values id [] = refl
line_values id (v ∷ vs) = refl

ends_of : (rows : List Row) (g : GivenWords) → found (codes "workers") rows ≡ line (codes "workers") g.workers → one_of (codes "stats") rows ≡ Some (flag_text g.stats)
    → found (codes "rest") rows ≡ line (codes "rest") g.rest → length g.workers ≤ 1 → g.stats ≤ 1 → Ends rows g
ends_of rows g workers stats rest one_value one_flag = record {
  workers = ap (option_and_then (λ (r : Row). slice_get r.values 0)) workers ∙ line_first (codes "workers") g.workers;
  one_value = one_value;
  stats = stats;
  one_flag = one_flag;
  rest = ap (option_map (λ (r : Row). r.values)) rest ∙ line_values (codes "rest") g.rest;
}

ends_with : (rows : List Row) (g : GivenWords) → Holds rows g → Ends (with_default rows steps.stats_arg) g
ends_with rows g h = go g.stats refl h.stats
  where
    go : (n : ℕ) → g.stats ≡ n → found (codes "stats") rows ≡ line (codes "stats") (marks n) → Ends (with_default rows steps.stats_arg) g
    go zero e none = rw (has_none (codes "stats") rows none) (ends_of _ g
        (found_other (codes "stats") AsWritten DefaultValue (codes "false" ∷ []) (codes "workers") refl rows ∙ h.workers)
        (rw (e, found_new (codes "stats") AsWritten DefaultValue (codes "false" ∷ []) rows refl none) refl)
        (found_other (codes "stats") AsWritten DefaultValue (codes "false" ∷ []) (codes "rest") refl rows ∙ h.rest) h.one_value h.one_flag)
    go (suc n) e one = rw (has_one (codes "stats") rows _ one) (ends_of rows g h.workers (rw (e, one) refl) h.rest h.one_value h.one_flag)

no_check_fault : (rows : List Row) → check_fault top rows false ≡ []
unfolding top
no_check_fault rows = refl

-- what was pending is settled
end_refused : (w : Walk) (p : Option (Text × List Text)) (rows : List Row) (m : Option Meaning) → w.held ≡ record { rows = rows; pending = p; skip = 0 } → Fails (pending_fault p rows) → m ≡ None → ReadsFrom w [] m
unfolding walk_fault pending_fault
end_refused w p rows m held fails none = reads_none (settle_fault top.rules false w.held) _ m (subst (λ h. Fails (settle_fault top.rules false h)) (sym held) fails) none _

ends_reads : (w : Walk) (p : Option (Text × List Text)) (rows : List Row) (g : GivenWords) (m : Option Meaning) → w.held ≡ record { rows = rows; pending = p; skip = 0 } → Stands p rows g → m ≡ settle g → (Doomed g → m ≡ None) → ReadsFrom w [] m
unfolding walk_fault pending_fault settled_to
ends_reads w p rows g m held stands is doomed = elim stands [
  | inl h ↦
      let none : end_fault w ≡ [] =
      ap₂ or_else (ap (settle_fault top.rules false) held ∙ h.0) (ap₂ or_else (no_default_fault _) (no_check_fault (finished top.rules w.held))) in
      let rows_are : finished top.rules w.held ≡ with_default (settled_to p rows) steps.stats_arg = ap (finished top.rules) held ∙ finished_rows (settled_to p rows) in
      subst (λ kinds. Reads kinds (finished top.rules w.held) m) (sym none) (g, subst (λ rs. Ends rs g) (sym rows_are) (ends_with (settled_to p rows) g h.1), is)
  | inr h ↦ end_refused w p rows m held h.0 (doomed h.1)
]

-- ---- behind `--`

abbrev all_rest : List Text → Option GivenWords
all_rest words = Some (record nothing_given { rest = words })

meant_nothing : (g : GivenWords) → meant g (Some nothing_given) ≡ settle g
meant_nothing g =
    let e : g.stats + 0 ≡ g.stats = omega arith in
    ap₂ (λ ws rest. settle (record { workers = ws; stats = g.stats + 0; rest = rest })) (append-nil g.workers) (append-nil g.rest)
    ∙ ap (λ n. settle (record { workers = g.workers; stats = n; rest = g.rest })) e

trailing : (words : List Text) (p : Option (Text × List Text)) (w : Waiting) (rows : List Row) (g : GivenWords) → Stands p rows g → ReadsFrom (behind p w rows) words (meant g (all_rest words))
unfolding behind
trailing [] p w rows g stands = ends_reads (behind p w rows) p rows g _ refl stands (meant_nothing g) (λ d. d (all_rest []))
trailing (x ∷ xs) p w rows g stands =
    let next = behind (Some (codes "rest", x ∷ [])) positional (settled_to p rows) in
    step_settled (behind p w rows) next p rows g x xs _ (steps.to_trailing p rows x w) stands (λ d. d (all_rest (x ∷ xs)))
    (λ h. subst (ReadsFrom next xs) (meant_word g x (all_rest xs)) (trailing xs (Some (codes "rest", x ∷ [])) positional (settled_to p rows) (word_more g x) (stands_word (settled_to p rows) g x h)))

asked_is_refused : (rows : List Row) → Fails (pending_fault asked rows)
asked_is_refused rows = subst Fails (sym (steps.asked_fails rows)) tt

trailing_asked : (words : List Text) (rows : List Row) (m : Option Meaning) → m ≡ None → ReadsFrom (behind asked waits rows) words m
unfolding behind
trailing_asked [] rows m none = end_refused (behind asked waits rows) asked rows m refl (asked_is_refused rows) none
trailing_asked (x ∷ xs) rows m none = refused (behind asked waits rows) x xs m (subst Fails (sym (steps.to_trailing asked rows x waits).1) (asked_is_refused rows)) none

-- ---- before it

pub record ReadsAll (words : List Text) : Type 0 where
  pub plain : (b : Bool) (p : Option (Text × List Text)) (rows : List Row) (g : GivenWords) → Stands p rows g → ReadsFrom (before p (free b) rows) words (meant g (given_of false words))
  pub waiting : (rows : List Row) (g : GivenWords) → Holds rows g → ReadsFrom (before asked waits rows) words (meant g (given_of true words))

at_end : ReadsAll []
unfolding before given_of
at_end = record {
  plain = λ b p rows g stands. ends_reads (before p (free b) rows) p rows g _ refl stands (meant_nothing g) (λ d. d (all_rest []));
  waiting = λ rows g h. end_refused (before asked waits rows) asked rows _ refl (asked_is_refused rows) refl;
}

module _ (word : Text) (words : List Text) (later : ReadsAll words) where
  -- what is read from here on, where the words give o
  abbrev Gives : Walk → GivenWords → Option GivenWords → Type 0
  Gives w g o = ReadsFrom w (word ∷ words) (meant g o)

  plain_option : (b : Bool) (p : Option (Text × List Text)) (rows : List Row) (g : GivenWords) → Stands p rows g → (name : Text) (v : Option Text) → bytes_eq word (codes "--") ≡ false
      → long_of word ≡ Some (name, v) → option_of word ≡ Some (name, v) → Gives (before p (free b) rows) g (given_of false (word ∷ words))
  plain_option b p rows g stands name v d l o = go (bytes_eq (codes "workers") name) refl (bytes_eq (codes "stats") name) refl v l o
    where
      go : (s : Bool) → bytes_eq (codes "workers") name ≡ s → (t : Bool) → bytes_eq (codes "stats") name ≡ t → (v : Option Text) → long_of word ≡ Some (name, v) → option_of word ≡ Some (name, v)
          → Gives (before p (free b) rows) g (given_of false (word ∷ words))
      go true e t f None l o =
          subst (Gives (before p (free b) rows) g) (sym (gives_workers word words name d o e))
          (step_settled (before p (free b) rows) (before asked waits (settled_to p rows)) p rows g word words _ (steps.to_workers p rows word b name d l e) stands (λ dm. dm (given_of true words)) (λ h. later.waiting (settled_to p rows) g h))
      go true e t f (Some v) l o =
          let next = before None idle (used steps.workers_arg (v ∷ []) (settled_to p rows)) in
          let same = meant_value g v (given_of false words) in
          subst (Gives (before p (free b) rows) g) (sym (gives_workers_value word words name v d o e))
          (step_used (before p (free b) rows) next p rows steps.workers_arg (v ∷ []) g (value_more g v) word words _ (steps.to_workers_value p rows word b name v d l e) stands
          (use_value (settled_to p rows) g v) (λ dm. dm (with_value v (given_of false words))) (λ dm. sym same ∙ dm (given_of false words))
          (λ h. subst (ReadsFrom next words) same (later.plain false None _ (value_more g v) (stands_alone _ (value_more g v) h))))
      go false e true f None l o =
          let next = before None idle (used steps.stats_arg [] (settled_to p rows)) in
          let same = meant_stats g (given_of false words) in
          subst (Gives (before p (free b) rows) g) (sym (gives_stats word words name d o e f))
          (step_used (before p (free b) rows) next p rows steps.stats_arg [] g (stats_more g) word words _ (steps.to_stats p rows word b name d l e f) stands
          (use_stats (settled_to p rows) g) (λ dm. dm (with_stats (given_of false words))) (λ dm. sym same ∙ dm (given_of false words))
          (λ h. subst (ReadsFrom next words) same (later.plain false None _ (stats_more g) (stands_alone _ (stats_more g) h))))
      go false e true f (Some v) l o =
          subst (Gives (before p (free b) rows) g) (sym (gives_no_value word words name v d o e))
          (refused (before p (free b) rows) word words _ (subst Fails (sym (steps.to_stats_value p rows word b name v d l e f)) tt) refl)
      go false e false f None l o =
          subst (Gives (before p (free b) rows) g) (sym (gives_unknown word words name d o e f))
          (refused (before p (free b) rows) word words _ (subst Fails (sym (steps.to_unknown p rows word b name None d l e f)) tt) refl)
      go false e false f (Some v) l o =
          subst (Gives (before p (free b) rows) g) (sym (gives_no_value word words name v d o e))
          (refused (before p (free b) rows) word words _ (subst Fails (sym (steps.to_unknown p rows word b name (Some v) d l e f)) tt) refl)

  plain_step : Spelled word → (b : Bool) (p : Option (Text × List Text)) (rows : List Row) (g : GivenWords) → Stands p rows g → Gives (before p (free b) rows) g (given_of false (word ∷ words))
  plain_step s b p rows g stands = elim s [
    | inl d ↦ subst (Gives (before p (free b) rows) g) (sym (gives_dashes word words d.dashes))
        (passed (before p (free b) rows) (behind p (free b) rows) word words _ (steps.to_dashes p rows word b d.dashes) (trailing words p (free b) rows g stands))
    | inr t ↦ elim t [
      | inl o ↦ plain_option b p rows g stands o.name o.value o.dashes o.long o.option
      | inr u ↦ elim u [
        | inl o ↦ subst (Gives (before p (free b) rows) g) (sym (gives_dashed word words o.dashes o.option o.dashed))
            (refused (before p (free b) rows) word words _ (subst Fails (sym (steps.to_dashed p rows word b o.first o.char o.others o.dashes o.long o.short o.chars_from)) tt) refl)
        | inr o ↦
            let next = before (Some (codes "rest", word ∷ [])) positional (settled_to p rows) in
            subst (Gives (before p (free b) rows) g) (sym (gives_word word words o.dashes o.option o.dashed))
            (step_settled (before p (free b) rows) next p rows g word words _ (steps.to_plain p rows word b o.dashes o.long o.short) stands (λ dm. dm (with_word word (given_of false words)))
            (λ h. subst (ReadsFrom next words) (meant_word g word (given_of false words)) (later.plain true (Some (codes "rest", word ∷ [])) (settled_to p rows) (word_more g word) (stands_word (settled_to p rows) g word h))))
      ]
    ]
  ]

  waits_option : (rows : List Row) (name : Text) (v : Option Text) → bytes_eq word (codes "--") ≡ false → long_of word ≡ Some (name, v) → Fails (turn_fault top [] (before asked waits rows) word)
  waits_option rows name v d l = go (bytes_eq (codes "workers") name) refl (bytes_eq (codes "stats") name) refl v l
    where
      go : (s : Bool) → bytes_eq (codes "workers") name ≡ s → (t : Bool) → bytes_eq (codes "stats") name ≡ t → (v : Option Text) → long_of word ≡ Some (name, v) → Fails (turn_fault top [] (before asked waits rows) word)
      go true e t f v l = subst Fails (sym (steps.waits_workers rows word name v d l e)) tt
      go false e true f None l = subst Fails (sym (steps.waits_stats rows word name d l e f)) tt
      go false e true f (Some v) l = subst Fails (sym (steps.waits_stats_value rows word name v d l e f)) tt
      go false e false f v l = subst Fails (sym (steps.waits_unknown rows word name v d l e f)) tt

  waiting_step : Spelled word → (rows : List Row) (g : GivenWords) → Holds rows g → Gives (before asked waits rows) g (with_value word (given_of false words))
  waiting_step s rows g h = elim s [
    | inl d ↦ passed (before asked waits rows) (behind asked waits rows) word words _ (steps.waits_dashes rows word d.dashes) (trailing_asked words rows _ (no_value word d.hyphen g (given_of false words)))
    | inr t ↦ elim t [
      | inl o ↦ refused (before asked waits rows) word words _ (waits_option rows o.name o.value o.dashes o.long) (no_value word o.hyphen g (given_of false words))
      | inr u ↦ elim u [
        | inl o ↦ refused (before asked waits rows) word words _ (subst Fails (sym (steps.waits_dashed rows word o.first o.char o.others o.dashes o.long o.short o.chars_from)) tt) (no_value word o.hyphen g (given_of false words))
        | inr o ↦
            let next = before (Some (codes "workers", word ∷ [])) idle rows in
            passed (before asked waits rows) next word words _ (steps.waits_plain rows word o.dashes o.long o.short)
            (subst (ReadsFrom next words) (meant_value g word (given_of false words)) (later.plain false (Some (codes "workers", word ∷ [])) rows (value_more g word) (stands_value rows g word h)))
      ]
    ]
  ]

  one_more : Spelled word → ReadsAll (word ∷ words)
  one_more s = record {
    plain = plain_step s;
    waiting = λ rows g h. subst (Gives (before asked waits rows) g) (sym (gives_value word words)) (waiting_step s rows g h);
  }

-- each word is a text
abbrev pub AreTexts : List Text → Type 0
AreTexts [] = Unit {0}
AreTexts (word ∷ words) = IsUtf8 word × AreTexts words

reads_all : (words : List Text) → AreTexts words → ReadsAll words
reads_all [] texts = at_end
reads_all (word ∷ words) texts = one_more word words (reads_all words texts.1) (spelled word texts.0)

meant_all : (o : Option GivenWords) → meant nothing_given o ≡ option_and_then settle o
meant_all None = refl
meant_all (Some h) =
    let e : 0 + h.stats ≡ h.stats = omega arith in
    ap (λ n. settle (record { workers = h.workers; stats = n; rest = h.rest })) e

pub parse_reads : (words : List Text) → AreTexts words → Reads (fault_of words_app words) (matches_of words_app words) (meaning words)
unfolding before top meaning
parse_reads words texts = go (fold (walked (built words_app).top.rules []) (walk_from nothing_held) words).stopped
    (subst (ReadsFrom (before None idle []) words) (meant_all (given_of false words)) ((reads_all words texts).plain false None [] nothing_given (stands_alone [] nothing_given (record { workers = refl; stats = refl; rest = refl; one_value = omega arith; one_flag = omega arith }))))
  where
    end : Walk
    end = fold (walked (built words_app).top.rules []) (walk_from nothing_held) words

    -- no word is a subcommand
    go : (stop : Option (Text × List Text)) → Reads (or_else (walk_fault (built words_app).top [] (walk_from nothing_held) words) (end_fault end)) (finished (built words_app).top.rules end.held) (meaning words)
        → Reads (or_else (walk_fault (built words_app).top [] (walk_from nothing_held) words) (or_else (entered_fault (built words_app) stop) (or_else (settle_fault (built words_app).top.rules false end.held)
        (or_else (defaults_fault (settled (built words_app).top.rules end.held).rows (built words_app).top.rules) (check_fault (built words_app).top (finished (built words_app).top.rules end.held) (is_some (entered (built words_app) stop)))))))
        (finished (built words_app).top.rules end.held) (meaning words)
    go None reads = reads
    go (Some p) reads = reads

pub is_fit : is_simple_and_free words_app ≡ true
unfolding clap_on_literals
is_fit = refl

pub is_simple_app : is_simple words_app ≡ true
unfolding clap_on_literals
is_simple_app = refl
