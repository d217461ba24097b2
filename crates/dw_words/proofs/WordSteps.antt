-- What each kind of word does to `clap`'s walk.
use Rattle.std.proofs.Common.{◌≡◌, ℕ, Bool, true, false, refl, List, [], ◌∷◌, Option, Some, None, codes, bytes_eq, slice_get, chars, ◌&&◌}
use Rattle.clap.specs.Kinds.{Kinds, or_else}
use Rattle.clap.specs.Faults.{flags_fault, turn_fault, use_fault}
use Rattle.clap.specs.Lexer.{long_of, short_of}
use Rattle.clap.specs.Walk.{Row, Rule, Text, Waiting, Walk, idle, positional, used, walked}
use Rattle.clap.specs.declared.error.kind.ErrorKind.TheVariants as kind
use Rattle.dw_words.specs.Parser.{rest_rule, stats_rule, workers_rule}
use Rattle.clap.specs.Simple.{filled, with_index}
use Rattle.dw_words.proofs.WordStates.{asked, before, behind, free, pending_fault, settled_to, top, waits}

-- the step and the fault of a word
abbrev pub Turns : Walk → Text → Walk → Kinds → Type 0
Turns w word next fault = (walked top.rules [] w word ≡ next) × (turn_fault top [] w word ≡ fault)

pub or_else-nil : (kinds : Kinds) → or_else kinds [] ≡ kinds
or_else-nil [] = refl
or_else-nil (k ∷ kinds) = refl

pub and-false : (b : Bool) → (b && false) ≡ false
and-false true = refl
and-false false = refl

-- `--workers` or `--stats`, as the parser has them
abbrev pub workers_arg : Rule
workers_arg = filled workers_rule

abbrev pub stats_arg : Rule
stats_arg = filled stats_rule

abbrev pub rest_arg : Rule
rest_arg = with_index 1 (filled rest_rule)

-- the use of an option behind what is pending
abbrev pub use_after : Option (Text × List Text) → List Row → Rule → List Text → Kinds
use_after p rows rule values = or_else (pending_fault p rows) (use_fault false rule values (settled_to p rows))

module _ (p : Option (Text × List Text)) (rows : List Row) (word : Text) where
  pub to_dashes : (b : Bool) → bytes_eq word (codes "--") ≡ true → Turns (before p (free b) rows) word (behind p (free b) rows) []
  unfolding walked top before behind
  to_dashes true d = (rw d refl, rw d refl)
  to_dashes false d = (rw d refl, rw d refl)

  pub to_workers : (b : Bool) (name : Text) → bytes_eq word (codes "--") ≡ false → long_of word ≡ Some (name, None) → bytes_eq (codes "workers") name ≡ true → Turns (before p (free b) rows) word (before asked waits (settled_to p rows)) (pending_fault p rows)
  unfolding walked top before pending_fault settled_to
  to_workers true name d l n = (rw (d, l, n) refl, rw (d, l, n) (or_else-nil _))
  to_workers false name d l n = (rw (d, l, n) refl, rw (d, l, n) (or_else-nil _))

  pub to_workers_value : (b : Bool) (name v : Text) → bytes_eq word (codes "--") ≡ false → long_of word ≡ Some (name, Some v) → bytes_eq (codes "workers") name ≡ true → Turns (before p (free b) rows) word (before None idle (used workers_arg (v ∷ []) (settled_to p rows))) (use_after p rows workers_arg (v ∷ []))
  unfolding walked top before pending_fault settled_to
  to_workers_value true name v d l n = (rw (d, l, n) refl, rw (d, l, n) (or_else-nil _))
  to_workers_value false name v d l n = (rw (d, l, n) refl, rw (d, l, n) (or_else-nil _))

  pub to_stats : (b : Bool) (name : Text) → bytes_eq word (codes "--") ≡ false → long_of word ≡ Some (name, None) → bytes_eq (codes "workers") name ≡ false → bytes_eq (codes "stats") name ≡ true → Turns (before p (free b) rows) word (before None idle (used stats_arg [] (settled_to p rows))) (use_after p rows stats_arg [])
  unfolding walked top before pending_fault settled_to
  to_stats true name d l n m = (rw (d, l, n, m) refl, rw (d, l, n, m) (or_else-nil _))
  to_stats false name d l n m = (rw (d, l, n, m) refl, rw (d, l, n, m) (or_else-nil _))

  pub to_stats_value : (b : Bool) (name v : Text) → bytes_eq word (codes "--") ≡ false → long_of word ≡ Some (name, Some v) → bytes_eq (codes "workers") name ≡ false → bytes_eq (codes "stats") name ≡ true → turn_fault top [] (before p (free b) rows) word ≡ kind.TooManyValues ∷ []
  unfolding top before
  to_stats_value true name v d l n m = rw (d, l, n, m) refl
  to_stats_value false name v d l n m = rw (d, l, n, m) refl

  pub to_unknown : (b : Bool) (name : Text) (v : Option Text) → bytes_eq word (codes "--") ≡ false → long_of word ≡ Some (name, v) → bytes_eq (codes "workers") name ≡ false → bytes_eq (codes "stats") name ≡ false → turn_fault top [] (before p (free b) rows) word ≡ kind.UnknownArgument ∷ []
  unfolding top before
  to_unknown true name v d l n m = rw (d, l, n, m) refl
  to_unknown false name v d l n m = rw (d, l, n, m) refl

  pub to_dashed : (b : Bool) (x c : ℕ) (xs : Text) → bytes_eq word (codes "--") ≡ false → long_of word ≡ None → short_of word ≡ Some (x ∷ xs) → slice_get (chars (x ∷ xs)) 0 ≡ Some c → turn_fault top [] (before p (free b) rows) word ≡ kind.UnknownArgument ∷ []
  unfolding top before flags_fault
  to_dashed true x c xs d l s h = rw (d, l, s, h) refl
  to_dashed false x c xs d l s h = rw (d, l, s, h) refl

  pub to_plain : (b : Bool) → bytes_eq word (codes "--") ≡ false → long_of word ≡ None → short_of word ≡ None → Turns (before p (free b) rows) word (before (Some (codes "rest", word ∷ [])) positional (settled_to p rows)) (pending_fault p rows)
  unfolding walked top before pending_fault settled_to
  to_plain true d l s = (rw (d, l, s, and-false _) refl, rw (d, l, s, and-false _) refl)
  to_plain false d l s = (rw (d, l, s, and-false _) refl, rw (d, l, s, and-false _) refl)

  pub to_trailing : (w : Waiting) → Turns (behind p w rows) word (behind (Some (codes "rest", word ∷ [])) positional (settled_to p rows)) (pending_fault p rows)
  unfolding walked top behind pending_fault settled_to
  to_trailing w = (rw (and-false _) refl, rw (and-false _) refl)

-- while `--workers` waits for its value
module _ (rows : List Row) (word : Text) where
  pub waits_dashes : bytes_eq word (codes "--") ≡ true → Turns (before asked waits rows) word (behind asked waits rows) []
  unfolding walked top before behind
  waits_dashes d = (rw d refl, rw d refl)

  pub waits_workers : (name : Text) (v : Option Text) → bytes_eq word (codes "--") ≡ false → long_of word ≡ Some (name, v) → bytes_eq (codes "workers") name ≡ true → turn_fault top [] (before asked waits rows) word ≡ kind.InvalidValue ∷ []
  unfolding top before
  waits_workers name None d l n = rw (d, l, n) refl
  waits_workers name (Some v) d l n = rw (d, l, n) refl

  pub waits_stats : (name : Text) → bytes_eq word (codes "--") ≡ false → long_of word ≡ Some (name, None) → bytes_eq (codes "workers") name ≡ false → bytes_eq (codes "stats") name ≡ true → turn_fault top [] (before asked waits rows) word ≡ kind.InvalidValue ∷ []
  unfolding top before
  waits_stats name d l n m = rw (d, l, n, m) refl

  pub waits_stats_value : (name v : Text) → bytes_eq word (codes "--") ≡ false → long_of word ≡ Some (name, Some v) → bytes_eq (codes "workers") name ≡ false → bytes_eq (codes "stats") name ≡ true → turn_fault top [] (before asked waits rows) word ≡ kind.TooManyValues ∷ []
  unfolding top before
  waits_stats_value name v d l n m = rw (d, l, n, m) refl

  pub waits_unknown : (name : Text) (v : Option Text) → bytes_eq word (codes "--") ≡ false → long_of word ≡ Some (name, v) → bytes_eq (codes "workers") name ≡ false → bytes_eq (codes "stats") name ≡ false → turn_fault top [] (before asked waits rows) word ≡ kind.UnknownArgument ∷ []
  unfolding top before
  waits_unknown name v d l n m = rw (d, l, n, m) refl

  pub waits_dashed : (x c : ℕ) (xs : Text) → bytes_eq word (codes "--") ≡ false → long_of word ≡ None → short_of word ≡ Some (x ∷ xs) → slice_get (chars (x ∷ xs)) 0 ≡ Some c → turn_fault top [] (before asked waits rows) word ≡ kind.UnknownArgument ∷ []
  unfolding top before flags_fault
  waits_dashed x c xs d l s h = rw (d, l, s, h) refl

  pub waits_plain : bytes_eq word (codes "--") ≡ false → long_of word ≡ None → short_of word ≡ None → Turns (before asked waits rows) word (before (Some (codes "workers", word ∷ [])) idle rows) []
  unfolding walked top before
  waits_plain d l s = (rw (d, l, s) refl, rw (d, l, s) refl)

-- a `--workers` with no value is refused
pub asked_fails : (rows : List Row) → pending_fault asked rows ≡ kind.InvalidValue ∷ []
unfolding top pending_fault
asked_fails rows = refl
