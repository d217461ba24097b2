-- Steps of the walk over abbreviation tables.
use Rattle.std.proofs.Common.{◌≡◌, ℕ, zero, suc, ◌-◌, ◌<◌, ◌≤◌, ltb, true, false, refl, sym, ap, subst, ◌∙◌, List, [], ◌∷◌, ◌++◌, length, append_assoc, append-nil, Option, Some, None, Result, Ok, Err, arith}
use Rattle.std.proofs.lemmas.Bool.Decides.{nat_tests}
use Rattle.std.specs.declared.alloc.AllocError.{AllocError}
use Rattle.dw_fields.specs.declared.fault_code.Fault.{Fault}
use Rattle.dw_fields.specs.Reading.{uleb_at}
use Rattle.dw_text.specs.Added.{Adds}
use Rattle.dw_text.specs.Laws.{adds_then}
use Rattle.abbrev_decl.specs.declared.pairs.AttrSpec.{AttrSpec}
use Rattle.abbrev_decl.specs.Pairs.{from}
use Rattle.abbrev_decl.specs.Shapes.{DeclView}
use Rattle.abbrev_decl.specs.Declarations.{declaration_at, head_at}
use Rattle.unit_text.specs.Declarations.{declaration_text, pair_text, pairs_text}
use Rattle.unit_text.specs.Tables.{AddsTo, after, headed_table, table_from, tables_from, tables_on, zero_end}

pub adds_to_then : {X E : Type 0} (r : Result X E) (old mid new a : List ℕ) (t : List ℕ × X) → mid ≡ old ++ a → AddsTo r mid new t → AddsTo r old new (after a t)
adds_to_then (Ok x) old mid new a t e p = (p.0, p.1 ∙ ap (λ m. m ++ t.0) e ∙ append_assoc old a t.0)
adds_to_then (Err f) old mid new a t e p = (a ++ p.0, p.1 ∙ ap (λ m. m ++ p.0) e ∙ append_assoc old a p.0)

-- a pair was taken from those that are left, and its line appended
pub pairs_then : {E : Type 0} (r : Result (Unit {0}) E) (old mid new : List ℕ) (pair : AttrSpec) (pairs rest : List AttrSpec) → pairs ≡ pair ∷ rest
    → mid ≡ old ++ pair_text pair → Adds r mid new (pairs_text rest) → Adds r old new (pairs_text pairs)
unfolding pairs_text
pairs_then r old mid new pair pairs rest e m p = subst (λ l. Adds r old new (pairs_text l)) (sym e) (adds_then r old mid new (pair_text pair) (pairs_text rest) m p)

pub pairs_end : (old : List ℕ) (pairs : List AttrSpec) → pairs ≡ [] → old ≡ old ++ pairs_text pairs
unfolding pairs_text
pairs_end old pairs e = sym (append-nil old) ∙ ap (λ l. old ++ pairs_text l) (sym e)

-- where a code 0 stands, a number is read
pub zero_is_read : (section : List ℕ) (place : ℕ) (f : Fault) → declaration_at section place ≡ Ok None → uleb_at (from section place) ≡ Err f → ⊥
unfolding declaration_at head_at
zero_is_read section place f h e = let g = rw e at h in cc

module _ (section : List ℕ) (most place : ℕ) where
  pub table_next : (declaration : DeclView) (next : ℕ) → 0 < most → declaration_at section place ≡ Ok (Some (declaration, next))
      → table_from most section place ≡ after (declaration_text declaration) (table_from (most - 1) section next)
  table_next declaration next some e = step most some
    where
      step : (k : ℕ) → 0 < k → table_from k section place ≡ after (declaration_text declaration) (table_from (k - 1) section next)
      step zero z = absurd (omega arith)
      step (suc k) z = let j : suc k - 1 ≡ k = omega arith in rw (e, j)

  pub table_zero : 0 < most → declaration_at section place ≡ Ok None → table_from most section place ≡ ([], Ok (zero_end section place))
  table_zero some e = step most some
    where
      step : (k : ℕ) → 0 < k → table_from k section place ≡ ([], Ok (zero_end section place))
      step zero z = absurd (omega arith)
      step (suc k) z = rw e

  pub table_fault : (f : Fault) → 0 < most → declaration_at section place ≡ Err f → table_from most section place ≡ ([], Err f)
  table_fault f some e = step most some
    where
      step : (k : ℕ) → 0 < k → table_from k section place ≡ ([], Err f)
      step zero z = absurd (omega arith)
      step (suc k) z = rw e

  pub tables_next : 0 < most → place < length section → tables_from most section place ≡ tables_on (headed_table section place) (λ next. tables_from (most - 1) section next)
  tables_next some within = step most some
    where
      step : (k : ℕ) → 0 < k → tables_from k section place ≡ tables_on (headed_table section place) (λ next. tables_from (k - 1) section next)
      step zero z = absurd (omega arith)
      step (suc k) z = let j : suc k - 1 ≡ k = omega arith in let t : ltb place (length section) ≡ true = grind (arith, nat_tests) in rw (t, j)

  pub tables_end : 0 < most → length section ≤ place → tables_from most section place ≡ ([], None)
  tables_end some past = step most some
    where
      step : (k : ℕ) → 0 < k → tables_from k section place ≡ ([], None)
      step zero z = absurd (omega arith)
      step (suc k) z = let t : ltb place (length section) ≡ false = grind (arith, nat_tests) in rw t

-- what is left has no text
pub nothing_more : {X : Type 0} (old : List ℕ) (x : X) (t : List ℕ × X) → t ≡ ([], x) → AddsTo {E = AllocError} (Ok x) old old t
nothing_more old x t e = (sym (ap (λ (u : List ℕ × _). u.1) e), sym (append-nil old) ∙ ap (λ (u : List ℕ × _). old ++ u.0) (sym e))

pub tables_then : {E : Type 0} (r : Result (Option Fault) E) (old mid new : List ℕ) (t : List ℕ × Result ℕ Fault) (next : ℕ) (rest : ℕ → List ℕ × Option Fault)
    → t.1 ≡ Ok next → mid ≡ old ++ t.0 → AddsTo r mid new (rest next) → AddsTo r old new (tables_on t rest)
tables_then r old mid new t next rest e m p =
    subst (λ (u : List ℕ × Option Fault). AddsTo r old new u) (sym (ap (λ (x : Result ℕ Fault). tables_on (t.0, x) rest) e)) (adds_to_then r old mid new t.0 (rest next) m p)

pub tables_stop : (old mid : List ℕ) (t : List ℕ × Result ℕ Fault) (f : Fault) (rest : ℕ → List ℕ × Option Fault)
    → t.1 ≡ Err f → mid ≡ old ++ t.0 → AddsTo {E = AllocError} (Ok (Some f)) old mid (tables_on t rest)
tables_stop old mid t f rest e m =
    subst (λ (u : List ℕ × Option Fault). AddsTo {E = AllocError} (Ok (Some f)) old mid u) (sym (ap (λ (x : Result ℕ Fault). tables_on (t.0, x) rest) e)) (refl, m)
