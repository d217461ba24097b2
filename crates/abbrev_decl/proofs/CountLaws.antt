-- How many declarations a walk reads, and what that makes of a counter.
use Rattle.std.proofs.Common.{◌≡◌, ◌≢◌, ℕ, zero, suc, ◌+◌, ◌<◌, ◌≤◌, ◌==◌, Bool, true, false, cond, eqb-true, eq-eqb, List, length, Result, Ok, Err, Option, Some, None, refl, ap, ◌∙◌, arith}
use Rattle.dw_fields.specs.declared.fault_code.Fault.{Fault}
use Rattle.abbrev_decl.specs.Shapes.{DeclView}
use Rattle.abbrev_decl.specs.Counting.{ticked, ticked_by}
use Rattle.abbrev_decl.specs.Declarations.{declaration_at}
use Rattle.abbrev_decl.specs.Lookup.{walked_on, walked_from, declarations_walked}
use Rattle.abbrev_decl.proofs.WalkLaws.{DeclAhead, declaration_ahead, declaration_end}

-- what is read behind a declaration decides what is read from it
on_same : (found : Result (Option (DeclView × ℕ)) Fault) (code : ℕ) (f g : ℕ → ℕ) (place : ℕ)
    → DeclAhead place found → ((next : ℕ) → place < next → f next ≡ g next) → walked_on found code f ≡ walked_on found code g
on_same (Err e) code f g place h k = refl
on_same (Ok None) code f g place h k = refl
on_same (Ok (Some (declaration, next))) code f g place h k = ap (λ n. cond (declaration.code == code) 1 (n + 1)) (k next h)

-- with enough turns, more make no difference
walked_enough : (n m : ℕ) (section : List ℕ) (place code : ℕ) → length section ≤ place + n → length section ≤ place + m
    → walked_from n section place code ≡ walked_from m section place code
walked_enough zero zero section place code p q = refl
walked_enough zero (suc m) section place code p q = rw (declaration_end section place (omega arith)) refl
walked_enough (suc n) zero section place code p q = rw (declaration_end section place (omega arith)) refl
walked_enough (suc n) (suc m) section place code p q =
    on_same (declaration_at section place) code (λ next. walked_from n section next code) (λ next. walked_from m section next code) place (declaration_ahead section place)
    (λ next h. walked_enough n m section next code (omega arith) (omega arith))

walked_here : (section : List ℕ) (place code : ℕ) (found : Result (Option (DeclView × ℕ)) Fault) → declaration_at section place ≡ found
    → declarations_walked section place code ≡ walked_on found code (λ next. declarations_walked section next code)
unfolding declarations_walked
walked_here section place code found e =
    walked_enough (length section + 1) (suc (length section + 1)) section place code (omega arith) (omega arith)
    ∙ ap (λ read. walked_on read code (λ next. walked_from (length section + 1) section next code)) e

-- a walk that ends here reads one declaration
once : (walked steps : ℕ) → walked ≡ 1 → ticked_by walked steps ≡ ticked steps
once walked steps one = ap (λ n. ticked_by n steps) one

pub count_broken : (section : List ℕ) (place code steps : ℕ) (f : Fault) → declaration_at section place ≡ Err f
    → ticked_by (declarations_walked section place code) steps ≡ ticked steps
count_broken section place code steps f e = once _ steps (walked_here section place code (Err f) e)

pub count_missing : (section : List ℕ) (place code steps : ℕ) → declaration_at section place ≡ Ok None
    → ticked_by (declarations_walked section place code) steps ≡ ticked steps
count_missing section place code steps e = once _ steps (walked_here section place code (Ok None) e)

picked_same : (same : Bool) (declaration : DeclView) (code others : ℕ) → (declaration.code == code) ≡ same → declaration.code ≡ code → cond same 1 others ≡ 1
picked_same true declaration code others e equal = refl
picked_same false declaration code others e equal = let yes : (declaration.code == code) ≡ true = eq-eqb declaration.code code equal in absurd cc

pub count_found : (section : List ℕ) (place next code steps : ℕ) (declaration : DeclView) → declaration_at section place ≡ Ok (Some (declaration, next))
    → declaration.code ≡ code → ticked_by (declarations_walked section place code) steps ≡ ticked steps
count_found section place next code steps declaration e same =
    once _ steps (walked_here section place code (Ok (Some (declaration, next))) e ∙ picked_same (declaration.code == code) declaration code _ refl same)

picked_other : (same : Bool) (declaration : DeclView) (code others : ℕ) → (declaration.code == code) ≡ same → declaration.code ≢ code → cond same 1 others ≡ others
picked_other true declaration code others e other = absurd (other (eqb-true declaration.code code e))
picked_other false declaration code others e other = refl

one_first : (walked steps : ℕ) → ticked_by (walked + 1) steps ≡ ticked_by walked (ticked steps)
unfolding ticked_by
one_first walked steps = omega arith

-- behind a declaration of another code
pub count_next : (section : List ℕ) (place next code steps : ℕ) (declaration : DeclView) → declaration_at section place ≡ Ok (Some (declaration, next))
    → declaration.code ≢ code → ticked_by (declarations_walked section place code) steps ≡ ticked_by (declarations_walked section next code) (ticked steps)
count_next section place next code steps declaration e other =
    ap (λ n. ticked_by n steps) (walked_here section place code (Ok (Some (declaration, next))) e ∙ picked_other (declaration.code == code) declaration code _ refl other)
    ∙ one_first (declarations_walked section next code) steps
