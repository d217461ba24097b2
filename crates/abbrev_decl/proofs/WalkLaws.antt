-- Laws of the walk over declarations.
use Rattle.std.proofs.Common.{◌≡◌, ◌≢◌, ℕ, zero, suc, ◌+◌, ◌<◌, ◌≤◌, Bool, true, false, cond, ◌==◌, nat_lt, IfOk, inl, inr, subst, eqb, eqb-true, eq-eqb, List, [], ◌∷◌, length, Result, Ok, Err, Option, Some, None, refl, sym, ap, ◌∙◌, arith}
use Rattle.std.proofs.lemmas.Bool.Decides.{leb_tells}
use Rattle.dw_fields.specs.declared.fault_code.Fault.{Fault}
use Rattle.dw_fields.specs.declared.fault_code.Code.TheVariants.{Truncated, DeclTruncated, ChildrenByte}
use Rattle.dw_fields.specs.Codes.{fault}
use Rattle.dw_fields.specs.Span.{Span}
use Rattle.dw_fields.specs.Reading.{◌>>=◌, ◌>>◌, refuse, number_at, uleb_at}
use Rattle.abbrev_decl.specs.declared.pairs.AttrSpec.{AttrSpec}
use Rattle.abbrev_decl.specs.declared.declarations.Head.{Head}
use Rattle.abbrev_decl.specs.declared.lookup.FindFault.{FindFault}
use Rattle.abbrev_decl.specs.declared.lookup.FindFault.TheVariants as faults
use Rattle.abbrev_decl.specs.Pairs.{from, in_table, pairs_at}
use Rattle.abbrev_decl.specs.Shapes.{DeclView}
use Rattle.abbrev_decl.specs.Declarations.{head_at, StandsInside, with_pairs, declared, declaration_at}
use Rattle.abbrev_decl.specs.Lookup.{first_on, first_from, first_declaration, walked_on, walked_from, declarations_walked, WalkEnds, IsFirst}
use Rattle.abbrev_decl.proofs.Forward.{Ahead, Ahead-later, Ahead-renamed, byte_ahead, uleb_end}
use Rattle.abbrev_decl.proofs.PairLaws.{pairs_ahead, start_uleb, later_uleb}

-- what was read of a declaration stands behind the place
abbrev HeadAhead : ℕ → Result (Option Head) Fault → Type 0
HeadAhead place (Ok (Some head)) = place < head.pairs
HeadAhead place (Ok None) = Unit {0}
HeadAhead place (Err f) = Unit {0}

abbrev pub DeclAhead : ℕ → Result (Option (DeclView × ℕ)) Fault → Type 0
DeclAhead place (Ok (Some found)) = place < found.1
DeclAhead place (Ok None) = Unit {0}
DeclAhead place (Err f) = Unit {0}

HeadAhead-then : (place : ℕ) (answer : Result (ℕ × ℕ) Fault) (next : ℕ × ℕ → Result (Option Head) Fault)
    → Ahead place answer → ((read : ℕ × ℕ) → place < read.1 → HeadAhead place (next read)) → HeadAhead place (answer >>= next)
HeadAhead-then place (Ok read) next h k = k read h
HeadAhead-then place (Err f) next h k = tt

HeadAhead-either : (test : Bool) (place : ℕ) (then_read else_read : Result (Option Head) Fault) → HeadAhead place then_read → HeadAhead place else_read → HeadAhead place (cond test then_read else_read)
HeadAhead-either true place then_read else_read h k = h
HeadAhead-either false place then_read else_read h k = k

HeadAhead-refuse : (bad : Bool) (f : Fault) (place : ℕ) (next : Result (Option Head) Fault) → HeadAhead place next → HeadAhead place (refuse bad f >> next)
HeadAhead-refuse true f place next h = tt
HeadAhead-refuse false f place next h = h

later_byte : (s : Span) (place : ℕ) → place < s.place → Ahead place (in_table (number_at 1 s))
later_byte s place h = Ahead-renamed Truncated DeclTruncated place (number_at 1 s) (Ahead-later place s.place (number_at 1 s) (omega arith) (byte_ahead s))

head_ahead : (section : List ℕ) (place : ℕ) → HeadAhead place (head_at section place)
unfolding head_at
head_ahead section place =
    HeadAhead-then place (in_table (uleb_at (from section place))) _ (start_uleb (from section place))
    (λ code p. HeadAhead-either (code.0 == 0) place _ _ tt
    (HeadAhead-then place (in_table (uleb_at (from section code.1))) _ (later_uleb (from section code.1) place p)
    (λ tag q. HeadAhead-then place (in_table (number_at 1 (from section tag.1))) _ (later_byte (from section tag.1) place q)
    (λ children r. HeadAhead-refuse (nat_lt 1 children.0) (fault ChildrenByte tag.1) place _ r))))

with_pairs_ahead : (place : ℕ) (head : Head) (pairs : Result (List AttrSpec × ℕ) Fault) → place < head.pairs → Ahead head.pairs pairs → DeclAhead place (with_pairs place head pairs)
with_pairs_ahead place head (Ok pairs) h k = omega arith
with_pairs_ahead place head (Err f) h k = tt

declared_ahead : (section : List ℕ) (place : ℕ) (head : Result (Option Head) Fault) → HeadAhead place head → DeclAhead place (declared section place head)
declared_ahead section place (Err f) h = tt
declared_ahead section place (Ok None) h = tt
declared_ahead section place (Ok (Some head)) h = with_pairs_ahead place head (pairs_at section head.pairs) h (pairs_ahead section head.pairs)

pub declaration_ahead : (section : List ℕ) (place : ℕ) → DeclAhead place (declaration_at section place)
unfolding declaration_at
declaration_ahead section place = declared_ahead section place (head_at section place) (head_ahead section place)

-- a declaration ends behind its place
pub declaration_forward : (section : List ℕ) (place next : ℕ) (declaration : DeclView) → declaration_at section place ≡ Ok (Some (declaration, next)) → place < next
declaration_forward section place next declaration e = rw e at (declaration_ahead section place)

-- at the end no declaration stands
pub declaration_end : (section : List ℕ) (place : ℕ) → length section ≤ place → declaration_at section place ≡ Err (fault DeclTruncated place)
unfolding declaration_at head_at
declaration_end section place h = rw (uleb_end (from section place) h) refl

-- what the walk from behind a declaration comes to decides the walk from it
on_same : (found : Result (Option (DeclView × ℕ)) Fault) (code : ℕ) (f g : ℕ → Result DeclView FindFault) (place : ℕ)
    → DeclAhead place found → ((next : ℕ) → place < next → f next ≡ g next) → first_on found code f ≡ first_on found code g
on_same (Err e) code f g place h k = refl
on_same (Ok None) code f g place h k = refl
on_same (Ok (Some (declaration, next))) code f g place h k = ap (λ others. cond (declaration.code == code) (Ok declaration) others) (k next h)

-- with enough turns, more make no difference
walk_enough : (n m : ℕ) (section : List ℕ) (place code : ℕ) → length section ≤ place + n → length section ≤ place + m
    → first_from n section place code ≡ first_from m section place code
walk_enough zero zero section place code p q = refl
walk_enough zero (suc m) section place code p q = rw (declaration_end section place (omega arith)) refl
walk_enough (suc n) zero section place code p q = rw (declaration_end section place (omega arith)) refl
walk_enough (suc n) (suc m) section place code p q =
    on_same (declaration_at section place) code (λ next. first_from n section next code) (λ next. first_from m section next code) place (declaration_ahead section place)
    (λ next h. walk_enough n m section next code (omega arith) (omega arith))

-- the walk from a place: what stands there, and the walk from behind it
pub walk_step : (section : List ℕ) (place code : ℕ)
    → first_declaration section place code ≡ first_on (declaration_at section place) code (λ next. first_declaration section next code)
unfolding first_declaration
walk_step section place code = walk_enough (length section + 1) (suc (length section + 1)) section place code (omega arith) (omega arith)

others_more : (section : List ℕ) (place next code walked : ℕ) (other : DeclView) (answer : Result DeclView FindFault)
    → declaration_at section place ≡ Ok (Some (other, next)) → (other.code ≢ code) → IsFirst section next code walked answer
    → IsFirst section place code (walked + 1) answer
others_more section place next code walked other answer e ne law = record {
  others = other ∷ law.others;
  last = law.last;
  stand = (next, e, ne, law.stand);
  end = law.end;
  counted = omega (arith, law.counted);
}

picked : (found : Bool) (section : List ℕ) (place next code walked : ℕ) (declaration : DeclView) (others : Result DeclView FindFault)
    → declaration_at section place ≡ Ok (Some (declaration, next)) → (declaration.code == code) ≡ found → IsFirst section next code walked others
    → IsFirst section place code (cond found 1 (walked + 1)) (cond found (Ok declaration) others)
picked true section place next code walked declaration others e same law = record {
  others = [];
  last = place;
  stand = refl;
  end = (eqb-true declaration.code code same, next, e);
  counted = refl;
}
picked false section place next code walked declaration others e same law =
    others_more section place next code walked declaration others e
    (λ equal. let yes : eqb declaration.code code ≡ true = eq-eqb declaration.code code equal in cc) law

law_on : (found : Result (Option (DeclView × ℕ)) Fault) (section : List ℕ) (place code : ℕ) (counts : ℕ → ℕ) (others : ℕ → Result DeclView FindFault)
    → declaration_at section place ≡ found → ((next : ℕ) → place < next → IsFirst section next code (counts next) (others next)) → DeclAhead place found
    → IsFirst section place code (walked_on found code counts) (first_on found code others)
law_on (Err f) section place code counts others e k h = record { others = []; last = place; stand = refl; end = e; counted = refl }
law_on (Ok None) section place code counts others e k h = record { others = []; last = place; stand = refl; end = e; counted = refl }
law_on (Ok (Some (declaration, next))) section place code counts others e k h =
    picked (declaration.code == code) section place next code (counts next) declaration (others next) e refl (k next h)

law_from : (n : ℕ) (section : List ℕ) (place code : ℕ) → length section ≤ place + n
    → IsFirst section place code (walked_from n section place code) (first_from n section place code)
law_from zero section place code p =
    record { others = []; last = place; stand = refl; end = declaration_end section place (omega arith); counted = refl }
law_from (suc n) section place code p =
    law_on (declaration_at section place) section place code (λ next. walked_from n section next code) (λ next. first_from n section next code) refl
    (λ next h. law_from n section next code (omega arith)) (declaration_ahead section place)

pub walk_law : (section : List ℕ) (place code : ℕ) → IsFirst section place code (declarations_walked section place code) (first_declaration section place code)
unfolding first_declaration declarations_walked
walk_law section place code = law_from (length section + 1) section place code (omega arith)

picked_same : (section : List ℕ) (code : ℕ) (declaration : DeclView) (others : Result DeclView FindFault)
    → declaration.code ≡ code → cond (declaration.code == code) (Ok declaration) others ≡ Ok declaration
picked_same section code declaration others same = rw (eq-eqb declaration.code code same) refl

-- the walk where the declaration stands
pub walk_found : (section : List ℕ) (place next code : ℕ) (declaration : DeclView)
    → declaration_at section place ≡ Ok (Some (declaration, next)) → declaration.code ≡ code → first_declaration section place code ≡ Ok declaration
walk_found section place next code declaration e same =
    walk_step section place code ∙ ap (λ found. first_on found code (λ q. first_declaration section q code)) e ∙ picked_same section code declaration _ same

picked_other : (found : Bool) (section : List ℕ) (code : ℕ) (declaration : DeclView) (others : Result DeclView FindFault)
    → (declaration.code == code) ≡ found → declaration.code ≢ code → cond found (Ok declaration) others ≡ others
picked_other true section code declaration others e other = absurd (other (eqb-true declaration.code code e))
picked_other false section code declaration others e other = refl

-- behind a declaration of another code
pub walk_next : (section : List ℕ) (place next code : ℕ) (declaration : DeclView)
    → declaration_at section place ≡ Ok (Some (declaration, next)) → declaration.code ≢ code → first_declaration section place code ≡ first_declaration section next code
walk_next section place next code declaration e other =
    walk_step section place code ∙ ap (λ found. first_on found code (λ q. first_declaration section q code)) e
    ∙ picked_other (declaration.code == code) section code declaration (first_declaration section next code) refl other

-- at a code 0
pub walk_missing : (section : List ℕ) (place code : ℕ) → declaration_at section place ≡ Ok None → first_declaration section place code ≡ Err faults.CodeMissing
walk_missing section place code e = walk_step section place code ∙ ap (λ found. first_on found code (λ q. first_declaration section q code)) e

-- at a fault
pub walk_broken : (section : List ℕ) (place code : ℕ) (f : Fault) → declaration_at section place ≡ Err f → first_declaration section place code ≡ Err (faults.Broken f)
walk_broken section place code f e = walk_step section place code ∙ ap (λ found. first_on found code (λ q. first_declaration section q code)) e

-- a declaration tells its own place
abbrev TellsPlace : ℕ → Result (Option (DeclView × ℕ)) Fault → Type 0
TellsPlace place (Ok (Some found)) = found.0.place ≡ place
TellsPlace place (Ok None) = Unit {0}
TellsPlace place (Err f) = Unit {0}

with_pairs_place : (place : ℕ) (head : Head) (pairs : Result (List AttrSpec × ℕ) Fault) → TellsPlace place (with_pairs place head pairs)
with_pairs_place place head (Ok pairs) = refl
with_pairs_place place head (Err f) = tt

declared_place : (section : List ℕ) (place : ℕ) (head : Result (Option Head) Fault) → TellsPlace place (declared section place head)
declared_place section place (Err f) = tt
declared_place section place (Ok None) = tt
declared_place section place (Ok (Some head)) = with_pairs_place place head (pairs_at section head.pairs)

declaration_place : (section : List ℕ) (place next : ℕ) (declaration : DeclView) → declaration_at section place ≡ Ok (Some (declaration, next)) → declaration.place ≡ place
unfolding declaration_at
declaration_place section place next declaration e = rw e at (declared_place section place (head_at section place))

-- a declaration begins inside its section
pub declaration_inside : (section : List ℕ) (place next : ℕ) (declaration : DeclView) → declaration_at section place ≡ Ok (Some (declaration, next)) → place < length section
declaration_inside section place next declaration e =
    elim (leb_tells (length section) place)
    [ inl past ↦ (let none = declaration_end section place past.1 in absurd cc) | inr within ↦ within.1 ]

stands_here : (section : List ℕ) (place next : ℕ) (declaration : DeclView) → declaration.place ≡ place
    → declaration_at section place ≡ Ok (Some (declaration, next)) → StandsInside section declaration
stands_here section place next declaration same e = record {
  inside = subst (λ p. p < length section) (sym same) (declaration_inside section place next declaration e);
  next = next;
  stands = subst (λ p. declaration_at section p ≡ Ok (Some (declaration, next))) (sym same) e;
}

stands_on : (section : List ℕ) (code : ℕ) (answer : Result DeclView FindFault) (last : ℕ) → WalkEnds section last code answer → IfOk answer (StandsInside section)
stands_on section code (Ok declaration) last h = stands_here section last h.1 declaration (declaration_place section last h.1 declaration h.2) h.2
stands_on section code (Err f) last h = tt

-- a declaration that was found stands at its place
pub found_stands : (section : List ℕ) (place code : ℕ) → IfOk (first_declaration section place code) (StandsInside section)
found_stands section place code = let law = walk_law section place code in stands_on section code (first_declaration section place code) law.last law.end
