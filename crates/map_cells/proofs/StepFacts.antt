-- What a step on a table's words wants of the pass and of the cells that it is called with, and what it leaves.
use Rattle.std.proofs.Common.{◌≡◌, ◌+◌, ℕ, List, sym, ap, subst, ◌∙◌}
use Rattle.atomic_table.specs.Seated.{TableId}
use Rattle.atomic_table.specs.Table.{Me}
use Rattle.map_core.specs.declared.entry.Entry.{Entry}
use Rattle.map_core.specs.declared.layout.Layout.{Layout}
use Rattle.map_core.specs.declared.view.View.{View}
use Rattle.map_core.specs.Places.{offset, key_place, value_place, finish_place, Within, IsCell, IsBlock}
use Rattle.map_core.specs.History.{StartsWith}
use Rattle.map_core.specs.Passes.{PassFacts}
use Rattle.map_core.specs.Knowing.{halved}
use Rattle.map_cells.specs.declared.about.About.{About}
use Rattle.map_cells.specs.Seen.{CellsView, PassView, IsOf, Continues}
use Rattle.map_cells.specs.FollowLaws.{starts_same}
use Rattle.map_cells.specs.Passing.{IsJoined}
use Rattle.map_cells.specs.PassFields.{FieldsAgree}
use Rattle.map_cells.specs.Steps.{StepFrame, Rises, CurrentSeen}
use Rattle.map_cells.proofs.Allowed.{about}

-- the pass's seat, with the view v, is of the words that the cells share, whose rule was told the key
pub record Seated (seat shared : TableId) (v : View) (outer inner : Layout) (key : About) : Type 0 where
  pub tables : seat ≡ shared
  pub layout : v.layout ≡ outer
  pub inside : v.layout ≡ inner
  pub about_is : about v key.tag ≡ key
  pub tag : v.tag ≡ key.tag.numbers

pub seated : (c : CellsView) (p : PassView) (seat shared : TableId) (v : View) (inner : Layout) (key : About)
    → record { table = shared; layout = inner; tag = key.tag.numbers } ≡ c → record { table = seat; knows = v } ≡ p → key.layout ≡ inner → IsOf c p → Seated seat shared v c.layout inner key
seated c p seat shared v inner key self pass layout of =
    let outer : v.layout ≡ c.layout = ap (λ (x : PassView). x.knows.layout) pass ∙ of.layout in
    let inside : v.layout ≡ inner = outer ∙ sym (ap (λ (x : CellsView). x.layout) self) in
    record {
      tables = ap (λ (x : PassView). x.table) pass ∙ (of.table ∙ sym (ap (λ (x : CellsView). x.table) self));
      layout = outer;
      inside = inside;
      about_is = λ i. record { layout = (inside ∙ sym layout) i; tag = key.tag };
      tag = ap (λ (x : PassView). x.knows.tag) pass ∙ (of.tag ∙ sym (ap (λ (x : CellsView). x.tag) self));
    }

-- the place of a word, by the pass's own sizes
pub key_there : (v inner : Layout) (g i n : ℕ) → v ≡ inner → n ≡ key_place inner g i + offset inner → n ≡ key_place v g i + offset v
key_there v inner g i n same is = subst (λ (l : Layout). n ≡ key_place l g i + offset l) (sym same) is

pub value_there : (v inner : Layout) (g i n : ℕ) → v ≡ inner → n ≡ value_place inner g i + offset inner → n ≡ value_place v g i + offset v
value_there v inner g i n same is = subst (λ (l : Layout). n ≡ value_place l g i + offset l) (sym same) is

pub cell_there : (v outer : Layout) (g i : ℕ) → v ≡ outer → IsCell outer g i → IsCell v g i
cell_there v outer g i same cell = subst (λ (l : Layout). IsCell l g i) (sym same) cell

pub finish_there : (v inner : Layout) (g b n : ℕ) → v ≡ inner → n ≡ finish_place inner g b + offset inner → n ≡ finish_place v g b + offset v
finish_there v inner g b n same is = subst (λ (l : Layout). n ≡ finish_place l g b + offset l) (sym same) is

pub block_there : (v outer : Layout) (g b : ℕ) → v ≡ outer → IsBlock outer g b → IsBlock v g b
block_there v outer g b same block = subst (λ (l : Layout). IsBlock l g b) (sym same) block

pub within_there : (v outer : Layout) (g : ℕ) → v ≡ outer → Within outer g → Within v g
within_there v outer g same within = subst (λ (l : Layout). Within l g) (sym same) within

-- a step leaves the pass with its table
pub of_steps : (c : CellsView) (p q : PassView) → IsOf c p → q.table ≡ p.table → StepFrame p.knows q.knows → IsOf c q
of_steps c p q of table s = record { table = table ∙ of.table; layout = s.layout ∙ of.layout; tag = s.tag ∙ of.tag }

pub of_rises : (c : CellsView) (p q : PassView) → IsOf c p → q.table ≡ p.table → Rises p.knows q.knows → IsOf c q
of_rises c p q of table s = record { table = table ∙ of.table; layout = s.layout ∙ of.layout; tag = s.tag ∙ of.tag }

-- the fields of a pass, after a step that counts nothing
pub fields_after : (fits : List ℕ → ℕ → ℕ → Type 0) (me me' : Me (Unit {0}) View) (i left own most now : ℕ) → FieldsAgree fits me i left own most now → me'.1 ≡ me.1 → StepFrame me.0 me'.0
    → me'.0.counted ≡ me.0.counted → me'.0.count_seen ≡ me.0.count_seen → PassFacts fits me'.0 → FieldsAgree fits me' i left own most now
fields_after fits me me' i left own most now agree slots s counted count facts =
    record {
      slots = slots ∙ agree.slots;
      number = agree.number ∙ sym s.number;
      spare = agree.spare ∙ sym s.spare;
      entries = agree.entries ∙ sym counted;
      count_seen = agree.count_seen ∙ sym count;
      generation = agree.generation ∙ sym s.generation;
      facts = facts;
    }

-- and after one that saw a generation current
pub fields_risen : (fits : List ℕ → ℕ → ℕ → Type 0) (me me' : Me (Unit {0}) View) (i left own most now n : ℕ) → FieldsAgree fits me i left own most now → me'.1 ≡ me.1 → CurrentSeen fits n me.0 me'.0 → FieldsAgree fits me' i left own most n
fields_risen fits me me' i left own most now n agree slots s =
    record {
      slots = slots ∙ agree.slots;
      number = agree.number ∙ sym s.rises.number;
      spare = agree.spare ∙ sym s.rises.spare;
      entries = agree.entries ∙ sym s.rises.counted;
      count_seen = agree.count_seen ∙ sym s.same_count;
      generation = sym s.generation;
      facts = s.facts;
    }

-- what stays at a join and at a split
pub join_continues : (fits : List ℕ → ℕ → ℕ → Type 0) (p q : PassView) (u : View) → q.table ≡ p.table → IsJoined fits p.knows u q.knows → Continues p q
join_continues fits p q u table j =
    record {
      table = table;
      layout = j.layout;
      tag = j.joins.tag;
      number = j.joins.number;
      front = record { rest = j.joins.mine.rest; joins = j.joins.mine.joins };
      rest = λ r. j.rest;
    }

pub split_continues : (p q : PassView) → q.table ≡ p.table → q.knows ≡ halved p.knows → Continues p q
split_continues p q table is =
    record {
      table = table;
      layout = ap (λ (x : View). x.layout) is;
      tag = ap (λ (x : View). x.tag) is;
      number = ap (λ (x : View). x.number) is;
      front = subst (λ (x : List Entry). StartsWith p.knows.front x) (sym (ap (λ (x : View). x.front) is)) (starts_same p.knows.front);
      rest = λ r. record { claim = ap (λ (x : View). x.claim) is ∙ r.claim; uncounted = ap (λ (x : View). x.uncounted) is ∙ r.uncounted };
    }
