-- What one cell makes of a pair.
use Rattle.std.proofs.Common.{◌≡◌, ◌≢◌, ◌⊎◌, ℕ, ◌<◌, ◌≤◌, List, [], ◌∷◌, ◌++◌, Bool, Option, Some, None, if◌then◌else◌, refl, sym, ap, subst, ◌∙◌, inl, inr, ne_eqb, arith}
use Rattle.map_core.specs.declared.cell.Cell.{Cell}
use Rattle.map_core.specs.declared.entry.Entry.{Entry}
use Rattle.map_core.specs.declared.layout.Layout.{Layout}
use Rattle.map_core.specs.declared.view.View.{View}
use Rattle.map_core.specs.History.{value_in}
use Rattle.map_core.specs.Places.{key_place, value_place, IsCell}
use Rattle.map_core.specs.Machine.{greatest, IsWord, Reaches, IsPublished}
use Rattle.map_core.specs.Events.{entry}
use Rattle.map_core.specs.Passes.{look, cell, drop_claim, PassFacts}
use Rattle.map_core.proofs.CallLemmas.{starts_trans}
use Rattle.map_core.proofs.TurnLemmas.{drop_own}
use Rattle.map_cells.specs.Steps.{ClosedTo, StepFrame, Looks, KeySeen, KeyTried, ValueSeen, ValueTried, IsNewest}
use Rattle.map_cells.specs.Walks.{Walks, ClaimsAtMost, WalksToClaim}
use Rattle.map_cells.specs.Puts.{HoldsKey, HoldsOther, IsShut, IsSeenFrom, PutsNew, PutsFound, PutsShut, PutsAt}
use Rattle.map_cells.specs.declared.walks.Tried.{Tried}
use Rattle.map_cells.specs.declared.walks.Tried.TheVariants as tried
use Rattle.map_cells.proofs.WalkLemmas.{steps_then, looks_then, reaches_more, closed_more, published_view, shut_value, not_last}

-- a pair that is seen published is in the front
pub published_value : (fits : List ℕ → ℕ → ℕ → Type 0) (w : View) (h k x : ℕ) → PassFacts fits w → IsPublished w.layout (look w.known) h k x → value_in w.front k ≡ Some x
published_value fits w h k x facts p =
    subst (λ (y : ℕ × ℕ). value_in w.front y.0 ≡ Some y.1) (λ t. (p.key_is t, p.value_is t))
    (facts.seen h p.index p.cell (subst IsWord (sym p.key_is) p.key) (subst IsWord (sym p.value_is) p.value))

module _ (fits : List ℕ → ℕ → ℕ → Type 0) where
  -- an empty cell was claimed
  pub takes_won : (g i k : ℕ) (v u w : View) → KeySeen fits g i 0 v u → KeyTried fits g i k 0 u w → WalksToClaim fits g i v w
  takes_won g i k v u w a b = record { looks = looks_then v u w a.looks b.looks; facts = b.facts; claim = inr (b.won refl).0; uncounted = b.uncounted ∙ a.uncounted; counted = b.counted ∙ a.counted }

  -- another pass was first
  pub takes_lost : (g i k n : ℕ) (v u w : View) → v.claim ≡ None → 0 < n → KeySeen fits g i 0 v u → KeyTried fits g i k n u w → WalksToClaim fits g i v w
  takes_lost g i k n v u w free pos a b =
      record { looks = looks_then v u w a.looks b.looks; facts = b.facts; claim = inl ((b.lost (λ e. omega arith)).0 ∙ (a.claim ∙ free)); uncounted = b.uncounted ∙ a.uncounted; counted = b.counted ∙ a.counted }

  -- a key stood in the cell
  pub takes_seen : (g i n : ℕ) (v u : View) → v.claim ≡ None → KeySeen fits g i n v u → WalksToClaim fits g i v u
  takes_seen g i n v u free a = record { looks = a.looks; facts = a.facts; claim = inl (a.claim ∙ free); uncounted = a.uncounted; counted = a.counted }

  -- and its value was unset
  pub takes_unset : (g i : ℕ) (v u w : View) → WalksToClaim fits g i v u → ValueSeen fits g i 0 u w → WalksToClaim fits g i v w
  takes_unset g i v u w a b =
      record {
        looks = looks_then v u w a.looks b.looks;
        facts = b.facts;
        claim = subst (λ (o : Option Cell). (o ≡ None) ⊎ (o ≡ Some (cell g i))) (sym b.claim) a.claim;
        uncounted = b.uncounted ∙ a.uncounted;
        counted = b.counted ∙ a.counted;
      }

  -- the cell's key was sealed, or closed values were seen: the walk has no open claim
  pub takes_walks : (g i : ℕ) (v w : View) → WalksToClaim fits g i v w → w.claim ≡ None → Walks fits v w
  takes_walks g i v w a free = record { looks = a.looks; facts = a.facts; claim = λ e. free; uncounted = a.uncounted; counted = a.counted }

  -- a claim of the cell ends where its value was seen
  pub value_frees : (g i n : ℕ) (u w : View) → ClaimsAtMost g i u → 0 < n → ValueSeen fits g i n u w → w.claim ≡ None
  value_frees g i n u w claim pos b = b.claim ∙ (ap (λ (t : Bool). if t then u.claim else drop_claim u.claim g i) (ne_eqb n 0 (λ e. omega arith)) ∙ drop_own u.claim g i claim)

  -- the cell's key, by the pass's new sizes
  pub holds_key : (g i k n : ℕ) (u w : View) → StepFrame u w → look w.known (key_place u.layout g i) ≡ n → n ≡ k → HoldsKey g i k w
  holds_key g i k n u w s key is = ap (λ (l : Layout). look w.known (key_place l g i)) s.layout ∙ (key ∙ is)

  pub holds_other : (g i k n : ℕ) (u w : View) → StepFrame u w → look w.known (key_place u.layout g i) ≡ n → IsWord n → n ≢ k → HoldsOther g i k w
  holds_other g i k n u w s key word ne =
      let there : look w.known (key_place w.layout g i) ≡ n = ap (λ (l : Layout). look w.known (key_place l g i)) s.layout ∙ key in
      record { key = subst IsWord (sym there) word; other = λ e. ne (sym there ∙ e) }

  pub key_stays : (g i k : ℕ) (u w : View) → IsWord k → StepFrame u w → HoldsKey g i k u → HoldsKey g i k w
  key_stays g i k u w word s key =
      holds_key g i k (look u.known (key_place u.layout g i)) u w s (s.seen (key_place u.layout g i) (subst (λ (n : ℕ). 0 < n) (sym key) word.0)) key

  module _ (g i k : ℕ) (u w : View) (here : IsCell u.layout g i) (word : IsWord k) (key : HoldsKey g i k u) where
    -- the pair is seen published in this cell
    pub seen_here : (x : ℕ) → IsWord x → StepFrame u w → look w.known (value_place u.layout g i) ≡ x → IsSeenFrom g k x w
    seen_here x value s there =
        record {
          generation = g;
          from = omega arith;
          published = subst (λ (l : Layout). IsPublished l (look w.known) g k x) (sym s.layout) record {
            index = i;
            cell = here;
            key_is = s.seen (key_place u.layout g i) (subst (λ (n : ℕ). 0 < n) (sym key) word.0) ∙ key;
            value_is = there;
            key = word;
            value = value;
          };
        }

    pub puts_new : (x : ℕ) → IsWord x → ClaimsAtMost g i u → ValueTried fits g i k x 0 u w → PutsNew fits g k x u w
    puts_new x value claim b =
        record {
          steps = b.steps;
          facts = b.facts;
          claim = b.claim ∙ drop_own u.claim g i claim;
          counted = b.counted;
          fresh = λ f c. b.won refl f c;
          kept = λ h p. b.kept refl h p;
          seen = seen_here x value b.steps (b.set refl);
        }

    pub puts_found : (x n : ℕ) → ClaimsAtMost g i u → IsWord n → ValueTried fits g i k x n u w → PutsFound fits g k x n u w
    puts_found x n claim found b =
        let pos = found.0 in
        let p = b.lost (λ e. omega arith) in
        record {
          walks = record {
            looks = p.looks;
            facts = b.facts;
            claim = λ free. b.claim ∙ drop_own u.claim g i claim;
            uncounted = p.uncounted;
            counted = b.counted;
          };
          value = b.present found;
          same = λ h q. let e : Some n ≡ Some x = sym (b.present found) ∙ published_value fits w h k x b.facts (published_view u w h k x b.steps q) in cc;
          seen = seen_here n found b.steps p.word;
        }

    -- the value word was closed
    pub puts_closed : (x : ℕ) → Reaches u.layout (look u.known) g i k → ClaimsAtMost g i u → ValueTried fits g i k x greatest u w → PutsShut fits g k u w
    puts_closed x walk claim b =
        let p = b.lost (λ e. omega arith) in
        record {
          walks = record {
            looks = p.looks;
            facts = b.facts;
            claim = λ free. b.claim ∙ drop_own u.claim g i claim;
            uncounted = p.uncounted;
            counted = b.counted;
          };
          shut = shut_value g i k w (reaches_more u w g i k b.steps walk) (not_last g u w b.steps b.unclosed) (key_stays g i k u w word b.steps key)
              (ap (λ (l : Layout). look w.known (value_place l g i)) b.steps.layout ∙ p.word);
        }

    -- or was seen closed
    pub closed_seen : Reaches u.layout (look u.known) g i k → ValueSeen fits g i greatest u w → IsShut g k w
    closed_seen walk b =
        let s = b.looks.steps in
        shut_value g i k w (reaches_more u w g i k s walk) (not_last g u w s b.unclosed) (key_stays g i k u w word s key)
        (ap (λ (l : Layout). look w.known (value_place l g i)) s.layout ∙ b.word)

    -- the value was there already
    pub puts_seen : (x n : ℕ) → ClaimsAtMost g i u → IsWord n → ValueSeen fits g i n u w → PutsFound fits g k x n u w
    puts_seen x n claim found b =
        let value : value_in w.front k ≡ Some n = b.present k word found key in
        record {
          walks = record {
            looks = b.looks;
            facts = b.facts;
            claim = λ free. value_frees g i n u w claim found.0 b;
            uncounted = b.uncounted;
            counted = b.counted;
          };
          value = value;
          same = λ h q. let e : Some n ≡ Some x = sym value ∙ published_value fits w h k x b.facts (published_view u w h k x b.looks.steps q) in cc;
          seen = seen_here n found b.looks.steps b.word;
        }

  -- a walk after looks that left the uncounted entries, with no open claim at its end
  pub walks_after : (v u w : View) → Looks v u → u.uncounted ≡ v.uncounted → u.counted ≡ v.counted → w.claim ≡ None → Walks fits u w → Walks fits v w
  walks_after v u w a uncounted counted free b =
      record {
        looks = looks_then v u w a b.looks;
        facts = b.facts;
        claim = λ e. free;
        uncounted = b.uncounted ∙ uncounted;
        counted = b.counted ∙ counted;
      }

  -- what was put after looks that left the uncounted entries
  module _ (g k x : ℕ) (v u w : View) (a : Looks v u) (uncounted : u.uncounted ≡ v.uncounted) (counted : u.counted ≡ v.counted) where
    seen_below : {y : ℕ} → (h : ℕ) → h ≤ g → IsSeenFrom g k y w → IsSeenFrom h k y w
    seen_below h le s = let from = s.from in record { generation = s.generation; from = omega arith; published = s.published }

    entry_same : entry u.number k x ≡ entry v.number k x
    entry_same = ap (λ (n : ℕ). entry n k x) a.steps.number

    pub new_after : (h : ℕ) → h ≤ g → (ClosedTo v h k → ClosedTo u g k) → PutsNew fits g k x u w → PutsNew fits h k x v w
    new_after h le closed b =
        record {
          steps = steps_then v u w a.steps b.steps;
          facts = b.facts;
          claim = b.claim;
          counted = b.counted ∙ counted;
          fresh = λ f c.
              let p = b.fresh (subst (λ (t : List ℕ). fits t k x) (sym a.steps.tag) f) (closed c) in
              record {
                newest = subst (λ (y : Entry). IsNewest fits y v w) entry_same record { before = p.newest.before; front = p.newest.front; old = starts_trans v.front u.front p.newest.before a.steps.front p.newest.old; lacks = p.newest.lacks };
                own = p.own ∙ (λ t. a.own t ++ entry_same t ∷ []);
                uncounted = p.uncounted ∙ (λ t. uncounted t ++ entry_same t ∷ []);
              };
          kept = λ h p.
              let q = b.kept h (published_view v u h k x a.steps p) in
              record { looks = looks_then v u w a q.looks; uncounted = q.uncounted ∙ uncounted };
          seen = seen_below h le b.seen;
        }

    pub found_after : (h n : ℕ) → h ≤ g → PutsFound fits g k x n u w → (v.claim ≡ None → w.claim ≡ None) → PutsFound fits h k x n v w
    found_after h n le b claim =
        record {
          walks = record {
            looks = looks_then v u w a b.walks.looks;
            facts = b.walks.facts;
            claim = claim;
            uncounted = b.walks.uncounted ∙ uncounted;
            counted = b.walks.counted ∙ counted;
          };
          value = b.value;
          same = λ h p. b.same h (published_view v u h k x a.steps p);
          seen = seen_below h le b.seen;
        }

  -- the same of all that one cell may make of a pair
  pub tried_after : (g i k x : ℕ) (v u w : View) (a : Looks v u) → 0 < k → u.uncounted ≡ v.uncounted → u.counted ≡ v.counted → w.claim ≡ None → (r : Tried) → PutsAt fits g i k x u w r → PutsAt fits g i k x v w r
  tried_after g i k x v u w a pos uncounted counted free tried.Placed b = new_after g k x v u w a uncounted counted g (omega arith) (λ c. closed_more v u g k a.steps c pos) b
  tried_after g i k x v u w a pos uncounted counted free (tried.Found y) b = found_after g k x v u w a uncounted counted g y (omega arith) b (λ e. free)
  tried_after g i k x v u w a pos uncounted counted free tried.Other b = record { walks = walks_after v u w a uncounted counted free b.walks; holds = b.holds }
  tried_after g i k x v u w a pos uncounted counted free tried.Closed b = record { walks = walks_after v u w a uncounted counted free b.walks; shut = b.shut }
