-- Each step of a pass is a turn.
use Rattle.std.proofs.Common.{◌≡◌, ◌≢◌, ◌⊎◌, ℕ, ◌+◌, ◌<◌, ◌≤◌, Bool, true, false, List, [], ◌∷◌, ◌++◌, length, Option, Some, None, ◌&&◌, ◌==◌, if◌then◌else◌, refl, sym, ap, subst, ◌∙◌, inl, inr, ⊎_elim, arith, append-nil, eq-eqb, ne_eqb, length-append}
use mathlib.Core.Logic.{dite}
use native.Mathlib.Decide.{ℕ_discrete}
use Rattle.map_core.specs.declared.cell.Cell.{Cell}
use Rattle.map_core.specs.declared.entry.Entry.{Entry}
use Rattle.map_core.specs.declared.layout.Layout.{Layout}
use Rattle.map_core.specs.declared.view.View.{View}
use Rattle.map_core.specs.History.{is_in, by_any, StartsWithOwn}
use Rattle.map_core.specs.Places.{lowest, key_place, value_place, finish_place, Within, IsCell}
use Rattle.map_core.specs.Machine.{greatest, IsWord, Keeps, State, IsUnset}
use Rattle.map_core.specs.Events.{entry, WritesWord}
use Rattle.map_core.specs.Passes.{look, cell, drop_claim, all_numbers, placed, HasFilled, AllBy, PassAt, Turn}
use Rattle.map_core.specs.Knowing.{all_but_first, sees, reads, grabs, places, rises, passes_by, counts_seen, tallies, settles}
use Rattle.map_core.proofs.PlaceLemmas.{key_key, value_value, key_value, value_key, key_finish, value_finish}
use Rattle.map_core.proofs.WordLemmas.{keeps_at}
use Rattle.map_core.proofs.HistoryLemmas.{by_hit, by_append}
use Rattle.map_core.proofs.PassLemmas.{keeps_trans, own_whole, own_grows, own_length, filled_longer, in_first}
use Rattle.map_core.proofs.CountLemmas.{in_hit, in_miss}

pub look_hit : (known : List (ℕ × ℕ)) (q n x : ℕ) → q ≡ x → look ((q, n) ∷ known) x ≡ n
look_hit known q n x is = subst (λ (b : Bool). (if b then n else look known x) ≡ n) (sym (eq-eqb q x is)) refl

pub look_miss : (known : List (ℕ × ℕ)) (q n x : ℕ) → q ≢ x → look ((q, n) ∷ known) x ≡ look known x
look_miss known q n x isnt = subst (λ (b : Bool). (if b then n else look known x) ≡ look known x) (sym (ne_eqb q x isnt)) refl

-- one word more is seen
pub knows_more : (known : List (ℕ × ℕ)) (C : ℕ → ℕ) (q n : ℕ) → C q ≡ n → Keeps (look known) C → Keeps (look ((q, n) ∷ known)) C
knows_more known C q n is keeps x h =
    dite (ℕ_discrete q x)
    (λ e. sym (ap C e) ∙ (is ∙ sym (look_hit known q n x e)))
    (λ ne. let m = look_miss known q n x ne in keeps x (subst (λ (y : ℕ). 0 < y) m h) ∙ sym m)

-- what was seen stays seen
pub seen_more : (known : List (ℕ × ℕ)) (C : ℕ → ℕ) (q n x : ℕ) → C q ≡ n → Keeps (look known) C → 0 < look known x → look ((q, n) ∷ known) x ≡ look known x
seen_more known C q n x is keeps h =
    dite (ℕ_discrete q x)
    (λ e. look_hit known q n x e ∙ (sym is ∙ (ap C e ∙ keeps x h)))
    (λ ne. look_miss known q n x ne)

pub claim_cases : (o : Option Cell) (g i : ℕ) → (o ≡ Some (cell g i)) ⊎ (o ≢ Some (cell g i))
claim_cases None g i = inr (λ e. absurd (cc))
claim_cases (Some c) g i =
    dite (ℕ_discrete c.generation g)
    (λ eg. dite (ℕ_discrete c.index i)
    (λ ei. inl (λ k. Some (cell (eg k) (ei k))))
    (λ ne. inr (λ e. ne (ap (λ (o : Option Cell). elim o as (λ _. ℕ) [ None ↦ 0 | Some d ↦ d.index ]) e))))
    (λ ne. inr (λ e. ne (ap (λ (o : Option Cell). elim o as (λ _. ℕ) [ None ↦ 0 | Some d ↦ d.generation ]) e)))

-- an open claim of another cell stays
pub drop_other : (o : Option Cell) (g i h j : ℕ) → o ≡ Some (cell h j) → ((h ≡ g) × (j ≡ i) → ⊥) → drop_claim o g i ≡ Some (cell h j)
drop_other o g i h j is apart =
    ap (λ (x : Option Cell). drop_claim x g i) is ∙ dite (ℕ_discrete h g)
    (λ eg. dite (ℕ_discrete j i)
    (λ ei. absurd (apart (eg, ei)))
    (λ ne. subst (λ (b : Bool). (if b then None else Some (cell h j)) ≡ Some (cell h j)) (sym (subst (λ (b : Bool). ((h == g) && b) ≡ false) (sym (ne_eqb j i ne)) (and_false (h == g)))) refl))
    (λ ne. subst (λ (b : Bool). (if (b && (j == i)) then None else Some (cell h j)) ≡ Some (cell h j)) (sym (ne_eqb h g ne)) refl)
  where
    and_false : (b : Bool) → (b && false) ≡ false
    and_false true = refl
    and_false false = refl

pub drop_own : (o : Option Cell) (g i : ℕ) → (o ≡ None) ⊎ (o ≡ Some (cell g i)) → drop_claim o g i ≡ None
drop_own o g i =
    ⊎_elim
    (λ (e : o ≡ None). ap (λ (x : Option Cell). drop_claim x g i) e)
    (λ (e : o ≡ Some (cell g i)). ap (λ (x : Option Cell). drop_claim x g i) e ∙ subst (λ (b : Bool). (if (b && (i == i)) then None else Some (cell g i)) ≡ None) (sym (eq-eqb g g refl)) (subst (λ (b : Bool). (if b then None else Some (cell g i)) ≡ None) (sym (eq-eqb i i refl)) refl))

module _ (l : Layout) (mark : List ℕ) (s : State) (i : ℕ) (v : View) (live : v.live ≡ true) (p : PassAt l mark s i v) where
  -- the whole history fills what the pass's front did, also with entries added
  filled_now : (added log : List Entry) → s.history ++ added ≡ log → HasFilled l v.generation log
  filled_now added log grows =
      let n : ℕ = length s.history in
      let m : ℕ = length added in
      let k : ℕ = length log in
      let sum : length (s.history ++ added) ≡ n + m = length-append s.history added in
      let same : k ≡ n + m = sym (ap (λ (x : List Entry). length x) grows) ∙ sum in
      let old : length v.front ≤ n = own_length v.numbers v.front s.history p.front in
      let low : length v.front ≤ k = omega arith in
      filled_longer l v.generation v.front log low p.filled

  -- what no step changes of a view
  abbrev Same : View → Type 0
  Same w = (w.number ≡ v.number) × (w.layout ≡ v.layout) × (w.tag ≡ v.tag) × (w.numbers ≡ v.numbers) × (w.beside ≡ v.beside) × (w.beside_numbers ≡ v.beside_numbers) × (w.spare ≡ v.spare) × (w.live ≡ v.live)

  -- what no step but one that counts or places changes
  abbrev Sums : View → Type 0
  Sums w = (w.counted ≡ v.counted) × (w.uncounted ≡ v.uncounted)

  -- what no step but one that sees a generation or a count changes
  abbrev Sights : View → Type 0
  Sights w = (w.generation ≡ v.generation) × (w.currents ≡ v.currents) × (w.count_seen ≡ v.count_seen)

  -- a cell that is unset in the state t is an open claim of w, or was unset and is another's
  abbrev ClaimsStay : State → View → Type 0
  ClaimsStay t w = (g j : ℕ) → IsCell l g j → IsUnset l t.cells g j → (w.claim ≡ Some (cell g j)) ⊎ (IsUnset l s.cells g j × (v.claim ≢ Some (cell g j)))

  -- any step that adds no entry
  module _ (t : State) (keeps : Keeps s.cells t.cells) (log : t.history ≡ s.history) (current : s.current ≤ t.current) (count : t.count ≡ s.count) where
    pub moves_turn : (w : View) → Keeps (look w.known) t.cells → w.front ≡ t.history → Same w → Sums w → w.count_seen ≤ t.count
        → is_in w.generation w.currents ≡ true → ((c : ℕ) → is_in c w.currents ≡ true → (lowest l ≤ c) × (c ≤ t.current)) → HasFilled l w.generation t.history
        → ClaimsStay t w → Turn l mark s t i v w
    moves_turn w known front same sums seen generation currents filled claims =
        let numbers : all_numbers w ≡ all_numbers v = λ k. same.3 k ++ same.5 k in
        record {
          keeps = keeps;
          current = current;
          count = omega arith;
          added = [];
          grows = append-nil s.history ∙ sym log;
          mine = tt;
          live = (live, same.7 ∙ live);
          numbers = numbers;
          spare = same.6;
          at = record {
            number = same.0 ∙ p.number;
            layout = same.1 ∙ p.layout;
            tag = same.2 ∙ p.tag;
            front = subst (λ (x : List Entry). StartsWithOwn w.numbers x t.history) (sym front) (own_whole w.numbers t.history);
            beside = subst (λ (x : List ℕ × List Entry × List Entry). StartsWithOwn x.0 x.1 x.2) (λ k. (sym same.5 k, sym same.4 k, sym log k)) p.beside;
            knows = known;
            own = subst (λ (x : ℕ × List ℕ). is_in x.0 x.1 ≡ true) (λ k. (sym same.0 k, sym same.3 k)) p.own;
            tally = (λ k. length (by_any (numbers k) (log k))) ∙ (p.tally ∙ sym (λ k. sums.0 k + length (sums.1 k)));
            spare = λ h. same.6 ∙ p.spare h;
            distinct = subst Rattle.map_core.specs.Passes.Distinct (sym numbers) p.distinct;
            count_seen = seen;
            generation = generation;
            currents = currents;
            filled = subst (λ (x : List Entry). HasFilled l w.generation x) (sym front) filled;
          };
          whole = front;
          counted = λ k. sums.0 k + sym count k;
          placed = λ k. (sums.0 k + length (sums.1 k)) + length (sym log k);
          claims = claims;
        }

    -- one that sees no new generation and no count
    pub sights_turn : (w : View) → Keeps (look w.known) t.cells → w.front ≡ t.history → Same w → Sums w → Sights w → ClaimsStay t w → Turn l mark s t i v w
    sights_turn w known front same sums sights claims =
        let seen = p.count_seen in
        let count_same = sights.2 in
        moves_turn w known front same sums (omega arith) (subst (λ (x : ℕ × List ℕ). is_in x.0 x.1 ≡ true) (λ k. (sym sights.0 k, sym sights.1 k)) p.generation)
        (λ c h. let b = p.currents c (subst (λ (x : List ℕ). is_in c x ≡ true) sights.1 h) in let hi = b.1 in (b.0, omega arith))
        (subst (λ (x : ℕ). HasFilled l x t.history) (sym sights.0) (filled_now [] t.history (append-nil s.history ∙ sym log)))
        claims

  -- a load
  pub stays_turn : (w : View) → Keeps (look w.known) s.cells → w.front ≡ s.history → Same w → Sums w → Sights w
      → ((g j : ℕ) → IsCell l g j → IsUnset l s.cells g j → (w.claim ≡ Some (cell g j)) ⊎ (v.claim ≢ Some (cell g j))) → Turn l mark s s i v w
  stays_turn w known front same sums sights claims =
      sights_turn s (λ q h. refl) refl (omega arith) refl w known front same sums sights
      (λ g j a unset. ⊎_elim
      (λ (e : w.claim ≡ Some (cell g j)). inl e)
      (λ (ne : v.claim ≢ Some (cell g j)). inr (unset, ne))
      (claims g j a unset))

  -- one word is written that was 0
  pub write_turn : (t : State) (q x : ℕ) → WritesWord q 0 x s t → t.history ≡ s.history → (w : View) → w.known ≡ (q, x) ∷ v.known → w.front ≡ t.history → Same w → Sums w → Sights w → ClaimsStay t w → Turn l mark s t i v w
  write_turn t q x wr log w known front same sums sights claims =
      let keeps : Keeps s.cells t.cells = keeps_at q s.cells t.cells wr.was wr.only in
      let current = wr.current in
      sights_turn t keeps log (omega arith) wr.count w
      (subst (λ (ks : List (ℕ × ℕ)). Keeps (look ks) t.cells) (sym known) (knows_more v.known t.cells q x wr.is (keeps_trans (look v.known) s.cells t.cells p.knows keeps)))
      front same sums sights claims

  same_claim : (w : View) → w.claim ≡ v.claim → (g j : ℕ) → (w.claim ≡ Some (cell g j)) ⊎ (v.claim ≢ Some (cell g j))
  same_claim w same g j = ⊎_elim (λ (e : v.claim ≡ Some (cell g j)). inl (same ∙ e)) (λ (ne : v.claim ≢ Some (cell g j)). inr ne) (claim_cases v.claim g j)

  pub sees_turn : (q n : ℕ) → s.cells q ≡ n → Turn l mark s s i v (sees v s.history q n)
  sees_turn q n is =
      stays_turn (sees v s.history q n) (knows_more v.known s.cells q n is p.knows) refl (refl, refl, refl, refl, refl, refl, refl, refl) (refl, refl) (refl, refl, refl)
      (λ g j a unset. same_claim (sees v s.history q n) refl g j)

  pub counts_seen_turn : Turn l mark s s i v (counts_seen v s.history s.count)
  counts_seen_turn =
      let w : View = counts_seen v s.history s.count in
      moves_turn s (λ q h. refl) refl (omega arith) refl w p.knows refl (refl, refl, refl, refl, refl, refl, refl, refl) (refl, refl) (omega arith) p.generation p.currents (filled_now [] s.history (append-nil s.history))
      (λ g j a unset. ⊎_elim
      (λ (e : w.claim ≡ Some (cell g j)). inl e)
      (λ (ne : v.claim ≢ Some (cell g j)). inr (unset, ne))
      (same_claim w refl g j))

  pub reads_turn : (g j n : ℕ) → IsCell l g j → s.cells (value_place l g j) ≡ n → Turn l mark s s i v (reads l v s.history g j n)
  reads_turn g j n a is =
      let w : View = reads l v s.history g j n in
      stays_turn w (knows_more v.known s.cells (value_place l g j) n is p.knows) refl (refl, refl, refl, refl, refl, refl, refl, refl) (refl, refl) (refl, refl, refl)
      (λ h k b unset. ⊎_elim
      (λ (e : v.claim ≡ Some (cell h k)). dite (ℕ_discrete n 0)
      (λ z. inl (subst (λ (t : Bool). (if t then v.claim else drop_claim v.claim g j) ≡ Some (cell h k)) (sym (eq-eqb n 0 z)) e))
      (λ nz. inl (subst (λ (t : Bool). (if t then v.claim else drop_claim v.claim g j) ≡ Some (cell h k)) (sym (ne_eqb n 0 nz))
      (drop_other v.claim g j h k e (λ same. nz (sym is ∙ (ap (λ (x : ℕ × ℕ). s.cells (value_place l x.0 x.1)) (λ t. (sym same.0 t, sym same.1 t)) ∙ unset.1)))))))
      (λ (ne : v.claim ≢ Some (cell h k)). inr ne)
      (claim_cases v.claim h k))

  -- a claim that was won
  pub grabs_turn : (t : State) (g j k : ℕ) → IsCell l g j → v.claim ≡ None → WritesWord (key_place l g j) 0 k s t → t.history ≡ s.history → Turn l mark s t i v (grabs l v t.history g j k)
  grabs_turn t g j k a free wr log =
      write_turn t (key_place l g j) k wr log (grabs l v t.history g j k) refl refl (refl, refl, refl, refl, refl, refl, refl, refl) (refl, refl) (refl, refl, refl)
      (λ h m b unset. dite (ℕ_discrete (key_place l h m) (key_place l g j))
      (λ e. let same = key_key l h m g j b a e in inl (λ x. Some (cell (sym same.0 x) (sym same.1 x))))
      (λ ne.
      let key = wr.only (key_place l h m) ne in
      let value = wr.only (value_place l h m) (value_key l h m g j) in
      inr ((subst IsWord key unset.0, sym value ∙ unset.1), (λ e. let bad : None ≡ Some (cell h m) = sym free ∙ e in absurd (cc)))))

  -- a value word was set, and the history is as it was
  pub value_turn : (t : State) (g j x : ℕ) → IsCell l g j → 0 < x → WritesWord (value_place l g j) 0 x s t → t.history ≡ s.history → Turn l mark s t i v (reads l v t.history g j x)
  value_turn t g j x a pos wr log =
      let w : View = reads l v t.history g j x in
      let set_there : w.claim ≡ drop_claim v.claim g j = ap (λ (b : Bool). if b then v.claim else drop_claim v.claim g j) (ne_eqb x 0 (λ e. omega arith)) in
      write_turn t (value_place l g j) x wr log w refl refl (refl, refl, refl, refl, refl, refl, refl, refl) (refl, refl) (refl, refl, refl)
      (λ h o b unset.
      let apart : (h ≡ g) × (o ≡ j) → ⊥ = λ same.
      let at : t.cells (value_place l h o) ≡ x = ap (λ (c : ℕ × ℕ). t.cells (value_place l c.0 c.1)) (λ c. (same.0 c, same.1 c)) ∙ wr.is in
      let zero_there = unset.1 in omega arith in
      let value = wr.only (value_place l h o) (λ same. apart (value_value l h o g j b a same)) in
      let key = wr.only (key_place l h o) (key_value l h o g j) in
      ⊎_elim
      (λ (c : v.claim ≡ Some (cell h o)). inl (set_there ∙ drop_other v.claim g j h o c apart))
      (λ (c : v.claim ≢ Some (cell h o)). inr ((subst IsWord key unset.0, sym value ∙ unset.1), c))
      (claim_cases v.claim h o))

  -- a publish that was won, of a new entry
  pub places_turn : (t : State) (g j k x : ℕ) → IsCell l g j → 0 < x → v.beside_numbers ≡ [] → WritesWord (value_place l g j) 0 x s t → t.history ≡ s.history ++ entry v.number k x ∷ []
      → Turn l mark s t i v (places l v t.history g j x (entry v.number k x))
  places_turn t g j k x a pos alone wr log =
      let e : Entry = entry v.number k x in
      let w : View = places l v t.history g j x e in
      let keeps : Keeps s.cells t.cells = keeps_at (value_place l g j) s.cells t.cells wr.was wr.only in
      let mine : is_in e.who (all_numbers v) ≡ true = in_first v.number v.numbers v.beside_numbers p.own in
      let new : by_any (all_numbers v) t.history ≡ by_any (all_numbers v) s.history ++ e ∷ [] =
      ap (by_any (all_numbers v)) log ∙ (by_append (all_numbers v) s.history (e ∷ []) ∙ ap (λ (y : List Entry). by_any (all_numbers v) s.history ++ y) (by_hit (all_numbers v) e [] mine)) in
      let more : length (v.uncounted ++ e ∷ []) ≡ length v.uncounted + 1 = length-append v.uncounted (e ∷ []) in
      let more_log : length t.history ≡ length s.history + 1 = ap (λ (y : List Entry). length y) log ∙ length-append s.history (e ∷ []) in
      let none : by_any v.beside_numbers (e ∷ []) ≡ [] = ap (λ (ns : List ℕ). by_any ns (e ∷ [])) alone in
      let n : ℕ = length v.uncounted in
      let m : ℕ = length s.history in
      let m' : ℕ = length t.history in
      let y : ℕ = length (v.uncounted ++ e ∷ []) in
      let z : ℕ = v.counted in
      let more' : y ≡ n + 1 = more in
      let more_log' : m' ≡ m + 1 = more_log in
      let back : PassAt l mark t i w = record {
        number = p.number;
        layout = p.layout;
        tag = p.tag;
        front = own_whole v.numbers t.history;
        beside = own_grows v.beside_numbers v.beside s.history (e ∷ []) t.history p.beside (sym log) none;
        knows = knows_more v.known t.cells (value_place l g j) x wr.is (keeps_trans (look v.known) s.cells t.cells p.knows keeps);
        own = p.own;
        tally =
            let lengths : length (by_any (all_numbers v) s.history ++ e ∷ []) ≡ length (by_any (all_numbers v) s.history) + 1 = length-append (by_any (all_numbers v) s.history) (e ∷ []) in
            let count : length (by_any (all_numbers v) s.history) ≡ z + n = p.tally in
            let q : ℕ = length (by_any (all_numbers v) s.history) in
            let q' : ℕ = length (by_any (all_numbers v) s.history ++ e ∷ []) in
            let l1 : q' ≡ q + 1 = lengths in
            let l2 : q ≡ z + n = count in
            let sum : q' ≡ z + y = omega arith in
            ap (λ (es : List Entry). length es) new ∙ sum;
        spare = p.spare;
        distinct = p.distinct;
        count_seen = subst (λ (c : ℕ). v.count_seen ≤ c) (sym wr.count) p.count_seen;
        generation = p.generation;
        currents = λ c h. let b = p.currents c h in (b.0, subst (λ (d : ℕ). c ≤ d) (sym wr.current) b.1);
        filled = filled_now (e ∷ []) t.history (sym log);
      } in
      record {
        keeps = keeps;
        current = let c = wr.current in omega arith;
        count = let c = wr.count in omega arith;
        added = e ∷ [];
        grows = sym log;
        mine = (p.number, tt);
        live = (live, live);
        numbers = refl;
        spare = refl;
        at = back;
        whole = refl;
        counted = ap (λ (c : ℕ). v.counted + c) (sym wr.count);
        placed = let sum : (z + y) + m ≡ (z + n) + m' = omega arith in sum;
        claims = λ h o b unset.
            let apart : (h ≡ g) × (o ≡ j) → ⊥ = λ same.
            let at : t.cells (value_place l h o) ≡ x = ap (λ (c : ℕ × ℕ). t.cells (value_place l c.0 c.1)) (λ c. (same.0 c, same.1 c)) ∙ wr.is in
            let zero_there = unset.1 in omega arith in
            let value = wr.only (value_place l h o) (λ same. apart (value_value l h o g j b a same)) in
            let key = wr.only (key_place l h o) (key_value l h o g j) in
            ⊎_elim
            (λ (c : v.claim ≡ Some (cell h o)). inl (drop_other v.claim g j h o c apart))
            (λ (c : v.claim ≢ Some (cell h o)). inr ((subst IsWord key unset.0, sym value ∙ unset.1), c))
            (claim_cases v.claim h o);
      }

  -- an empty key word was sealed
  pub seal_turn : (t : State) (g j : ℕ) → IsCell l g j → WritesWord (key_place l g j) 0 greatest s t → t.history ≡ s.history → Turn l mark s t i v (sees v t.history (key_place l g j) greatest)
  seal_turn t g j a wr log =
      let w : View = sees v t.history (key_place l g j) greatest in
      write_turn t (key_place l g j) greatest wr log w refl refl (refl, refl, refl, refl, refl, refl, refl, refl) (refl, refl) (refl, refl, refl)
      (λ h o b unset. dite (ℕ_discrete (key_place l h o) (key_place l g j))
      (λ e. let is : t.cells (key_place l h o) ≡ greatest = ap t.cells e ∙ wr.is in let lt = unset.0.1 in absurd (omega arith))
      (λ ne.
      let key = wr.only (key_place l h o) ne in
      let value = wr.only (value_place l h o) (value_key l h o g j) in
      ⊎_elim
      (λ (c : w.claim ≡ Some (cell h o)). inl c)
      (λ (c : v.claim ≢ Some (cell h o)). inr ((subst IsWord key unset.0, sym value ∙ unset.1), c))
      (same_claim w refl h o)))

  -- a block was finished
  pub finish_turn : (t : State) (g b : ℕ) → WritesWord (finish_place l g b) 0 1 s t → t.history ≡ s.history → Turn l mark s t i v (sees v t.history (finish_place l g b) 1)
  finish_turn t g b wr log =
      let w : View = sees v t.history (finish_place l g b) 1 in
      write_turn t (finish_place l g b) 1 wr log w refl refl (refl, refl, refl, refl, refl, refl, refl, refl) (refl, refl) (refl, refl, refl)
      (λ h o a unset.
      let key = wr.only (key_place l h o) (key_finish l h o g b a) in
      let value = wr.only (value_place l h o) (value_finish l h o g b a) in
      ⊎_elim
      (λ (c : w.claim ≡ Some (cell h o)). inl c)
      (λ (c : v.claim ≢ Some (cell h o)). inr ((subst IsWord key unset.0, sym value ∙ unset.1), c))
      (same_claim w refl h o))

  -- no word of a cell changes
  module _ (t : State) (cells : (q : ℕ) → t.cells q ≡ s.cells q) (log : t.history ≡ s.history) (current : s.current ≤ t.current) (count : t.count ≡ s.count) where
    same_cells : Keeps s.cells t.cells
    same_cells q h = cells q

    knows_still : Keeps (look v.known) t.cells
    knows_still = keeps_trans (look v.known) s.cells t.cells p.knows same_cells

    claims_still : (w : View) → w.claim ≡ v.claim → ClaimsStay t w
    claims_still w same g j a unset = ⊎_elim
        (λ (e : w.claim ≡ Some (cell g j)). inl e)
        (λ (ne : v.claim ≢ Some (cell g j)). inr ((subst IsWord (cells (key_place l g j)) unset.0, sym (cells (value_place l g j)) ∙ unset.1), ne))
        (same_claim w same g j)

    -- a step that tells no more than the history
    pub passes_turn : Turn l mark s t i v (passes_by v t.history)
    passes_turn = sights_turn t same_cells log current count (passes_by v t.history) knows_still refl (refl, refl, refl, refl, refl, refl, refl, refl) (refl, refl) (refl, refl, refl) (claims_still (passes_by v t.history) refl)

    -- the current generation was seen
    pub rises_turn : Within l t.current → HasFilled l t.current t.history → Turn l mark s t i v (rises v t.history t.current)
    rises_turn within filled =
        let w : View = rises v t.history t.current in
        let seen = p.count_seen in
        moves_turn t same_cells log current count w knows_still refl (refl, refl, refl, refl, refl, refl, refl, refl) (refl, refl) (omega arith)
        (in_hit t.current t.current v.currents refl)
        (λ c h. dite (ℕ_discrete c t.current)
        (λ e. let lo = within.0 in (omega arith, omega arith))
        (λ ne. let b = p.currents c (sym (in_miss c t.current v.currents ne) ∙ h) in let hi = b.1 in (b.0, omega arith)))
        filled (claims_still w refl)

  -- one entry is counted
  pub tallies_turn : (t : State) → ((q : ℕ) → t.cells q ≡ s.cells q) → t.history ≡ s.history → t.count ≡ s.count + 1 → t.current ≡ s.current → 0 < length v.uncounted → Turn l mark s t i v (tallies v t.history t.count)
  tallies_turn t cells log count current some_left =
      let w : View = tallies v t.history t.count in
      let keeps : Keeps s.cells t.cells = λ q h. cells q in
      let n : ℕ = length (all_but_first v.uncounted) in
      let m : ℕ = length v.uncounted in
      let one_less : n + 1 ≡ m = one_counted v.uncounted some_left in
      let z : ℕ = v.counted in
      let sum : (z + 1) + n ≡ z + m = omega arith in
      let back : PassAt l mark t i w = record {
        number = p.number;
        layout = p.layout;
        tag = p.tag;
        front = own_whole v.numbers t.history;
        beside = subst (λ (x : List Entry). StartsWithOwn v.beside_numbers v.beside x) (sym log) p.beside;
        knows = keeps_trans (look v.known) s.cells t.cells p.knows keeps;
        own = p.own;
        tally = ap (λ (x : List Entry). length (by_any (all_numbers v) x)) log ∙ (p.tally ∙ sym sum);
        spare = p.spare;
        distinct = p.distinct;
        count_seen = omega arith;
        generation = p.generation;
        currents = λ c h. let b = p.currents c h in (b.0, subst (λ (d : ℕ). c ≤ d) (sym current) b.1);
        filled = filled_now [] t.history (append-nil s.history ∙ sym log);
      } in
      record {
        keeps = keeps;
        current = omega arith;
        count = omega arith;
        added = [];
        grows = append-nil s.history ∙ sym log;
        mine = tt;
        live = (live, live);
        numbers = refl;
        spare = refl;
        at = back;
        whole = refl;
        counted = omega arith;
        placed = λ k. sum k + length (sym log k);
        claims = λ g j a unset. ⊎_elim
            (λ (c : v.claim ≡ Some (cell g j)). inl c)
            (λ (c : v.claim ≢ Some (cell g j)). inr ((subst IsWord (cells (key_place l g j)) unset.0, sym (cells (value_place l g j)) ∙ unset.1), c))
            (claim_cases v.claim g j);
      }
    where
      one_counted : (es : List Entry) → 0 < length es → length (all_but_first es) + 1 ≡ length es
      one_counted [] h = absurd (omega arith)
      one_counted (e ∷ es) h = omega arith

  -- a join settles
  pub settles_turn : Turn l mark s s i v (settles v s.history)
  settles_turn =
      let w : View = settles v s.history in
      let numbers : all_numbers w ≡ all_numbers v = append-nil (all_numbers v) in
      let back : PassAt l mark s i w = record {
        number = p.number;
        layout = p.layout;
        tag = p.tag;
        front = own_whole (all_numbers v) s.history;
        beside = record { rest = s.history; joins = refl; others = none_by s.history };
        knows = p.knows;
        own = in_first v.number v.numbers v.beside_numbers p.own;
        tally = ap (λ (ns : List ℕ). length (by_any ns s.history)) numbers ∙ p.tally;
        spare = p.spare;
        distinct = subst Rattle.map_core.specs.Passes.Distinct (sym numbers) p.distinct;
        count_seen = p.count_seen;
        generation = p.generation;
        currents = p.currents;
        filled = filled_now [] s.history (append-nil s.history);
      } in
      record {
        keeps = λ q h. refl;
        current = omega arith;
        count = omega arith;
        added = [];
        grows = append-nil s.history;
        mine = tt;
        live = (live, live);
        numbers = numbers;
        spare = refl;
        at = back;
        whole = refl;
        counted = refl;
        placed = refl;
        claims = λ g j a unset. ⊎_elim
            (λ (c : v.claim ≡ Some (cell g j)). inl c)
            (λ (c : v.claim ≢ Some (cell g j)). inr (unset, c))
            (claim_cases v.claim g j);
      }
    where
      none_by : (es : List Entry) → by_any [] es ≡ []
      none_by [] = refl
      none_by (e ∷ es) = none_by es
