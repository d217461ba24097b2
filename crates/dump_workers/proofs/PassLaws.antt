-- The passes of seats: what a dump keeps of them, and what a join of two leaves.
use Rattle.std.specs.Prelude.{◌≡◌, ◌≢◌, ◌⊎◌, refl, ℕ, zero, suc, ◌+◌, ◌-◌, ◌≤◌, ◌<◌, true, false, nat_le, List, [], ◌∷◌, ◌++◌, length, map, drop, slice_index_or, Contains, Option, None, Result, Ok, Err, IfOk, IsOk}
use Rattle.std.proofs.Common.{arith, sym, ap, ◌∙◌, subst, inl, inr, ⊎_elim, le-leb, length-append}
use Rattle.std.proofs.lemmas.Bool.{leb-true}
use Rattle.std.proofs.lemmas.List.{map-append}
use Rattle.std.proofs.lemmas.List.Elements.{All-contains, Contains-append_cases}
use mathlib.Core.Logic.{dite}
use native.Mathlib.Decide.{ℕ_discrete}
use Rattle.abbrev_decl.specs.Lookup.{Extends, Notes}
use Rattle.elf_sections.specs.Shapes.{SectionsView}
use Rattle.entry_tree.specs.Keys.{GainsOnly}
use Rattle.entry_tree.proofs.KeyLaws.{Notes-later}
use Rattle.map_core.specs.declared.entry.Entry.{Entry}
use Rattle.map_core.specs.declared.layout.Layout.{Layout}
use Rattle.map_core.specs.History.{StartsWith, by_any, is_in}
use Rattle.map_core.specs.Calls.{own}
use Rattle.map_core.specs.Passes.{AtRest}
use Rattle.map_core.proofs.CountLemmas.{in_hit, in_miss}
use Rattle.map_core.proofs.HistoryLemmas.{by_hit, by_miss, test_cases}
use Rattle.map_cells.specs.Passing.{IsJoined}
use Rattle.map_cells.specs.Seen.{PassView, Continues, IsOf}
use Rattle.share_map.specs.Answers.{PutTogether}
use Rattle.unit_headers.specs.Headers.{unit_count}
use Rattle.unit_text.specs.Pieces.{Text}
use Rattle.handle_cache.specs.Handles.{Belongs, HandleView, front_keys, is_spent, own_keys}
use Rattle.dump_workers.specs.declared.ends.DumpEnd.{DumpEnd}
use Rattle.dump_workers.specs.declared.ends.DumpEnd.TheVariants.{Whole, Refused}
use Rattle.dump_workers.specs.declared.ends.DumpFault.{DumpFault}
use Rattle.dump_workers.specs.Dumps.{Ends, WholeRefusesNone, dump_from, dump_of, unit_dumped}
use Rattle.dump_workers.specs.FileKeys.{IsFileKey, RefusesNone}
use Rattle.dump_workers.specs.Passes.{AreLed, EachAtZero, EachHasFront, EachOwnsOnly, HasAllPasses, HaveAllPasses, KeepsPasses, NoneIsFirst, pass_count}
use Rattle.dump_workers.specs.Seats.{DumpSeatView, EachBelongs, EachFollows, EachGains, SeatsNoteFile, SomeSeatNotes}
use Rattle.dump_workers.specs.TableKeys.{HoldsFile, OwnsOnly}
use Rattle.dump_workers.specs.UnitDumps.{unit_dump}
use Rattle.dump_workers.proofs.KeyLists.{contains_in, in_contains, in_either}

-- # What a dump keeps

none_first : (xs ys : List DumpSeatView) → EachFollows xs ys → NoneIsFirst xs → NoneIsFirst ys
none_first [] [] f none = tt
none_first [] (y ∷ ys) f none = absurd f
none_first (x ∷ xs) [] f none = absurd f
none_first (x ∷ xs) (y ∷ ys) f none = (λ is. none.0 (sym f.0.number ∙ is), none_first xs ys f.1 none.1)

led_later : (xs ys : List DumpSeatView) → EachFollows xs ys → AreLed xs → AreLed ys
led_later [] ys f led = absurd led
led_later (x ∷ xs) [] f led = absurd f
led_later (x ∷ xs) (y ∷ ys) f led = (f.0.number ∙ led.0, none_first xs ys f.1 led.1)

same_count : (xs ys : List DumpSeatView) → EachFollows xs ys → pass_count ys ≡ pass_count xs
same_count [] [] f = refl
same_count [] (y ∷ ys) f = absurd f
same_count (x ∷ xs) [] f = absurd f
same_count (x ∷ xs) (y ∷ ys) f =
    let here : length y.pass.knows.numbers ≡ length x.pass.knows.numbers = ap length f.0.numbers in
    let rest : pass_count ys ≡ pass_count xs = same_count xs ys f.1 in omega (arith, here, rest)

all_later : (xs ys : List DumpSeatView) → EachFollows xs ys → HaveAllPasses xs → HaveAllPasses ys
all_later [] ys f all = absurd all
all_later (x ∷ xs) [] f all = absurd f
all_later (x ∷ xs) (y ∷ ys) f all =
    same_count (x ∷ xs) (y ∷ ys) f ∙ all
    ∙ (let passes : y.pass.knows.layout.passes ≡ x.pass.knows.layout.passes = ap (λ (l : Layout). l.passes) f.0.layout in
    let spare : y.pass.knows.spare ≡ x.pass.knows.spare = f.0.spare in omega (arith, passes, spare))

pub passes_kept : (xs ys : List DumpSeatView) → EachFollows xs ys → KeepsPasses xs ys
passes_kept xs ys f = record { led = led_later xs ys f; all = all_later xs ys f }

owns_later : (s : SectionsView) (p q : PassView) → GainsOnly (IsFileKey s) (own_keys p) (own_keys q) → OwnsOnly s p → OwnsOnly s q
owns_later s p q gains owns k there = ⊎_elim
    (λ (old : Contains (own_keys p) k). owns k old)
    (λ (new : Contains gains.more k). All-contains (IsFileKey s) gains.more k gains.each new)
    (Contains-append_cases (own_keys p) gains.more k (subst (λ (ks : List ℕ). Contains ks k) gains.is there))

pub each_owns : (s : SectionsView) (xs ys : List DumpSeatView) → EachGains s xs ys → RefusesNone s → EachOwnsOnly s xs → EachOwnsOnly s ys
each_owns s [] [] gains none owns = tt
each_owns s [] (y ∷ ys) gains none owns = absurd gains
each_owns s (x ∷ xs) [] gains none owns = absurd gains
each_owns s (x ∷ xs) (y ∷ ys) gains none owns = (owns_later s x.pass y.pass (gains.0.gains none) owns.0, each_owns s xs ys gains.1 none owns.1)

-- a dump that refuses no unit
none_in : (s : SectionsView) (start n : ℕ) → None ≡ (dump_from s start n).refused → (unit : ℕ) → start ≤ unit → unit < start + n → IsOk (unit_dump s unit)
unfolding dump_from
none_in s start zero is unit low high = absurd (omega (arith, low, high))
none_in s start (suc n) is unit low high = here (unit_dump s start) refl (none_in s (start + 1) n) is
  where
    here : (text : Text) → unit_dump s start ≡ text
        → (None ≡ (dump_from s (start + 1) n).refused → (u : ℕ) → start + 1 ≤ u → u < start + 1 + n → IsOk (unit_dump s u))
        → None ≡ (unit_dumped start text (dump_from s (start + 1) n)).refused → IsOk (unit_dump s unit)
    here (Ok t) text behind rest =
        dite (ℕ_discrete unit start)
        (λ same. subst (λ (u : ℕ). IsOk (unit_dump s u)) (sym same) (subst IsOk (sym text) refl))
        (λ isnt. behind rest unit (omega (arith, low, isnt)) (omega (arith, high)))
    here (Err f) text behind rest = absurd (cc)

pub whole_none : (s : SectionsView) (r : Result DumpEnd DumpFault) (old new : Option (List ℕ)) → Ends r (dump_of s) old new → IfOk r (WholeRefusesNone s)
unfolding dump_of
whole_none s (Ok (Whole w)) old new ends = λ unit counted. none_in s 0 (unit_count s.info s.order) ends.0 unit (omega arith) (omega (arith, counted))
whole_none s (Ok (Refused unit fault)) old new ends = tt
whole_none s (Err fault) old new ends = tt

-- # What a join leaves

abbrev keys_in : List Entry → List ℕ
keys_in es = map (λ (e : Entry). e.key) es

in_more : (k : ℕ) (e : Entry) (ns : List ℕ) (es : List Entry) → is_in k (keys_in (by_any ns es)) ≡ true → is_in k (keys_in (by_any ns (e ∷ es))) ≡ true
in_more k e ns es there = ⊎_elim
    (λ (t : is_in e.who ns ≡ true). ap (λ (xs : List Entry). is_in k (keys_in xs)) (by_hit ns e es t)
    ∙ dite (ℕ_discrete k e.key) (λ same. in_hit k e.key (keys_in (by_any ns es)) same)
    (λ isnt. in_miss k e.key (keys_in (by_any ns es)) isnt ∙ there))
    (λ (f : is_in e.who ns ≡ false). ap (λ (xs : List Entry). is_in k (keys_in xs)) (by_miss ns e es f) ∙ there)
    (test_cases (is_in e.who ns))

in_front : (k : ℕ) (e : Entry) (ns : List ℕ) (es : List Entry) → k ≡ e.key → is_in e.who ns ≡ true → is_in k (keys_in (by_any ns (e ∷ es))) ≡ true
in_front k e ns es same t = ap (λ (xs : List Entry). is_in k (keys_in xs)) (by_hit ns e es t) ∙ in_hit k e.key (keys_in (by_any ns es)) same

-- what is by the passes of two lists is by those of one of them
by_either : (k : ℕ) (ns ms : List ℕ) (es : List Entry) → is_in k (keys_in (by_any (ns ++ ms) es)) ≡ true
    → (is_in k (keys_in (by_any ns es)) ≡ true) ⊎ (is_in k (keys_in (by_any ms es)) ≡ true)
by_either k ns ms [] there = inl there
by_either k ns ms (e ∷ es) there = ⊎_elim
    (λ (t : is_in e.who (ns ++ ms) ≡ true).
    let inside : is_in k (e.key ∷ keys_in (by_any (ns ++ ms) es)) ≡ true = sym (ap (λ (xs : List Entry). is_in k (keys_in xs)) (by_hit (ns ++ ms) e es t)) ∙ there in
    dite (ℕ_discrete k e.key)
    (λ same. ⊎_elim
    (λ (mine : is_in e.who ns ≡ true). inl (in_front k e ns es same mine))
    (λ (theirs : is_in e.who ms ≡ true). inr (in_front k e ms es same theirs))
    (in_either e.who ns ms t))
    (λ isnt. later (by_either k ns ms es (sym (in_miss k e.key (keys_in (by_any (ns ++ ms) es)) isnt) ∙ inside))))
    (λ (f : is_in e.who (ns ++ ms) ≡ false).
    later (by_either k ns ms es (sym (ap (λ (xs : List Entry). is_in k (keys_in xs)) (by_miss (ns ++ ms) e es f)) ∙ there)))
    (test_cases (is_in e.who (ns ++ ms)))
  where
    later : (is_in k (keys_in (by_any ns es)) ≡ true) ⊎ (is_in k (keys_in (by_any ms es)) ≡ true)
        → (is_in k (keys_in (by_any ns (e ∷ es))) ≡ true) ⊎ (is_in k (keys_in (by_any ms (e ∷ es))) ≡ true)
    later (inl mine) = inl (in_more k e ns es mine)
    later (inr theirs) = inr (in_more k e ms es theirs)

module _ (p q r : PassView) (together : PutTogether p.knows q.knows r.knows) (numbers : r.knows.numbers ≡ p.knows.numbers ++ q.knows.numbers) where
  pub joined_owns : (s : SectionsView) → OwnsOnly s p → OwnsOnly s q → OwnsOnly s r
  joined_owns s mine theirs k there =
      let inside : is_in k (keys_in (by_any (p.knows.numbers ++ q.knows.numbers) r.knows.front)) ≡ true =
      ap (λ (ns : List ℕ). is_in k (keys_in (by_any ns r.knows.front))) (sym numbers) ∙ contains_in (own_keys r) k there in
      ⊎_elim
      (λ (a : is_in k (keys_in (by_any p.knows.numbers r.knows.front)) ≡ true).
      mine k (in_contains (own_keys p) k (ap (λ (es : List Entry). is_in k (keys_in es)) (sym together.first) ∙ a)))
      (λ (b : is_in k (keys_in (by_any q.knows.numbers r.knows.front)) ≡ true).
      theirs k (in_contains (own_keys q) k (ap (λ (es : List Entry). is_in k (keys_in es)) (sym together.second) ∙ b)))
      (by_either k p.knows.numbers q.knows.numbers r.knows.front inside)

-- a front that begins another leaves its keys in it
longer_keys : (a b : List Entry) → StartsWith a b → Extends (keys_in a) (keys_in b)
longer_keys a b starts = record {
  more = keys_in starts.rest;
  is = sym (ap keys_in starts.joins) ∙ map-append (λ (e : Entry). e.key) a starts.rest;
}

longer_spent : (p r : PassView) → r.knows.layout ≡ p.knows.layout → StartsWith p.knows.front r.knows.front → is_spent p ≡ true → is_spent r ≡ true
longer_spent p r layout starts full =
    let m : ℕ = length p.knows.front in
    let n : ℕ = length r.knows.front in
    let more : ℕ = length starts.rest in
    let room : ℕ = p.knows.layout.capacity in
    let joined : n ≡ m + more = sym (ap (λ (x : List Entry). length x) starts.joins) ∙ length-append p.knows.front starts.rest in
    let there : room ≤ m = leb-true room m full in
    subst (λ (l : Layout). nat_le l.capacity n ≡ true) (sym layout) (le-leb room n (omega arith))

pub joined_notes : (p r : PassView) (k : ℕ) → r.knows.layout ≡ p.knows.layout → StartsWith p.knows.front r.knows.front
    → Notes (front_keys p) (is_spent p) k → Notes (front_keys r) (is_spent r) k
joined_notes p r k layout starts notes =
    Notes-later (front_keys p) (front_keys r) (is_spent p) (is_spent r) k (longer_keys p.knows.front r.knows.front starts) (longer_spent p r layout starts) notes

-- # Seats that are split off

pub belong_push : (h : HandleView) (xs : List DumpSeatView) (x : DumpSeatView) → EachBelongs h xs → Belongs h x.pass → EachBelongs h (xs ++ x ∷ [])
belong_push h [] x all one = (one, tt)
belong_push h (y ∷ ys) x all one = (all.0, belong_push h ys x all.1 one)

pub others_push : (xs : List DumpSeatView) (x : DumpSeatView) → NoneIsFirst xs → x.pass.knows.number ≢ 0 → NoneIsFirst (xs ++ x ∷ [])
others_push [] x all one = (one, tt)
others_push (y ∷ ys) x all one = (all.0, others_push ys x all.1 one)

pub count_push : (xs : List DumpSeatView) (x : DumpSeatView) → length x.pass.knows.numbers ≡ 1 → pass_count (xs ++ x ∷ []) ≡ pass_count xs + 1
count_push [] x one = omega (arith, one)
count_push (y ∷ ys) x one = let rest = count_push ys x one in omega (arith, rest)

pub fronts_push : (front : List Entry) (xs : List DumpSeatView) (x : DumpSeatView) → EachHasFront front xs → x.pass.knows.front ≡ front → EachHasFront front (xs ++ x ∷ [])
fronts_push front [] x all one = (one, tt)
fronts_push front (y ∷ ys) x all one = (all.0, fronts_push front ys x all.1 one)

pub zero_push : (xs : List DumpSeatView) (x : DumpSeatView) → EachAtZero xs → x.steps ≡ 0 → EachAtZero (xs ++ x ∷ [])
zero_push [] x all one = (one, tt)
zero_push (y ∷ ys) x all one = (all.0, zero_push ys x all.1 one)

pub only_push : (s : SectionsView) (xs : List DumpSeatView) (x : DumpSeatView) → EachOwnsOnly s xs → OwnsOnly s x.pass → EachOwnsOnly s (xs ++ x ∷ [])
only_push s [] x all one = (one, tt)
only_push s (y ∷ ys) x all one = (all.0, only_push s ys x all.1 one)

-- a new pass has placed nothing
pub owns_none : (s : SectionsView) (p : PassView) → own p.knows ≡ [] → OwnsOnly s p
owns_none s p none k there = absurd (let inside : Contains {X = ℕ} [] k = subst (λ (es : List Entry). Contains (keys_in es) k) none there in let low : inside.0 < 0 = inside.1 in omega (arith, low))

-- own entries are those of the front by the pass's numbers
pub owns_same : (s : SectionsView) (p q : PassView) → q.knows.numbers ≡ p.knows.numbers → q.knows.front ≡ p.knows.front → OwnsOnly s p → OwnsOnly s q
owns_same s p q numbers front owns k there =
    owns k (subst (λ (es : List Entry). Contains (keys_in es) k) ((λ i. by_any (numbers i) (front i))) there)

-- # A pass and the seats that aren't joined into it yet

-- together they stand for all seats
pub record StandFor (h : HandleView) (all : List DumpSeatView) (p : PassView) (left : List DumpSeatView) : Type 0 where
  pub belongs : Belongs h p
  pub number : p.knows.number ≡ 0
  pub others : EachBelongs h left
  pub behind : NoneIsFirst left
  pub total : length p.knows.numbers + pass_count left ≡ pass_count all
  pub count : HaveAllPasses all → length p.knows.numbers + pass_count left ≡ p.knows.layout.passes - p.knows.spare
  pub only : (s : SectionsView) → EachOwnsOnly s all → OwnsOnly s p × EachOwnsOnly s left
  pub notes : (k : ℕ) → SomeSeatNotes k all → Notes (front_keys p) (is_spent p) k ⊎ SomeSeatNotes k left

-- the first seat's pass, and the seats behind it
pub stand_first : (h : HandleView) (all : List DumpSeatView) (first : DumpSeatView) (p : PassView) → EachBelongs h all → AreLed all
    → first ≡ slice_index_or all 0 first → p ≡ first.pass → StandFor h all p (drop 1 all)
stand_first h [] first p belong led at is = absurd led
stand_first h (x ∷ xs) first p belong led at is =
    let same : x.pass ≡ p = sym (is ∙ ap (λ (v : DumpSeatView). v.pass) at) in
    subst (λ (q : PassView). StandFor h (x ∷ xs) q xs) same (record {
      belongs = belong.0;
      number = led.0;
      others = belong.1;
      behind = led.1;
      total = refl;
      count = λ all. all;
      only = λ s owns. owns;
      notes = λ k notes. notes;
    })

-- one seat more is joined
pub stand_next : (fits : List ℕ → ℕ → ℕ → Type 0) (h : HandleView) (all left : List DumpSeatView) (x : DumpSeatView) (p q r : PassView) → q ≡ x.pass → StandFor h all p (x ∷ left)
    → IsOf h.table r → AtRest r.knows → Continues p r → IsJoined fits p.knows q.knows r.knows → PutTogether p.knows q.knows r.knows → StandFor h all r left
stand_next fits h all left x p q r is stand of_table rest continues joined together =
    let belongs : Belongs h q = subst (Belongs h) (sym is) stand.others.0 in
    let theirs : r.knows.layout ≡ q.knows.layout = of_table.layout ∙ sym belongs.of_table.layout in
    record {
      belongs = record { of_table = of_table; rest = rest };
      number = continues.number ∙ stand.number;
      others = stand.others.1;
      behind = stand.behind.1;
      total =
          let numbers : length r.knows.numbers ≡ length p.knows.numbers + length q.knows.numbers
          = ap length joined.joins.numbers ∙ length-append p.knows.numbers q.knows.numbers in
          let same : length q.knows.numbers ≡ length x.pass.knows.numbers = ap (λ (v : PassView). length v.knows.numbers) is in
          let before = stand.total in omega (arith, before, numbers, same);
      count = λ all_passes.
          let before : length p.knows.numbers + (length x.pass.knows.numbers + pass_count left) ≡ p.knows.layout.passes - p.knows.spare = stand.count all_passes in
          let numbers : length r.knows.numbers ≡ length p.knows.numbers + length q.knows.numbers
          = ap length joined.joins.numbers ∙ length-append p.knows.numbers q.knows.numbers in
          let same : length q.knows.numbers ≡ length x.pass.knows.numbers = ap (λ (v : PassView). length v.knows.numbers) is in
          let passes : r.knows.layout.passes ≡ p.knows.layout.passes = ap (λ (l : Layout). l.passes) continues.layout in
          let spare : r.knows.spare ≡ p.knows.spare = joined.joins.spare in omega (arith, before, numbers, same, passes, spare);
      only = λ s owns.
          let before = stand.only s owns in (
            joined_owns p q r together joined.joins.numbers s before.0 (subst (OwnsOnly s) (sym is) before.1.0),
            before.1.1,
          );
      notes = λ k noted. next_notes k theirs (stand.notes k noted);
    }
  where
    next_notes : (k : ℕ) → r.knows.layout ≡ q.knows.layout → Notes (front_keys p) (is_spent p) k ⊎ SomeSeatNotes k (x ∷ left) → Notes (front_keys r) (is_spent r) k ⊎ SomeSeatNotes k left
    next_notes k theirs (inl mine) = inl (joined_notes p r k continues.layout continues.front mine)
    next_notes k theirs (inr (inl here)) =
        inl (joined_notes q r k theirs record { rest = joined.joins.theirs.rest; joins = joined.joins.theirs.joins }
        (subst (λ (v : PassView). Notes (front_keys v) (is_spent v) k) (sym is) here))
    next_notes k theirs (inr (inr there)) = inr there

-- none is left
pub stand_last : (h : HandleView) (all left : List DumpSeatView) (p : PassView) → length left ≡ 0 → StandFor h all p left → (s : SectionsView) → EachOwnsOnly s all → SeatsNoteFile s all → HoldsFile s p
stand_last h all [] p none stand s owns notes = record {
  only = (stand.only s owns).0;
  each = λ k uses. ⊎_elim (λ (mine : Notes (front_keys p) (is_spent p) k). mine) (λ (there : SomeSeatNotes k []). absurd there) (stand.notes k (notes k uses));
}
stand_last h all (x ∷ xs) p none stand s owns notes = absurd (omega (arith, none))

pub total_last : (h : HandleView) (all left : List DumpSeatView) (p : PassView) → length left ≡ 0 → StandFor h all p left → length p.knows.numbers ≡ pass_count all
total_last h all [] p none stand = let total = stand.total in omega (arith, total)
total_last h all (x ∷ xs) p none stand = absurd (omega (arith, none))

pub all_last : (h : HandleView) (all left : List DumpSeatView) (p : PassView) → length left ≡ 0 → StandFor h all p left → HaveAllPasses all → HasAllPasses p.knows
all_last h all [] p none stand passes = let count = stand.count passes in omega (arith, count)
all_last h all (x ∷ xs) p none stand passes = absurd (omega (arith, none))
