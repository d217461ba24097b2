-- What reading a unit leaves of a pass, in the keys that the unit uses.
use Rattle.std.specs.Prelude.{◌≡◌, ◌⊎◌, refl, ℕ, ◌<◌, ◌^◌, Bool, true, List, [], ◌∷◌, Contains, Option, Some, None, Result, Ok, Err, IfOk, IsOk}
use Rattle.std.proofs.Common.{sym, ap, ◌∙◌, subst, inl, inr}
use Rattle.dw_fields.specs.declared.fault_code.Fault.{Fault}
use Rattle.dw_fields.specs.Span.{Span, at}
use Rattle.dw_fields.specs.Reading.{◌>>=◌}
use Rattle.dw_fields.specs.ReaderLaws.{next-IfOk}
use Rattle.abbrev_decl.specs.Lookup.{Notes, first_declaration, key}
use Rattle.elf_sections.specs.Shapes.{SectionsView}
use Rattle.form_values.specs.declared.raw.Widths.{Widths}
use Rattle.form_values.specs.View.{widths_of}
use Rattle.unit_headers.specs.declared.header.UnitHeader.{UnitHeader}
use Rattle.unit_headers.specs.Headers.{unit_count}
use Rattle.entry_tree.specs.declared.first.RootCode.{RootCode}
use Rattle.entry_tree.specs.Entries.{attrs_at, coded_at, found_at, root_coded, root_in}
use Rattle.entry_tree.specs.Keys.{GainsOnly, HasRootCode, IsKeyAmong, IsRootKeyOf, KeysKnown, KeysNoted}
use Rattle.entry_tree.specs.Units.{BeginsWith, IsFirstEntry, area_of, entries_of, facts_of, root_code_of, root_of, unit_header}
use Rattle.entry_tree.specs.Views.{EntryView}
use Rattle.entry_tree.proofs.KeyLaws.{GainsOnly-then, GainsOnly-weaker, GainsOnly-same}
use Rattle.map_cells.specs.Seen.{PassView, Follows}
use Rattle.handle_cache.specs.Handles.{HasWords, IsFactKey, IsWordKey, front_keys, is_spent, own_keys}
use Rattle.handle_cache.proofs.Calls.{still_held, still_noted}
use Rattle.dump_workers.specs.FileKeys.{AreSmallCodes, IsEntryKey, IsFileKey, IsUnitKey, KnowsFile, NotesUnit, GainsUnits, CountsUnits, RefusesNone}
use Rattle.unit_text.specs.Pieces.{Text}
use Rattle.unit_text.specs.UnitStreams.{streamed_unit}
use Rattle.unit_text.specs.UnitView.{UnitView, unit_of}
use Rattle.unit_text.specs.Units.{read_unit_text}
use Rattle.dump_workers.specs.UnitDumps.{unit_dump}

any : {A : Type 0} (r : Result A Fault) → IfOk r (λ x. Unit {0})
any (Ok x) = tt
any (Err f) = tt

-- # The root's key is that of an entry

coded_code : (section : List ℕ) (table : ℕ) (widths : Widths) (depth place code : ℕ) (s : Span) → IfOk (coded_at section table widths depth place code s) (λ r. r.0.1.code ≡ code)
unfolding coded_at
coded_code section table widths depth place code s =
    next-IfOk (λ d. Unit {0}) (λ r. r.0.1.code ≡ code) (found_at place (first_declaration section table code)) _ (any _) (λ d u.
    next-IfOk (λ d. Unit {0}) (λ r. r.0.1.code ≡ code) (attrs_at widths d.pairs s) _ (any _) (λ attrs v. refl))

begun_among : (table code k : ℕ) (entries : List EntryView) (entry : EntryView) → entry.code ≡ code → code < 2 ^ 32 → k ≡ key table code
    → BeginsWith entry entries → IsKeyAmong table entries k
begun_among table code k entries entry same small is begins =
    rw begins.is (inl (rw same small, is ∙ ap (key table) (sym same)))

no_error : (entries : List EntryView) (f : Fault) → ◌≡◌ {A = Result (List EntryView) Fault} (Ok entries) (Err f) → ⊥
no_error entries f e = cc

rooted_among : (table code k : ℕ) (coded : Result ((Bool × EntryView) × ℕ) Fault) (entries : List EntryView)
    → IfOk coded (λ r. r.0.1.code ≡ code) → code < 2 ^ 32 → k ≡ key table code
    → IsFirstEntry (coded >>= (λ entry. Ok (Some (entry.0.1, entry.1)))) (Ok entries) → IsKeyAmong table entries k
rooted_among table code k (Ok read) entries same small is first = begun_among table code k entries read.0.1 same small is first
rooted_among table code k (Err f) entries same small is first = absurd (no_error entries f first)

root_among_of : (section : List ℕ) (table : ℕ) (widths : Widths) (s : Span) (code k : ℕ) (first : Result (Option RootCode) Fault) (entries : List EntryView)
    → HasRootCode first code → code < 2 ^ 32 → k ≡ key table code
    → IsFirstEntry (first >>= root_coded section table widths s) (Ok entries) → IsKeyAmong table entries k
root_among_of section table widths s code k (Ok (Some root)) entries has small is first =
    rooted_among table code k (coded_at section table widths 0 root.place root.code (at s root.next)) entries
    (subst (λ (c : ℕ). IfOk (coded_at section table widths 0 root.place root.code (at s root.next)) (λ r. r.0.1.code ≡ c)) has
    (coded_code section table widths 0 root.place root.code (at s root.next))) small is first
root_among_of section table widths s code k (Ok None) entries has small is first = absurd has
root_among_of section table widths s code k (Err f) entries has small is first = absurd has

root_among : (s : SectionsView) (header : UnitHeader) (k : ℕ) (read : Result (List EntryView) Fault) (entries : List EntryView) → read ≡ Ok entries
    → IsFirstEntry (root_of s header) read → IsRootKeyOf header.«abbrev» (root_code_of s header) k → IsKeyAmong header.«abbrev» entries k
unfolding root_in
root_among s header k read entries is first root =
    root_among_of s.«abbrev» header.«abbrev» (widths_of header) (area_of s header) root.code k (root_code_of s header) entries root.has root.small root.is (rw is at first)

-- # What is read of a unit

module _ (s : SectionsView) (unit : ℕ) (header : UnitHeader) (entries : List EntryView)
    (header_is : unit_header s unit ≡ Ok header) (entries_are : entries_of s header ≡ Ok entries) where
  among_unit : (k : ℕ) → IsKeyAmong header.«abbrev» entries k → IsUnitKey s unit k
  among_unit k among = inr (record { header = header; entries = entries; header_is = header_is; entries_are = entries_are; among = among })

  same_header : (other : UnitHeader) → unit_header s unit ≡ Ok other → header ≡ other
  same_header other is = let both : ◌≡◌ {A = Result UnitHeader Fault} (Ok header) (Ok other) = sym header_is ∙ is in cc

  fact_unit : IsFirstEntry (root_of s header) (entries_of s header) → (k : ℕ) → IsFactKey s unit k → IsUnitKey s unit k
  fact_unit first k (inl word) = inl word
  fact_unit first k (inr root) =
      among_unit k (root_among s header k (entries_of s header) entries entries_are first
      (subst (λ (h : UnitHeader). IsRootKeyOf h.«abbrev» (root_code_of s h) k) (sym (same_header root.header root.header_is)) root.root))

  -- own entries gain keys of the unit
  pub unit_gains : (old mid new : List ℕ) → IsFirstEntry (root_of s header) (entries_of s header)
      → GainsOnly (IsFactKey s unit) old mid → GainsOnly (IsKeyAmong header.«abbrev» entries) mid new → GainsOnly (IsUnitKey s unit) old new
  unit_gains old mid new first facts among =
      GainsOnly-then (IsUnitKey s unit) old mid new
      (GainsOnly-weaker (IsFactKey s unit) (IsUnitKey s unit) old mid (fact_unit first) facts)
      (GainsOnly-weaker (IsKeyAmong header.«abbrev» entries) (IsUnitKey s unit) mid new among_unit among)

  -- each key of the unit is noted
  among_noted : (seen : List ℕ) (spent : Bool) (table : ℕ) (es : List EntryView) (k : ℕ) → KeysNoted seen spent table es → IsKeyAmong table es k → Notes seen spent k
  among_noted seen spent table [] k noted among = absurd among
  among_noted seen spent table (e ∷ es) k noted (inl here) = rw here.1 (noted.0 here.0)
  among_noted seen spent table (e ∷ es) k noted (inr there) = among_noted seen spent table es k noted.1 there

  word_noted : (p : PassView) (k : ℕ) → HasWords (front_keys p) unit 8 ⊎ (is_spent p ≡ true) → IsWordKey unit k → Notes (front_keys p) (is_spent p) k
  word_noted p k (inl has) word = inl (rw word.is (has word.word word.inside))
  word_noted p k (inr spent) word = inr spent

  entry_noted : (p : PassView) (k : ℕ) → KeysNoted (front_keys p) (is_spent p) header.«abbrev» entries → IsEntryKey s unit k → Notes (front_keys p) (is_spent p) k
  entry_noted p k noted e =
      let same : header ≡ e.header = same_header e.header e.header_is in
      let both : ◌≡◌ {A = Result (List EntryView) Fault} (Ok entries) (Ok e.entries) = sym entries_are ∙ ap (entries_of s) same ∙ e.entries_are in
      let alike : entries ≡ e.entries = cc in
      among_noted (front_keys p) (is_spent p) header.«abbrev» entries k noted
      (subst (λ (h : UnitHeader). IsKeyAmong h.«abbrev» entries k) (sym same) (subst (λ (es : List EntryView). IsKeyAmong e.header.«abbrev» es k) (sym alike) e.among))

  pub unit_noted : (p q : PassView) → Follows p q → HasWords (front_keys p) unit 8 ⊎ (is_spent p ≡ true)
      → KeysNoted (front_keys q) (is_spent q) header.«abbrev» entries → NotesUnit s unit q
  unit_noted p q f words noted k (inl word) = still_noted p q k f (word_noted p k words word)
  unit_noted p q f words noted k (inr e) = entry_noted q k noted e

  -- where the pass knew all, nothing is counted
  all_known : (seen : List ℕ) (table : ℕ) (es : List EntryView) → AreSmallCodes es → ((k : ℕ) → IsKeyAmong table es k → Contains seen k) → KeysKnown seen table es
  all_known seen table [] small has = tt
  all_known seen table (e ∷ es) small has = (
    small.0,
    has (key table e.code) (inl (small.0, refl)),
    all_known seen table es small.1 (λ k among. has k (inr among)),
  )

  entries_count : (p q : PassView) (mid after : ℕ) → unit < unit_count s.info s.order → Follows p q
      → (KeysKnown (front_keys q) header.«abbrev» entries → after ≡ mid) → KnowsFile s (front_keys p) → after ≡ mid
  entries_count p q mid after counted f area knows =
      area (all_known (front_keys q) header.«abbrev» entries (knows.codes unit header entries counted header_is entries_are)
      (λ k among. still_held p q k f (knows.keys k (record { unit = unit; counted = counted; uses = among_unit k among }))))

-- where the pass knew all, asking for the unit's facts counts nothing
words_known : (s : SectionsView) (unit : ℕ) (p : PassView) → unit < unit_count s.info s.order → KnowsFile s (front_keys p) → HasWords (front_keys p) unit 8
words_known s unit p counted knows =
    λ word inside. knows.keys _ (record { unit = unit; counted = counted; uses = inl (record { word = word; inside = inside; is = refl }) })

pub facts_count : (s : SectionsView) (unit : ℕ) (p : PassView) (before mid : ℕ) → unit < unit_count s.info s.order
    → (HasWords (front_keys p) unit 8 → mid ≡ before) → CountsUnits s p before mid
facts_count s unit p before mid counted facts = record { counts = λ none knows. facts (words_known s unit p counted knows) }

-- a unit whose text isn't refused has entries
text_entries : {X : Type 0} {P : Type 0} (facts : Result X Fault) (read : Result (List EntryView) Fault) (text : X → List EntryView → Text)
    → IsOk (facts >>= (λ f. read >>= text f)) → ((entries : List EntryView) → read ≡ Ok entries → P) → P
text_entries (Ok x) (Ok entries) text ok go = go entries refl
text_entries (Ok x) (Err e) text ok go = absurd (cc)
text_entries (Err e) read text ok go = absurd (cc)

dumped_entries : {P : Type 0} (s : SectionsView) (unit : ℕ) (header : UnitHeader) → unit_header s unit ≡ Ok header → IsOk (unit_dump s unit)
    → ((entries : List EntryView) → entries_of s header ≡ Ok entries → P) → P
unfolding unit_dump
dumped_entries s unit header is ok go =
    text_entries (facts_of s header) (entries_of s header) (λ facts entries. read_unit_text (unit_of s header facts) entries)
    (subst (λ (r : Result UnitHeader Fault). IsOk (r >>= (λ h. facts_of s h >>= (λ facts. entries_of s h >>= read_unit_text (unit_of s h facts))))) is ok) go

-- and reading it counts nothing, where the pass knew all, whatever came of it
pub unit_counts : (s : SectionsView) (unit : ℕ) (header : UnitHeader) (p q : PassView) (before mid after : ℕ) → unit < unit_count s.info s.order
    → unit_header s unit ≡ Ok header → Follows p q → (HasWords (front_keys p) unit 8 → mid ≡ before)
    → IfOk (entries_of s header) (λ entries. KeysKnown (front_keys q) header.«abbrev» entries → after ≡ mid) → CountsUnits s p before after
unit_counts s unit header p q before mid after counted is f facts area = record {
  counts = λ none knows. dumped_entries s unit header is (none unit counted) (λ entries are.
      entries_count s unit header entries is are p q mid after counted f (rw are at area) knows
      ∙ facts (words_known s unit p counted knows));
}

-- what holds of the entries of a unit whose text was made
of_entries : {P : List EntryView → Type 0} {Q : Type 0} (read : Result (List EntryView) Fault) (text : List EntryView → Text) (made : List ℕ)
    → read >>= text ≡ Ok made → IfOk read P → ((entries : List EntryView) → read ≡ Ok entries → P entries → Q) → Q
of_entries (Ok entries) text made is holds go = go entries refl holds
of_entries (Err e) text made is holds go = absurd (cc)

pub streamed_entries : {P : List EntryView → Type 0} {Q : Type 0} (u : UnitView) (made : List ℕ) → streamed_unit u ≡ Ok made
    → IfOk (entries_of u.sections u.header) P → ((entries : List EntryView) → entries_of u.sections u.header ≡ Ok entries → P entries → Q) → Q
unfolding streamed_unit
streamed_entries u made is holds go = of_entries (entries_of u.sections u.header) (read_unit_text u) made is holds go

-- # Units one after another

pub gains_same : (s : SectionsView) (p : PassView) → GainsUnits s p p
gains_same s p = record { gains = λ none. GainsOnly-same (IsFileKey s) (own_keys p) }

pub counts_same : (s : SectionsView) (p : PassView) (steps : ℕ) → CountsUnits s p steps steps
counts_same s p steps = record { counts = λ none knows. refl }

pub knows_later : (s : SectionsView) (p q : PassView) → Follows p q → KnowsFile s (front_keys p) → KnowsFile s (front_keys q)
knows_later s p q f knows = record { keys = λ k uses. still_held p q k f (knows.keys k uses); codes = knows.codes }

pub gains_then : (s : SectionsView) (p q r : PassView) → GainsUnits s p q → GainsUnits s q r → GainsUnits s p r
gains_then s p q r first second = record {
  gains = λ none. GainsOnly-then (IsFileKey s) (own_keys p) (own_keys q) (own_keys r) (first.gains none) (second.gains none);
}

pub counts_then : (s : SectionsView) (p q : PassView) (before mid after : ℕ) → Follows p q → CountsUnits s p before mid → CountsUnits s q mid after → CountsUnits s p before after
counts_then s p q before mid after f first second = record {
  counts = λ none knows. second.counts none (knows_later s p q f knows) ∙ first.counts none knows;
}

-- one unit that was read
pub gains_unit : (s : SectionsView) (unit : ℕ) (p q : PassView) → unit < unit_count s.info s.order
    → GainsOnly (IsUnitKey s unit) (own_keys p) (own_keys q) → GainsUnits s p q
gains_unit s unit p q counted gains = record {
  gains = λ none. GainsOnly-weaker (IsUnitKey s unit) (IsFileKey s) (own_keys p) (own_keys q) (λ k uses. record { unit = unit; counted = counted; uses = uses }) gains;
}

refused_none : (r : Result (List ℕ) Fault) (f : Fault) → r ≡ Err f → IsOk r → ⊥
refused_none (Ok t) f is ok = cc
refused_none (Err g) f is ok = cc

-- a unit that is refused says nothing
pub none_refused : {P : Type 0} (s : SectionsView) (unit : ℕ) (f : Fault) → unit < unit_count s.info s.order → unit_dump s unit ≡ Err f → RefusesNone s → P
none_refused s unit f counted is none = absurd (refused_none (unit_dump s unit) f is (none unit counted))

pub gains_refused : (s : SectionsView) (unit : ℕ) (f : Fault) (p q : PassView) → unit < unit_count s.info s.order → unit_dump s unit ≡ Err f → GainsUnits s p q
gains_refused s unit f p q counted is = record { gains = λ none. none_refused s unit f counted is none }
