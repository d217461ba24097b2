-- A cursor that goes on by one entry after another.
use Rattle.std.proofs.Common.{◌≡◌, ◌<◌, ◌≤◌, ◌+◌, ◌-◌, ◌++◌, ◌∷◌, [], ℕ, zero, suc, nat_le, Bool, true, List, map, Option, Result, Ok, Err, IfOk, OnOk, append-nil, if◌then◌else◌, ap, sym, subst, ◌∙◌, refl, arith, le-leb}
use Rattle.std.proofs.lemmas.Bool.{lt-leb}
use Rattle.dw_fields.specs.declared.fault_code.Fault.{Fault}
use Rattle.dw_fields.specs.Span.{Span, at}
use Rattle.dw_fields.specs.Reading.{Reader, ◌>>=◌}
use Rattle.dw_fields.specs.Walk.{walk, ahead, ahead-append, others-ahead, walk_next, walk_fails}
use Rattle.abbrev_decl.specs.Shapes.{DeclView}
use Rattle.abbrev_decl.specs.Lookup.{Extends}
use Rattle.elf_sections.specs.Shapes.{SectionsView}
use Rattle.unit_headers.specs.declared.header.UnitHeader.{UnitHeader}
use Rattle.unit_headers.specs.declared.refusal.UnitRefusal.{UnitRefusal}
use Rattle.unit_headers.specs.declared.refusal.UnitRefusal.TheVariants.{Refused, OutOfMemory}
use Rattle.unit_headers.specs.Refusals.{Refuses}
use Rattle.form_values.specs.declared.raw.Widths.{Widths}
use Rattle.form_values.specs.View.{widths_of}
use Rattle.form_values.proofs.Forward.{Onwards}
use Rattle.entry_tree.specs.Views.{EntryView}
use Rattle.entry_tree.specs.Entries.{entry_at}
use Rattle.entry_tree.specs.Kept.{kept_entries, kept_entries_in, kept_entry, kept_entry_at}
use Rattle.entry_tree.specs.Keys.{KeysKnown}
use Rattle.entry_tree.specs.Taken.{CursorTakes, CursorView, Takes, TookEntries, WentOn, entries_left}
use Rattle.entry_tree.specs.Units.{area_of, entries_of}
use Rattle.entry_tree.proofs.KeptLaws.{kept_area, kept_step, on_step}
use Rattle.entry_tree.proofs.KeyLaws.{KeysKnown-back, KeysKnown-front, KeysKnown-later, keys_next, noted_next}
use Rattle.entry_tree.proofs.TakenLaws.{IfKnown}
use Rattle.entry_tree.proofs.TileLaws.{entry_ahead}

-- more turns than bytes change nothing

abbrev GoesOn : (ℕ → Reader (ℕ × List EntryView)) → Type 0
GoesOn next = (depth : ℕ) (s : Span) → Onwards (s.place + 1) (next depth s)

step_onwards : (keeps : ℕ → Bool) (place : ℕ) (read : Result ((ℕ × List EntryView) × ℕ) Fault) → Onwards place read → Onwards place (on_step keeps read)
step_onwards keeps place (Ok r) h = h
step_onwards keeps place (Err f) h = tt

kept_goes : (keeps : ℕ → Bool) (section : List ℕ) (table : ℕ) (widths : Widths) → GoesOn (kept_entry_at keeps section table widths)
kept_goes keeps section table widths depth s =
    let P : Result ((ℕ × List EntryView) × ℕ) Fault → Type 0 = λ read. Onwards (s.place + 1) read in
    subst P (sym (kept_step keeps section table widths depth s))
    (step_onwards keeps (s.place + 1) (entry_at section table widths depth s) (entry_ahead section table widths depth s))

past_walk : (next : ℕ → Reader (ℕ × List EntryView)) (n depth : ℕ) (s : Span) → s.end ≤ s.place → walk next n depth s ≡ Ok []
unfolding walk
past_walk next zero depth s past = refl
past_walk next (suc n) depth s past = rw (le-leb s.end s.place past) refl

same_turn : (s : Span) (read : Result ((ℕ × List EntryView) × ℕ) Fault) (a b : ℕ → Span → Result (List EntryView) Fault) → Onwards (s.place + 1) read
    → ((depth place : ℕ) → s.place < place → a depth (at s place) ≡ b depth (at s place))
    → (read >>= (λ found. a found.0.0 (at s found.1) >>= (λ others. Ok (found.0.1 ++ others))))
    ≡ (read >>= (λ found. b found.0.0 (at s found.1) >>= (λ others. Ok (found.0.1 ++ others))))
same_turn s (Ok r) a b on same = ap (λ rest. rest >>= (λ others. Ok (r.0.1 ++ others))) (same r.0.0 r.1 (omega (arith, on)))
same_turn s (Err f) a b on same = refl

walk_enough : (next : ℕ → Reader (ℕ × List EntryView)) → GoesOn next → (n m depth : ℕ) (s : Span) → s.end ≤ s.place + n → s.end ≤ s.place + m
    → walk next n depth s ≡ walk next m depth s
unfolding walk
walk_enough next goes zero m depth s enough also = sym (past_walk next m depth s (omega arith))
walk_enough next goes (suc n) zero depth s enough also = past_walk next (suc n) depth s (omega arith)
walk_enough next goes (suc n) (suc m) depth s enough also =
    ap (λ rest. if nat_le s.end s.place then Ok [] else rest)
    (same_turn s (next depth s) (walk next n) (walk next m) (goes depth s)
    (λ after place on. walk_enough next goes n m after (at s place) (omega arith) (omega arith)))

-- one entry more

ahead_none : (rest : Result (List EntryView) Fault) → ahead [] rest ≡ rest
ahead_none (Ok es) = refl
ahead_none (Err f) = refl

walk_on : (next : ℕ → Reader (ℕ × List EntryView)) → GoesOn next → (depth after : ℕ) (s : Span) (more : List EntryView) (place : ℕ)
    → s.place < s.end → s.place < place → next depth s ≡ Ok ((after, more), place)
    → walk next (s.end - s.place) depth s ≡ ahead more (walk next (s.end - place) after (at s place))
walk_on next goes depth after s more place inside on read =
    sym (ahead_none (walk next (s.end - s.place) depth s))
    ∙ sym (walk_next next (s.end - s.place) (s.end - s.place - 1) depth after s [] more place (omega arith) inside read)
    ∙ ap (ahead more) (walk_enough next goes (s.end - s.place - 1) (s.end - place) after (at s place) (omega arith) (omega arith))

left_on : (keeps : ℕ → Bool) (section : List ℕ) (header : UnitHeader) (left later : Span) (depth after : ℕ) (slots others : List (Option DeclView)) (more : List EntryView)
    → left.place < left.end → left.place < later.place
    → kept_entry_at keeps section header.«abbrev» (widths_of header) depth left ≡ Ok ((after, more), later.place) → later ≡ at left later.place
    → entries_left keeps section (record { header = header; left = left; depth = depth; slots = slots })
    ≡ ahead more (entries_left keeps section (record { header = header; left = later; depth = after; slots = others }))
unfolding entries_left
left_on keeps section header left later depth after slots others more inside on read moved =
    let next = kept_entry_at keeps section header.«abbrev» (widths_of header) in
    walk_on next (kept_goes keeps section header.«abbrev» (widths_of header)) depth after left more later.place inside on read
    ∙ ap (λ (s : Span). ahead more (walk next (s.end - s.place) after s)) (sym moved)

-- a cursor that stands still

pub went_none : (keeps : ℕ → Bool) (section : List ℕ) (old new : CursorView) (taken : List EntryView → Type 0) → old ≡ new → taken [] → WentOn keeps section old new taken
went_none keeps section old new taken same none =
    subst (λ (c : CursorView). WentOn keeps section old c taken) same
    record { entries = []; is = sym (ahead_none (entries_left keeps section old)); header = refl; moved = refl; took = none }

-- and one that goes on

pub took_more : (first second both : List EntryView → Type 0) (table of : ℕ) (seen later : List ℕ) (spent now : Bool) (placed between grown : List ℕ) (front more : List EntryView)
    → of ≡ table → Extends seen later → (spent ≡ true → now ≡ true)
    → TookEntries first table seen spent placed between front → TookEntries second of later now between grown more
    → (first front → second more → both (front ++ more))
    → TookEntries both table later now placed grown (front ++ more)
took_more first second both table of seen later spent now placed between grown front more same gained stays p q together =
    let r : TookEntries second table later now between grown more = subst (λ t. TookEntries second t later now between grown more) same q in
    record {
      took = together p.took r.took;
      keys = keys_next table front more (front ++ more) placed between grown refl p.keys r.keys;
      noted = noted_next table front more (front ++ more) seen later spent now refl gained stays p.noted r.noted;
    }

pub went_next : (keeps : ℕ → Bool) (section : List ℕ) (old : CursorView) (header : UnitHeader) (left later : Span) (depth after : ℕ) (slots others : List (Option DeclView))
    (taken both : List EntryView → Type 0) (more : List EntryView)
    → left.place < left.end → left.place < later.place
    → kept_entry_at keeps section header.«abbrev» (widths_of header) depth left ≡ Ok ((after, more), later.place) → later ≡ at left later.place
    → (went : WentOn keeps section old (record { header = header; left = left; depth = depth; slots = slots }) taken) → both (went.entries ++ more)
    → WentOn keeps section old (record { header = header; left = later; depth = after; slots = others }) both
went_next keeps section old header left later depth after slots others taken both more inside on read moved went took = record {
  entries = went.entries ++ more;
  is = went.is ∙ ap (ahead went.entries) (left_on keeps section header left later depth after slots others more inside on read moved)
      ∙ sym (ahead-append went.entries more (entries_left keeps section (record { header = header; left = later; depth = after; slots = others })));
  header = went.header;
  moved = moved ∙ ap (λ (s : Span). at s later.place) went.moved;
  took = took;
}

-- what is refused next is refused

pub went_fails : (refusal : UnitRefusal) (keeps : ℕ → Bool) (section : List ℕ) (old : CursorView) (header : UnitHeader) (left : Span) (depth : ℕ) (slots : List (Option DeclView))
    (taken : List EntryView → Type 0) → left.place < left.end → Refuses refusal (kept_entry_at keeps section header.«abbrev» (widths_of header) depth left)
    → WentOn keeps section old (record { header = header; left = left; depth = depth; slots = slots }) taken → Refuses refusal (entries_left keeps section old)
unfolding entries_left
went_fails (Refused f) keeps section old header left depth slots taken inside read went =
    went.is ∙ walk_fails (kept_entry_at keeps section header.«abbrev» (widths_of header)) (left.end - left.place) (left.end - left.place - 1) depth left went.entries f (omega arith) inside read
went_fails OutOfMemory keeps section old header left depth slots taken inside read went = tt

-- what holds where all keys are known holds where those of the next entry are

abbrev IfAllKnown : List ℕ → ℕ → Type 0 → Result (List EntryView) Fault → Type 0
IfAllKnown seen table P whole = IfOk whole (λ entries. KeysKnown seen table entries → P)

known_rest : (seen later : List ℕ) (table first between last : ℕ) (front more : List EntryView) (rest whole : Result (List EntryView) Fault)
    → whole ≡ ahead front (ahead more rest) → Extends seen later → IfAllKnown seen table (between ≡ first) whole → (KeysKnown later table more → last ≡ between)
    → IfAllKnown seen table (last ≡ first) whole
known_rest seen later table first between last front more (Ok others) whole is gained p q =
    let P : Result (List EntryView) Fault → Type 0 = λ w. IfAllKnown seen table (between ≡ first) w in
    let Q : Result (List EntryView) Fault → Type 0 = λ w. IfAllKnown seen table (last ≡ first) w in
    let r : IfAllKnown seen table (between ≡ first) (Ok (front ++ (more ++ others))) = subst P is p in
    subst Q (sym is) (λ known. q (KeysKnown-later seen later table more gained (KeysKnown-front seen table more others (KeysKnown-back seen table front (more ++ others) known))) ∙ r known)
known_rest seen later table first between last front more (Err f) whole is gained p q =
    let Q : Result (List EntryView) Fault → Type 0 = λ w. IfAllKnown seen table (last ≡ first) w in
    subst Q (sym is) tt

known_turn : (seen later : List ℕ) (table first between last : ℕ) (front : List EntryView) (read : Result ((ℕ × List EntryView) × ℕ) Fault)
    (rest : (ℕ × List EntryView) × ℕ → Result (List EntryView) Fault) (whole : Result (List EntryView) Fault)
    → whole ≡ ahead front (read >>= (λ found. rest found >>= (λ others. Ok (found.0.1 ++ others)))) → Extends seen later
    → IfAllKnown seen table (between ≡ first) whole → IfKnown later table (last ≡ between) read
    → IfAllKnown seen table (last ≡ first) whole
known_turn seen later table first between last front (Ok found) rest whole is gained p q =
    known_rest seen later table first between last front found.0.1 (rest found) whole (is ∙ ap (ahead front) (others-ahead found.0.1 (rest found))) gained p q
known_turn seen later table first between last front (Err f) rest whole is gained p q =
    let Q : Result (List EntryView) Fault → Type 0 = λ w. IfAllKnown seen table (last ≡ first) w in
    subst Q (sym is) tt

walk_turn : (next : ℕ → Reader (ℕ × List EntryView)) (m n depth : ℕ) (s : Span) → m ≡ suc n → s.place < s.end
    → walk next m depth s ≡ (next depth s >>= (λ found. walk next n found.0.0 (at s found.1) >>= (λ others. Ok (found.0.1 ++ others))))
unfolding walk
walk_turn next m n depth s fuel inside = rw (fuel, lt-leb s.end s.place inside) refl

pub went_known : (keeps : ℕ → Bool) (section : List ℕ) (old : CursorView) (header : UnitHeader) (left : Span) (depth : ℕ) (slots : List (Option DeclView))
    (taken : List EntryView → Type 0) (seen later : List ℕ) (first between last : ℕ)
    → left.place < left.end → WentOn keeps section old (record { header = header; left = left; depth = depth; slots = slots }) taken → Extends seen later
    → IfOk (entries_left keeps section old) (λ entries. KeysKnown seen old.header.«abbrev» entries → between ≡ first)
    → IfOk (kept_entry_at keeps section header.«abbrev» (widths_of header) depth left) (λ read. KeysKnown later header.«abbrev» read.0.1 → last ≡ between)
    → IfOk (entries_left keeps section old) (λ entries. KeysKnown seen old.header.«abbrev» entries → last ≡ first)
unfolding entries_left
went_known keeps section old header left depth slots taken seen later first between last inside went gained p q =
    let next = kept_entry_at keeps section header.«abbrev» (widths_of header) in
    let n : ℕ = left.end - left.place - 1 in
    known_turn seen later old.header.«abbrev» first between last went.entries (next depth left) (λ found. walk next n found.0.0 (at left found.1)) (entries_left keeps section old)
    (went.is ∙ ap (ahead went.entries) (walk_turn next (left.end - left.place) n depth left (omega arith) inside)) gained p
    (subst (λ (h : UnitHeader). IfKnown later h.«abbrev» (last ≡ between) (next depth left)) went.header q)

-- a cursor before a unit's first entry has the unit's entries before it

pub left_unit : (keeps : ℕ → Bool) (section : List ℕ) (c : CursorView) (sections : SectionsView) (header : UnitHeader)
    → section ≡ sections.«abbrev» → c.header ≡ header → c.left ≡ area_of sections header → c.depth ≡ 0
    → entries_left keeps section c ≡ kept_entries keeps (entries_of sections header)
unfolding entries_left kept_entries_in
left_unit keeps section c sections header same of left start =
    let W : List ℕ → UnitHeader → Span → ℕ → Result (List EntryView) Fault = λ bytes h s depth. walk (kept_entry_at keeps bytes h.«abbrev» (widths_of h)) (s.end - s.place) depth s in
    ap (λ bytes. W bytes c.header c.left c.depth) same
    ∙ ap (λ h. W sections.«abbrev» h c.left c.depth) of
    ∙ ap (λ s. W sections.«abbrev» header s c.depth) left
    ∙ ap (λ depth. W sections.«abbrev» header (area_of sections header) depth) start
    ∙ kept_area keeps sections.«abbrev» header.«abbrev» (widths_of header) (area_of sections header)

-- one at its end has given all

went_end : (keeps : ℕ → Bool) (section : List ℕ) (old new : CursorView) (taken : List EntryView → Type 0) → (went : WentOn keeps section old new taken)
    → new.left.end ≤ new.left.place → entries_left keeps section old ≡ Ok went.entries
unfolding entries_left
went_end keeps section old new taken went past =
    went.is
    ∙ ap (ahead went.entries) (past_walk (kept_entry_at keeps section new.header.«abbrev» (widths_of new.header)) (new.left.end - new.left.place) new.depth new.left past)
    ∙ ap (λ (xs : List EntryView). Ok xs) (append-nil went.entries)

pub takes_all : (result : Result (Unit {0}) UnitRefusal) (keeps : ℕ → Bool) (section : List ℕ) (old new : CursorView) (taken : List EntryView → Type 0)
    (whole : Result (List EntryView) Fault) → entries_left keeps section old ≡ whole
    → CursorTakes result keeps section old new taken → OnOk result (new.left.end ≤ new.left.place) → Takes result whole taken
takes_all (Ok u) keeps section old new taken whole same went past =
    let done : Result (Unit {0}) UnitRefusal = Ok u in
    let P : Result (List EntryView) Fault → Type 0 = λ read. Takes done read taken in
    subst P (sym (went_end keeps section old new taken went past) ∙ same) went.took
takes_all (Err e) keeps section old new taken whole same refused past =
    let P : Result (List EntryView) Fault → Type 0 = λ read. Refuses e read in
    subst P same refused

-- attributes have no keys: an entry with some of them has the entry's key

known_kept : (keeps : ℕ → Bool) (seen : List ℕ) (table : ℕ) (entries : List EntryView) → KeysKnown seen table entries → KeysKnown seen table (map (kept_entry keeps) entries)
known_kept keeps seen table [] known = tt
known_kept keeps seen table (e ∷ es) known = (known.0, known.1, known_kept keeps seen table es known.2)

pub known_all : (keeps : ℕ → Bool) (seen : List ℕ) (table : ℕ) (P : Type 0) (whole : Result (List EntryView) Fault)
    → IfOk (kept_entries keeps whole) (λ entries. KeysKnown seen table entries → P) → IfOk whole (λ entries. KeysKnown seen table entries → P)
known_all keeps seen table P (Ok entries) h = λ known. h (known_kept keeps seen table entries known)
known_all keeps seen table P (Err f) h = tt
