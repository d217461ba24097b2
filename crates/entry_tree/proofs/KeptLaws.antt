-- Reading entries and keeping some attributes is reading all, and then keeping some.
use Rattle.std.proofs.Common.{◌≡◌, ◌++◌, ◌∷◌, [], ℕ, ◌-◌, ◌==◌, zero, suc, Bool, true, false, if◌then◌else◌, nat_le, List, map, Result, Ok, Err, refl, ap, sym, ◌∙◌, append-nil}
use Rattle.std.proofs.lemmas.List.{map-append}
use Rattle.dw_fields.specs.declared.fault_code.Fault.{Fault}
use Rattle.dw_fields.specs.Span.{Span, at}
use Rattle.dw_fields.specs.Reading.{Reader, ◌>>=◌, uleb_at}
use Rattle.dw_fields.specs.Times.{with_front, with_front-snoc, consed, others-consed}
use Rattle.dw_fields.specs.Walk.{walk}
use Rattle.abbrev_decl.specs.declared.pairs.AttrSpec.{AttrSpec}
use Rattle.abbrev_decl.specs.Shapes.{DeclView}
use Rattle.abbrev_decl.specs.Lookup.{first_declaration}
use Rattle.form_values.specs.declared.raw.Widths.{Widths}
use Rattle.entry_tree.specs.Views.{AttrView, EntryView}
use Rattle.entry_tree.specs.Entries.{attr_at, attrs_at, behind_entry, coded_at, entry_at, entries_in, found_at}
use Rattle.entry_tree.specs.Kept.{kept_attrs, kept_entry, kept_entries, kept_read, kept_coded_at, kept_entry_at, kept_entries_in}

-- attributes: one is kept or passed

pub kept_consed : (keeps : ℕ → Bool) (a : AttrView) (read : Result (List AttrView × ℕ) Fault) → keeps a.name ≡ true
    → kept_read keeps (consed a read) ≡ consed a (kept_read keeps read)
kept_consed keeps a (Ok r) e = rw e refl
kept_consed keeps a (Err f) e = refl

pub passed_consed : (keeps : ℕ → Bool) (a : AttrView) (read : Result (List AttrView × ℕ) Fault) → keeps a.name ≡ false
    → kept_read keeps (consed a read) ≡ kept_read keeps read
passed_consed keeps a (Ok r) e = rw e refl
passed_consed keeps a (Err f) e = refl

pub attrs_step : (widths : Widths) (pair : AttrSpec) (pairs left : List AttrSpec) (s : Span) (a : AttrView) (q : ℕ)
    → pairs ≡ pair ∷ left → attr_at widths pair s ≡ Ok (a, q) → attrs_at widths pairs s ≡ consed a (attrs_at widths left (at s q))
unfolding attrs_at
attrs_step widths pair pairs left s a q e read = rw (e, read) (others-consed a (attrs_at widths left (at s q)))

pub attrs_kept : (keeps : ℕ → Bool) (widths : Widths) (pair : AttrSpec) (pairs left : List AttrSpec) (s : Span) (front more : List AttrView) (a : AttrView) (q : ℕ)
    → pairs ≡ pair ∷ left → attr_at widths pair s ≡ Ok (a, q) → more ≡ front ++ a ∷ [] → keeps a.name ≡ true
    → with_front more (kept_read keeps (attrs_at widths left (at s q))) ≡ with_front front (kept_read keeps (attrs_at widths pairs s))
attrs_kept keeps widths pair pairs left s front more a q e read added is =
    ap (λ xs. with_front xs (kept_read keeps (attrs_at widths left (at s q)))) added
    ∙ with_front-snoc front a (kept_read keeps (attrs_at widths left (at s q)))
    ∙ ap (with_front front) (sym (kept_consed keeps a (attrs_at widths left (at s q)) is) ∙ ap (kept_read keeps) (sym (attrs_step widths pair pairs left s a q e read)))

pub attrs_passed : (keeps : ℕ → Bool) (widths : Widths) (pair : AttrSpec) (pairs left : List AttrSpec) (s : Span) (front : List AttrView) (a : AttrView) (q : ℕ)
    → pairs ≡ pair ∷ left → attr_at widths pair s ≡ Ok (a, q) → keeps a.name ≡ false
    → with_front front (kept_read keeps (attrs_at widths left (at s q))) ≡ with_front front (kept_read keeps (attrs_at widths pairs s))
attrs_passed keeps widths pair pairs left s front a q e read isnt =
    ap (with_front front) (sym (passed_consed keeps a (attrs_at widths left (at s q)) isnt) ∙ ap (kept_read keeps) (sym (attrs_step widths pair pairs left s a q e read)))

pub attrs_fail : (keeps : ℕ → Bool) (widths : Widths) (pair : AttrSpec) (pairs left : List AttrSpec) (s : Span) (front : List AttrView) (f : Fault)
    → pairs ≡ pair ∷ left → attr_at widths pair s ≡ Err f → with_front front (kept_read keeps (attrs_at widths pairs s)) ≡ Err f
unfolding attrs_at
attrs_fail keeps widths pair pairs left s front f e read = rw (e, read) refl

pub attrs_done : (keeps : ℕ → Bool) (widths : Widths) (pairs : List AttrSpec) (s : Span) (front : List AttrView) → pairs ≡ []
    → with_front front (kept_read keeps (attrs_at widths pairs s)) ≡ Ok (front, s.place)
unfolding attrs_at
attrs_done keeps widths pairs s front e = rw e (ap (λ xs. Ok (xs, s.place)) (append-nil front))

-- an entry, and what stands at a depth

abbrev on_coded : (ℕ → Bool) → Result ((Bool × EntryView) × ℕ) Fault → Result ((Bool × EntryView) × ℕ) Fault
on_coded keeps (Ok read) = Ok ((read.0.0, kept_entry keeps read.0.1), read.1)
on_coded keeps (Err f) = Err f

abbrev on_entry : (ℕ → Bool) → Result (ℕ × EntryView) Fault → Result (ℕ × EntryView) Fault
on_entry keeps (Ok read) = Ok (read.0, kept_entry keeps read.1)
on_entry keeps (Err f) = Err f

abbrev pub on_step : (ℕ → Bool) → Result ((ℕ × List EntryView) × ℕ) Fault → Result ((ℕ × List EntryView) × ℕ) Fault
on_step keeps (Ok read) = Ok ((read.0.0, map (kept_entry keeps) read.0.1), read.1)
on_step keeps (Err f) = Err f

coded_attrs : (keeps : ℕ → Bool) (children : Bool) (depth place code tag : ℕ) (read : Result (List AttrView × ℕ) Fault)
    → (kept_read keeps read >>= (λ attrs. Ok ((children, record { place = place; depth = depth; code = code; tag = tag; attrs = attrs.0 }), attrs.1)))
    ≡ on_coded keeps (read >>= (λ attrs. Ok ((children, record { place = place; depth = depth; code = code; tag = tag; attrs = attrs.0 }), attrs.1)))
coded_attrs keeps children depth place code tag (Ok r) = refl
coded_attrs keeps children depth place code tag (Err f) = refl

coded_found : (keeps : ℕ → Bool) (widths : Widths) (depth place code : ℕ) (s : Span) (found : Result DeclView Fault)
    → (found >>= (λ declaration. kept_read keeps (attrs_at widths declaration.pairs s)
    >>= (λ attrs. Ok ((declaration.children, record { place = place; depth = depth; code = code; tag = declaration.tag; attrs = attrs.0 }), attrs.1))))
    ≡ on_coded keeps (found >>= (λ declaration. attrs_at widths declaration.pairs s
    >>= (λ attrs. Ok ((declaration.children, record { place = place; depth = depth; code = code; tag = declaration.tag; attrs = attrs.0 }), attrs.1))))
coded_found keeps widths depth place code s (Ok d) = coded_attrs keeps d.children depth place code d.tag (attrs_at widths d.pairs s)
coded_found keeps widths depth place code s (Err f) = refl

pub kept_coded : (keeps : ℕ → Bool) (section : List ℕ) (table : ℕ) (widths : Widths) (depth place code : ℕ) (s : Span)
    → kept_coded_at keeps section table widths depth place code s ≡ on_coded keeps (coded_at section table widths depth place code s)
unfolding kept_coded_at coded_at
kept_coded keeps section table widths depth place code s = coded_found keeps widths depth place code s (found_at place (first_declaration section table code))

behind_coded : (keeps : ℕ → Bool) (depth : ℕ) (read : Result ((Bool × EntryView) × ℕ) Fault)
    → (behind_entry depth (on_coded keeps read) >>= (λ entry. Ok ((entry.0.0, entry.0.1 ∷ []), entry.1)))
    ≡ on_step keeps (behind_entry depth read >>= (λ entry. Ok ((entry.0.0, entry.0.1 ∷ []), entry.1)))
behind_coded keeps depth (Ok r) = refl
behind_coded keeps depth (Err f) = refl

step_if : (keeps : ℕ → Bool) (zero_code : Bool) (depth behind : ℕ) (kept read : Result ((ℕ × List EntryView) × ℕ) Fault) → kept ≡ on_step keeps read
    → (if zero_code then Ok ((depth, []), behind) else kept) ≡ on_step keeps (if zero_code then Ok ((depth, []), behind) else read)
step_if keeps true depth behind kept read e = refl
step_if keeps false depth behind kept read e = e

step_code : (keeps : ℕ → Bool) (section : List ℕ) (table : ℕ) (widths : Widths) (depth : ℕ) (s : Span) (code : Result (ℕ × ℕ) Fault)
    → (code >>= (λ code. if code.0 == 0 then Ok ((depth - 1, []), code.1) else (
    behind_entry depth (kept_coded_at keeps section table widths depth s.place code.0 (at s code.1)) >>= (λ entry. Ok ((entry.0.0, entry.0.1 ∷ []), entry.1)))))
    ≡ on_step keeps (code >>= (λ code. if code.0 == 0 then Ok ((depth - 1, []), code.1) else (
    behind_entry depth (coded_at section table widths depth s.place code.0 (at s code.1)) >>= (λ entry. Ok ((entry.0.0, entry.0.1 ∷ []), entry.1)))))
step_code keeps section table widths depth s (Err f) = refl
step_code keeps section table widths depth s (Ok code) =
    step_if keeps (code.0 == 0) (depth - 1) code.1
    (behind_entry depth (kept_coded_at keeps section table widths depth s.place code.0 (at s code.1)) >>= (λ entry. Ok ((entry.0.0, entry.0.1 ∷ []), entry.1)))
    (behind_entry depth (coded_at section table widths depth s.place code.0 (at s code.1)) >>= (λ entry. Ok ((entry.0.0, entry.0.1 ∷ []), entry.1)))
    (ap (λ read. behind_entry depth read >>= (λ entry. Ok ((entry.0.0, entry.0.1 ∷ []), entry.1))) (kept_coded keeps section table widths depth s.place code.0 (at s code.1))
    ∙ behind_coded keeps depth (coded_at section table widths depth s.place code.0 (at s code.1)))

pub kept_step : (keeps : ℕ → Bool) (section : List ℕ) (table : ℕ) (widths : Widths) (depth : ℕ) (s : Span)
    → kept_entry_at keeps section table widths depth s ≡ on_step keeps (entry_at section table widths depth s)
unfolding kept_entry_at entry_at
kept_step keeps section table widths depth s = step_code keeps section table widths depth s (uleb_at s)

-- all entries of an area

rest_kept : (keeps : ℕ → Bool) (more : List EntryView) (rest : Result (List EntryView) Fault)
    → (kept_entries keeps rest >>= (λ others. Ok (map (kept_entry keeps) more ++ others))) ≡ kept_entries keeps (rest >>= (λ others. Ok (more ++ others)))
rest_kept keeps more (Ok others) = ap (λ xs. Ok xs) (sym (map-append (kept_entry keeps) more others))
rest_kept keeps more (Err f) = refl

turn_kept : (keeps : ℕ → Bool) (kept all : ℕ → Span → Result (List EntryView) Fault) (s : Span) (past : Bool) (read : Result ((ℕ × List EntryView) × ℕ) Fault)
    → ((depth : ℕ) (t : Span) → kept depth t ≡ kept_entries keeps (all depth t))
    → (if past then Ok [] else (on_step keeps read >>= (λ found. kept found.0.0 (at s found.1) >>= (λ others. Ok (found.0.1 ++ others)))))
    ≡ kept_entries keeps (if past then Ok [] else (read >>= (λ found. all found.0.0 (at s found.1) >>= (λ others. Ok (found.0.1 ++ others)))))
turn_kept keeps kept all s true read same = refl
turn_kept keeps kept all s false (Err f) same = refl
turn_kept keeps kept all s false (Ok r) same =
    ap (λ rest. rest >>= (λ others. Ok (map (kept_entry keeps) r.0.1 ++ others))) (same r.0.0 (at s r.1))
    ∙ rest_kept keeps r.0.1 (all r.0.0 (at s r.1))

pub kept_walk : (keeps : ℕ → Bool) (kept next : ℕ → Reader (ℕ × List EntryView)) → ((depth : ℕ) (s : Span) → kept depth s ≡ on_step keeps (next depth s))
    → (n depth : ℕ) (s : Span) → walk kept n depth s ≡ kept_entries keeps (walk next n depth s)
unfolding walk
kept_walk keeps kept next same zero depth s = refl
kept_walk keeps kept next same (suc n) depth s =
    ap (λ read. if nat_le s.end s.place then Ok [] else (read >>= (λ found. walk kept n found.0.0 (at s found.1) >>= (λ others. Ok (found.0.1 ++ others))))) (same depth s)
    ∙ turn_kept keeps (walk kept n) (walk next n) s (nat_le s.end s.place) (next depth s) (λ d t. kept_walk keeps kept next same n d t)

pub kept_area : (keeps : ℕ → Bool) (section : List ℕ) (table : ℕ) (widths : Widths) (s : Span)
    → kept_entries_in keeps section table widths s ≡ kept_entries keeps (entries_in section table widths s)
unfolding kept_entries_in entries_in
kept_area keeps section table widths s =
    kept_walk keeps (kept_entry_at keeps section table widths) (entry_at section table widths) (λ depth t. kept_step keeps section table widths depth t) (s.end - s.place) 0 s

-- where every attribute is kept

pub all_attrs : (attrs : List AttrView) → kept_attrs (λ name. true) attrs ≡ attrs
all_attrs [] = refl
all_attrs (a ∷ attrs) = ap (λ others. a ∷ others) (all_attrs attrs)

pub all_entries : (entries : List EntryView) → map (kept_entry (λ name. true)) entries ≡ entries
all_entries [] = refl
all_entries (e ∷ entries) =
    ap (λ attrs. record e { attrs = attrs } ∷ map (kept_entry (λ name. true)) entries) (all_attrs e.attrs)
    ∙ ap (λ others. e ∷ others) (all_entries entries)

pub all_kept : (read : Result (List EntryView) Fault) → kept_entries (λ name. true) read ≡ read
all_kept (Ok entries) = ap (λ xs. Ok xs) (all_entries entries)
all_kept (Err f) = refl
