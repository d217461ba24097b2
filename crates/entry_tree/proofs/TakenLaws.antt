-- What a sink took, one after the other.
use Rattle.std.proofs.Common.{◌≡◌, ◌<◌, ◌-◌, ◌^◌, ◌==◌, ◌++◌, ◌∷◌, [], ℕ, Bool, false, List, Result, Ok, Err, IfOk, OnOk, Contains, inl, ap, sym, subst, ◌∙◌, append-nil, append_assoc, refl}
use Rattle.dw_fields.specs.declared.fault_code.Fault.{Fault}
use Rattle.dw_fields.specs.Span.{Span, at}
use Rattle.dw_fields.specs.Reading.{◌>>=◌, uleb_at}
use Rattle.dw_fields.specs.Times.{with_front}
use Rattle.abbrev_decl.specs.Shapes.{DeclView}
use Rattle.abbrev_decl.specs.Lookup.{IsSmallFound, Notes, PlacesAtMost, first_declaration, key}
use Rattle.unit_headers.specs.declared.refusal.UnitRefusal.{UnitRefusal}
use Rattle.unit_headers.specs.declared.refusal.UnitRefusal.TheVariants.{Refused, OutOfMemory}
use Rattle.unit_headers.specs.Refusals.{Refuses}
use Rattle.form_values.specs.declared.raw.Widths.{Widths}
use Rattle.entry_tree.specs.Views.{AttrView, EntryView}
use Rattle.entry_tree.specs.Entries.{attrs_at, behind_entry, depth_behind, found_at}
use Rattle.entry_tree.specs.Kept.{kept_read, kept_coded_at, kept_entry_at}
use Rattle.entry_tree.specs.Keys.{IsKeyAmong, KeysKnown, KeysNoted}
use Rattle.entry_tree.specs.Taken.{TakesAt, TookAt, TookEntries, with_attr, with_attrs}
use Rattle.entry_tree.proofs.KeyLaws.{GainsOnly-one, GainsOnly-same}

-- attributes of the entry that was begun

pub attrs_none : (e : EntryView) → with_attrs e [] ≡ e
attrs_none e = ap (λ (attrs : List AttrView). record e { attrs = attrs }) (append-nil e.attrs)

pub attrs_more : (e : EntryView) (front : List AttrView) (a : AttrView) → with_attr (with_attrs e front) a ≡ with_attrs e (front ++ a ∷ [])
attrs_more e front a = ap (λ (attrs : List AttrView). record e { attrs = attrs }) (append_assoc e.attrs front (a ∷ []))

pub front_none : (read : Result (List AttrView × ℕ) Fault) → with_front [] read ≡ read
front_none (Ok r) = refl
front_none (Err f) = refl

-- an entry of a declaration that was found, and of attributes that were read

pub coded_read : (keeps : ℕ → Bool) (section : List ℕ) (table : ℕ) (widths : Widths) (depth place code : ℕ) (s : Span) (declaration : DeclView) (attrs : List AttrView) (q : ℕ)
    → Ok declaration ≡ found_at place (first_declaration section table code) → kept_read keeps (attrs_at widths declaration.pairs s) ≡ Ok (attrs, q)
    → behind_entry depth (kept_coded_at keeps section table widths depth place code s)
    ≡ Ok ((depth_behind declaration.children depth, record { place = place; depth = depth; code = code; tag = declaration.tag; attrs = attrs }), q)
unfolding kept_coded_at
coded_read keeps section table widths depth place code s declaration attrs q found read = rw (← found, read) refl

-- an entry has the code that was read

abbrev HasCode : ℕ → Result ((Bool × EntryView) × ℕ) Fault → Type 0
HasCode code (Ok read) = read.0.1.code ≡ code
HasCode code (Err f) = Unit {0}

code_attrs : (children : Bool) (depth place code tag : ℕ) (read : Result (List AttrView × ℕ) Fault)
    → HasCode code (read >>= (λ attrs. Ok ((children, record { place = place; depth = depth; code = code; tag = tag; attrs = attrs.0 }), attrs.1)))
code_attrs children depth place code tag (Ok r) = refl
code_attrs children depth place code tag (Err f) = tt

code_found : (keeps : ℕ → Bool) (widths : Widths) (depth place code : ℕ) (s : Span) (found : Result DeclView Fault)
    → HasCode code (found >>= (λ declaration. kept_read keeps (attrs_at widths declaration.pairs s)
    >>= (λ attrs. Ok ((declaration.children, record { place = place; depth = depth; code = code; tag = declaration.tag; attrs = attrs.0 }), attrs.1))))
code_found keeps widths depth place code s (Ok d) = code_attrs d.children depth place code d.tag (kept_read keeps (attrs_at widths d.pairs s))
code_found keeps widths depth place code s (Err f) = tt

code_coded : (keeps : ℕ → Bool) (section : List ℕ) (table : ℕ) (widths : Widths) (depth place code : ℕ) (s : Span)
    → HasCode code (kept_coded_at keeps section table widths depth place code s)
unfolding kept_coded_at
code_coded keeps section table widths depth place code s = code_found keeps widths depth place code s (found_at place (first_declaration section table code))

-- where the keys of what was read are known, something holds
abbrev pub IfKnown : List ℕ → ℕ → Type 0 → Result ((ℕ × List EntryView) × ℕ) Fault → Type 0
IfKnown seen table P read = IfOk read (λ found. KeysKnown seen table found.0.1 → P)

known_coded : (seen : List ℕ) (table depth code : ℕ) (P : Type 0) (coded : Result ((Bool × EntryView) × ℕ) Fault) → HasCode code coded
    → (code < 2 ^ 32 → Contains seen (key table code) → P)
    → IfKnown seen table P (behind_entry depth coded >>= (λ entry. Ok ((entry.0.0, entry.0.1 ∷ []), entry.1)))
known_coded seen table depth code P (Ok r) same k =
    λ known. k (subst (λ c. c < 2 ^ 32) same known.0) (subst (λ c. Contains seen (key table c)) same known.1)
known_coded seen table depth code P (Err f) same k = tt

-- what follows where the key of a code is known follows where the keys of its entry are known
pub known_entry : (keeps : ℕ → Bool) (section : List ℕ) (table : ℕ) (widths : Widths) (depth : ℕ) (s : Span) (code q : ℕ) (seen : List ℕ) (P : Type 0)
    → uleb_at s ≡ Ok (code, q) → code == 0 ≡ false → (code < 2 ^ 32 → Contains seen (key table code) → P)
    → IfKnown seen table P (kept_entry_at keeps section table widths depth s)
unfolding kept_entry_at
known_entry keeps section table widths depth s code q seen P read some k =
    rw (read, some) (known_coded seen table depth code P (kept_coded_at keeps section table widths depth s.place code (at s q))
    (code_coded keeps section table widths depth s.place code (at s q)) k)

-- a code 0, and an entry

zero_read : (keeps : ℕ → Bool) (section : List ℕ) (table : ℕ) (widths : Widths) (depth : ℕ) (s : Span) (code q : ℕ)
    → uleb_at s ≡ Ok (code, q) → code ≡ 0 → kept_entry_at keeps section table widths depth s ≡ Ok ((depth - 1, []), q)
unfolding kept_entry_at
zero_read keeps section table widths depth s code q read none = rw (read, none) refl

entry_read : (keeps : ℕ → Bool) (section : List ℕ) (table : ℕ) (widths : Widths) (depth : ℕ) (s : Span) (code q behind : ℕ) (e : EntryView) (next : ℕ)
    → uleb_at s ≡ Ok (code, q) → code == 0 ≡ false
    → behind_entry depth (kept_coded_at keeps section table widths depth s.place code (at s q)) ≡ Ok ((behind, e), next)
    → kept_entry_at keeps section table widths depth s ≡ Ok ((behind, e ∷ []), next)
unfolding kept_entry_at
entry_read keeps section table widths depth s code q behind e next read some coded = rw (read, some, coded) refl

entry_fails : (keeps : ℕ → Bool) (section : List ℕ) (table : ℕ) (widths : Widths) (depth : ℕ) (s : Span) (code q : ℕ) (refusal : UnitRefusal)
    → uleb_at s ≡ Ok (code, q) → code == 0 ≡ false
    → Refuses refusal (behind_entry depth (kept_coded_at keeps section table widths depth s.place code (at s q)))
    → Refuses refusal (kept_entry_at keeps section table widths depth s)
unfolding kept_entry_at
entry_fails keeps section table widths depth s code q (Refused f) read some coded = rw (read, some, coded) refl
entry_fails keeps section table widths depth s code q OutOfMemory read some coded = tt

-- nothing was taken where a code is 0
pub zero_taken : (taken : List EntryView → Type 0) (keeps : ℕ → Bool) (section : List ℕ) (table : ℕ) (widths : Widths) (depth behind : ℕ) (s new : Span) (code : ℕ)
    (seen : List ℕ) (spent : Bool) (placed : List ℕ)
    → uleb_at s ≡ Ok (code, new.place) → new ≡ at s new.place → code ≡ 0 → behind ≡ depth - 1 → taken []
    → TookAt (kept_entry_at keeps section table widths depth) s new (λ read. (read.0 ≡ behind) × TookEntries taken table seen spent placed placed read.1)
zero_taken taken keeps section table widths depth behind s new code seen spent placed read moved none less nothing = record {
  found = (depth - 1, []);
  is = zero_read keeps section table widths depth s code new.place read none;
  moved = moved;
  took = (sym less, record { took = nothing; keys = GainsOnly-same (IsKeyAmong table []) placed; noted = tt });
}

among : (table code : ℕ) (e : EntryView) → e.code ≡ code → code < 2 ^ 32 → IsKeyAmong table (e ∷ []) (key table code)
among table code e same small = inl (subst (λ c. c < 2 ^ 32) (sym same) small, ap (key table) (sym same))

noted_one : (seen : List ℕ) (spent : Bool) (table code : ℕ) (e : EntryView) → e.code ≡ code → (code < 2 ^ 32 → Notes seen spent (key table code))
    → KeysNoted seen spent table (e ∷ [])
noted_one seen spent table code e same noted = (subst (λ c. c < 2 ^ 32 → Notes seen spent (key table c)) (sym same) noted, tt)

-- one entry was taken, or the answer is its refusal
pub entry_taken : {U : Type 0} → (result : Result U UnitRefusal) (deep : U → ℕ) (taken : List EntryView → Type 0) (keeps : ℕ → Bool) (section : List ℕ) (table : ℕ) (widths : Widths)
    (depth place : ℕ) (s mid new : Span) (code : ℕ) (seen : List ℕ) (spent : Bool) (placed grown : List ℕ)
    → place ≡ s.place → uleb_at s ≡ Ok (code, mid.place) → mid ≡ at s mid.place → code == 0 ≡ false
    → TakesAt result (λ t. behind_entry depth (kept_coded_at keeps section table widths depth place code t)) mid new
    (λ u read. (read.0 ≡ deep u) × (read.1.code ≡ code) × taken (read.1 ∷ []))
    → PlacesAtMost placed grown (key table code) (IsSmallFound code (first_declaration section table code))
    → (code < 2 ^ 32 → OnOk result (Notes seen spent (key table code)))
    → TakesAt result (kept_entry_at keeps section table widths depth) s new (λ u read. (read.0 ≡ deep u) × TookEntries taken table seen spent placed grown read.1)
entry_taken (Ok u) deep taken keeps section table widths depth place s mid new code seen spent placed grown here read behind some one gains noted =
    let P : ℕ → Span → Type 0 = λ p t. behind_entry depth (kept_coded_at keeps section table widths depth p code t) ≡ Ok (one.found, new.place) in
    record {
      found = (one.found.0, one.found.1 ∷ []);
      is = entry_read keeps section table widths depth s code mid.place one.found.0 one.found.1 new.place read some
          (subst (λ p. P p (at s mid.place)) here (subst (P place) behind one.is));
      moved = one.moved ∙ ap (λ (t : Span). at t new.place) behind;
      took = (
        one.took.0,
        record {
          took = one.took.2;
          keys = GainsOnly-one (IsKeyAmong table (one.found.1 ∷ [])) placed grown (key table code) (IsSmallFound code (first_declaration section table code))
              (λ found. among table code one.found.1 one.took.1 found.0) gains;
          noted = noted_one seen spent table code one.found.1 one.took.1 noted;
        },
      );
    }
entry_taken (Err e) deep taken keeps section table widths depth place s mid new code seen spent placed grown here read behind some one gains noted =
    let P : ℕ → Span → Type 0 = λ p t. Refuses e (behind_entry depth (kept_coded_at keeps section table widths depth p code t)) in
    entry_fails keeps section table widths depth s code mid.place e read some (subst (λ p. P p (at s mid.place)) here (subst (P place) behind one))
