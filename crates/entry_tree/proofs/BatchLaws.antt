-- Entries in a batch.
use Rattle.std.proofs.Common.{◌≡◌, ◌<◌, ◌≤◌, ◌+◌, ◌-◌, ◌++◌, ◌∷◌, [], ℕ, zero, suc, List, All, length, map, take, drop, get_or, ap, sym, ◌∙◌, refl, arith, append-nil, length-append}
use Rattle.std.proofs.lemmas.List.{drop-append-le, drop-map, length-drop, map-append, take-append-le, take_all}
use Rattle.std.proofs.Math.Seq.{drop-cons}
use Rattle.entry_tree.specs.declared.batch.BatchHead.{BatchHead}
use Rattle.entry_tree.specs.declared.entry.Attr.{Attr}
use Rattle.entry_tree.specs.declared.entry.EntryHead.{EntryHead}
use Rattle.entry_tree.specs.Views.{AttrView, EntryView, attr_view}
use Rattle.entry_tree.specs.Batches.{BatchView, entry_in, entry_with, is_inside}
use Rattle.entry_tree.specs.Taken.{with_attr}

-- an attribute more changes no entry of a batch

same_attrs : (attrs : List Attr) (a : Attr) (h : BatchHead) → is_inside (length attrs) h → entry_in (attrs ++ a ∷ []) h ≡ entry_in attrs h
same_attrs attrs a h inside =
    ap (λ xs. entry_with h.head (take (h.to - h.from) xs)) (drop-append-le h.from attrs (a ∷ []) (omega (arith, inside.0, inside.1)))
    ∙ ap (entry_with h.head) (take-append-le (h.to - h.from) (drop h.from attrs) (a ∷ []) (omega (arith, inside.1, length-drop h.from attrs)))

same_entries : (attrs : List Attr) (a : Attr) (heads : List BatchHead) → All (is_inside (length attrs)) heads → map (entry_in (attrs ++ a ∷ [])) heads ≡ map (entry_in attrs) heads
same_entries attrs a [] inside = refl
same_entries attrs a (h ∷ hs) inside =
    ap (λ e. e ∷ map (entry_in (attrs ++ a ∷ [])) hs) (same_attrs attrs a h (inside zero h (omega arith)))
    ∙ ap (λ es. entry_in attrs h ∷ es) (same_entries attrs a hs (λ k d within. inside (suc k) d (omega arith)))

all_from : (attrs : List Attr) (from : ℕ) → take (length attrs - from) (drop from attrs) ≡ drop from attrs
all_from attrs from = take_all (length attrs - from) (drop from attrs) (omega (arith, length-drop from attrs))

-- it is the last of the entry that was begun

begun_with : (attrs : List Attr) (a : Attr) (head : EntryHead) (from : ℕ) → from ≤ length attrs
    → entry_in (attrs ++ a ∷ []) (record { head = head; from = from; to = length (attrs ++ a ∷ []) })
    ≡ with_attr (entry_in attrs (record { head = head; from = from; to = length attrs })) (attr_view a)
begun_with attrs a head from inside =
    ap (entry_with head) (all_from (attrs ++ a ∷ []) from ∙ drop-append-le from attrs (a ∷ []) inside ∙ ap (λ xs. xs ++ a ∷ []) (sym (all_from attrs from)))
    ∙ ap (λ (xs : List AttrView). record { place = head.place; depth = head.depth; code = head.code; tag = head.tag; attrs = xs })
    (map-append attr_view (take (length attrs - from) (drop from attrs)) (a ∷ []))

pub added : (attrs new : List Attr) (a : Attr) (heads : List BatchHead) (head : EntryHead) (from : ℕ) (old x : BatchView) (e : EntryView)
    → record { entries = map (entry_in attrs) heads; begun = entry_in attrs (record { head = head; from = from; to = length attrs }) } ≡ old
    → All (is_inside (length attrs)) heads → from ≤ length attrs → new ≡ attrs ++ a ∷ [] → old.entries ≡ x.entries → old.begun ≡ e
    → (map (entry_in new) heads ≡ x.entries) × (entry_in new (record { head = head; from = from; to = length new }) ≡ with_attr e (attr_view a))
added attrs new a heads head from old x e view heads_inside inside grown same begun = (
  ap (λ xs. map (entry_in xs) heads) grown ∙ same_entries attrs a heads heads_inside ∙ ap (λ (b : BatchView). b.entries) view ∙ same,
  ap (λ xs. entry_in xs (record { head = head; from = from; to = length xs })) grown
      ∙ begun_with attrs a head from inside
      ∙ ap (λ one. with_attr one (attr_view a)) (ap (λ (b : BatchView). b.begun) view ∙ begun),
)

-- what is left of a batch begins with the entry of a number

pub left_in : (attrs : List Attr) (heads : List BatchHead) (index : ℕ) (h : BatchHead) → index < length heads → h ≡ get_or heads index h
    → drop index (map (entry_in attrs) heads) ≡ entry_in attrs h ∷ drop (index + 1) (map (entry_in attrs) heads)
left_in attrs heads index h inside is =
    let next : suc index ≡ index + 1 = omega arith in
    drop-map (entry_in attrs) index heads
    ∙ ap (map (entry_in attrs)) (drop-cons heads index h inside ∙ ap (λ x. x ∷ drop (suc index) heads) (sym is))
    ∙ ap (λ es. entry_in attrs h ∷ es) (sym (drop-map (entry_in attrs) (suc index) heads))
    ∙ ap (λ n. entry_in attrs h ∷ drop n (map (entry_in attrs) heads)) next
