-- Entries that were written read back: one induction over what was written.
use Rattle.std.specs.Prelude.{◌≡◌, ℕ, zero, suc, ◌+◌, ◌-◌, ◌<◌, ◌≤◌, Bool, List, [], ◌∷◌, ◌++◌, length, map, Some, Ok, refl}
use Rattle.std.proofs.Common.{arith, ap, ap₂, sym, ◌∙◌, length-append, one-add}
use Rattle.std.proofs.lemmas.Bool.{le-leb, lt-leb, ne_eqb}
use Rattle.dw_fields.specs.Reading.{uleb_at}
use Rattle.dw_fields.specs.Walk.{walk}
use Rattle.abbrev_decl.specs.Lookup.{first_declaration}
use Rattle.entry_tree.specs.Entries.{coded_at, depth_behind, entries_in, entry_at, first_code_from, first_code_in, root_in}
use Rattle.entry_tree.specs.Views.{EntryView}
use Rattle.built_files.specs.Places.{LiesAt, lies_at, lies_front, lies_back}
use Rattle.exercise_file.proofs.Written.{AllFit, Written, attrs_bytes, attrs_read, attrs_seen, attrs_size, length-attrs, narrow, pair_of, span, uleb_read}

-- an entry that is written: its code, and what its declaration says (its tag and whether it has children)
pub record Coded : Type 0 where
  pub code : ℕ
  pub tag : ℕ
  pub children : Bool
  pub attrs : List Written

-- an entry, or the code 0
pub data Item : Type 0 where
  Entry : Coded → Item
  End : Item

abbrev pub item_bytes : Item → List ℕ
item_bytes (Entry e) = e.code ∷ attrs_bytes e.attrs
item_bytes End = 0 ∷ []

abbrev pub item_size : Item → ℕ
item_size (Entry e) = 1 + attrs_size e.attrs
item_size End = 1

abbrev pub items_bytes : List Item → List ℕ
items_bytes [] = []
items_bytes (item ∷ items) = item_bytes item ++ items_bytes items

abbrev pub items_size : List Item → ℕ
items_size [] = 0
items_size (item ∷ items) = item_size item + items_size items

-- an entry as it is read at a place and a depth
abbrev pub entry_seen : ℕ → ℕ → Coded → EntryView
entry_seen place depth e = record { place = place; depth = depth; code = e.code; tag = e.tag; attrs = attrs_seen (place + 1) e.attrs }

abbrev pub items_seen : ℕ → ℕ → List Item → List EntryView
items_seen place depth [] = []
items_seen place depth (Entry e ∷ items) = entry_seen place depth e ∷ items_seen (place + (1 + attrs_size e.attrs)) (depth_behind e.children depth) items
items_seen place depth (End ∷ items) = items_seen (place + 1) (depth - 1) items

-- its code is one byte and is declared so, and its values fit
pub record IsDeclared (section : List ℕ) (table : ℕ) (e : Coded) : Type 0 where
  pub place : ℕ
  pub first : first_declaration section table e.code ≡ Ok (record { code = e.code; tag = e.tag; children = e.children; place = place; pairs = map pair_of e.attrs })
  pub some : 0 < e.code
  pub small : e.code < 128
  pub fit : AllFit e.attrs

abbrev pub AreDeclared : List ℕ → ℕ → List Item → Type 0
AreDeclared section table [] = Unit {0}
AreDeclared section table (Entry e ∷ items) = IsDeclared section table e × AreDeclared section table items
AreDeclared section table (End ∷ items) = AreDeclared section table items

pub length-item : (item : Item) → length (item_bytes item) ≡ item_size item
length-item (Entry e) = ap suc (length-attrs e.attrs) ∙ sym (one-add (attrs_size e.attrs))
length-item End = refl

pub length-items : (items : List Item) → length (items_bytes items) ≡ items_size items
length-items [] = refl
length-items (item ∷ items) = length-append (item_bytes item) (items_bytes items) ∙ ap₂ (λ m n. m + n) (length-item item) (length-items items)

module _ (section : List ℕ) (table : ℕ) where
  -- what stands behind the code
  pub coded_read : {bytes : List ℕ} → (end place depth : ℕ) (e : Coded) → IsDeclared section table e → place + (1 + attrs_size e.attrs) ≤ end
      → LiesAt bytes place (e.code ∷ attrs_bytes e.attrs)
      → coded_at section table narrow depth place e.code (span bytes (place + 1) end) ≡ Ok ((e.children, entry_seen place depth e), place + (1 + attrs_size e.attrs))
  unfolding coded_at
  coded_read end place depth e d inside l =
      let attrs = attrs_read end (place + 1) e.attrs d.fit (omega arith) (lies_back (e.code ∷ []) (attrs_bytes e.attrs) l) in
      let sum : place + 1 + attrs_size e.attrs ≡ place + (1 + attrs_size e.attrs) = omega arith in
      rw (d.first, attrs, sum) refl

  pub entry_read : {bytes : List ℕ} → (end place depth : ℕ) (e : Coded) → IsDeclared section table e → place + (1 + attrs_size e.attrs) ≤ end
      → LiesAt bytes place (e.code ∷ attrs_bytes e.attrs)
      → entry_at section table narrow depth (span bytes place end) ≡ Ok ((depth_behind e.children depth, entry_seen place depth e ∷ []), place + (1 + attrs_size e.attrs))
  unfolding entry_at
  entry_read end place depth e d inside l =
      let code = uleb_read end e.code d.small (omega arith) (lies_front (e.code ∷ []) (attrs_bytes e.attrs) l) in
      rw (code, ne_eqb e.code 0 (λ z. absurd (omega (arith, d.some))), coded_read end place depth e d inside l) refl

  pub end_read : {bytes : List ℕ} → (end place depth : ℕ) → place < end → LiesAt bytes place (0 ∷ [])
      → entry_at section table narrow depth (span bytes place end) ≡ Ok ((depth - 1, []), place + 1)
  unfolding entry_at
  end_read end place depth inside l = rw (uleb_read end 0 (omega arith) inside l) refl

  walk_done : (bytes : List ℕ) (most depth place end : ℕ) → place ≡ end → walk (entry_at section table narrow) most depth (span bytes place end) ≡ Ok []
  unfolding walk
  walk_done bytes zero depth place end is = refl
  walk_done bytes (suc most) depth place end is = rw (le-leb end place (omega arith)) refl

  pub items_walked : {bytes : List ℕ} → (most depth place end : ℕ) (items : List Item) → items_size items ≤ most → place + items_size items ≡ end
      → AreDeclared section table items → LiesAt bytes place (items_bytes items)
      → walk (entry_at section table narrow) most depth (span bytes place end) ≡ Ok (items_seen place depth items)
  unfolding walk
  items_walked {bytes = bytes} most depth place end [] fuel is d l = walk_done bytes most depth place end (omega arith)
  items_walked zero depth place end (Entry e ∷ items) fuel is d l = absurd (omega arith)
  items_walked zero depth place end (End ∷ items) fuel is d l = absurd (omega arith)
  items_walked (suc most) depth place end (Entry e ∷ items) fuel is d l =
      let first = entry_read end place depth e d.0 (omega arith) (lies_front (item_bytes (Entry e)) (items_bytes items) l) in
      let behind = lies_at (ap (λ n. place + n) (length-item (Entry e))) (lies_back (item_bytes (Entry e)) (items_bytes items) l) in
      let others = items_walked most (depth_behind e.children depth) (place + (1 + attrs_size e.attrs)) end items (omega arith) (omega arith) d.1 behind in
      rw (lt-leb end place (omega arith), first, others) refl
  items_walked (suc most) depth place end (End ∷ items) fuel is d l =
      let first = end_read end place depth (omega arith) (lies_front (item_bytes End) (items_bytes items) l) in
      let others = items_walked most (depth - 1) (place + 1) end items (omega arith) (omega arith) d (lies_back (item_bytes End) (items_bytes items) l) in
      rw (lt-leb end place (omega arith), first, others) refl

  -- all entries of an area that the items tile
  pub items_read : {bytes : List ℕ} → (place end : ℕ) (items : List Item) → place + items_size items ≡ end → AreDeclared section table items → LiesAt bytes place (items_bytes items)
      → entries_in section table narrow (span bytes place end) ≡ Ok (items_seen place 0 items)
  unfolding entries_in
  items_read place end items is d l = items_walked (end - place) 0 place end items (omega arith) is d l

  first_code_read : (bytes : List ℕ) (most place end code next : ℕ) → 0 < most → place < end → uleb_at (span bytes place end) ≡ Ok (code, next) → 0 < code
      → first_code_from most (span bytes place end) ≡ Ok (Some (record { place = place; code = code; next = next }))
  first_code_read bytes zero place end code next fuel inside read some = absurd (omega arith)
  first_code_read bytes (suc most) place end code next fuel inside read some = rw (lt-leb end place inside, read, ne_eqb code 0 (λ z. absurd (omega arith))) refl

  -- the root, where the area begins with an entry
  pub root_read : {bytes : List ℕ} → (place end : ℕ) (e : Coded) → place + (1 + attrs_size e.attrs) ≤ end → IsDeclared section table e
      → LiesAt bytes place (e.code ∷ attrs_bytes e.attrs)
      → root_in section table narrow (span bytes place end) ≡ Ok (Some (entry_seen place 0 e, place + (1 + attrs_size e.attrs)))
  unfolding root_in first_code_in
  root_read {bytes = bytes} place end e inside d l =
      let code = uleb_read end e.code d.small (omega arith) (lies_front (e.code ∷ []) (attrs_bytes e.attrs) l) in
      rw (first_code_read bytes (end - place) place end e.code (place + 1) (omega arith) (omega arith) code d.some, coded_read end place 0 e d inside l) refl
