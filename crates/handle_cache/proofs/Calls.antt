-- What the table's calls tell of keys.
use Rattle.std.proofs.Common.{◌≡◌, ℕ, true, List, length, Option, Some, None, IfSome, Result, Ok, Err, refl, sym, ap, subst, ◌∙◌, inl, inr, le-leb}
use Rattle.std.specs.Prelude.{nat_le, Contains, IsSome}
use Rattle.std.proofs.lemmas.List.{map-append}
use Rattle.abbrev_decl.specs.Lookup.{Notes, PlacesAtMost}
use Rattle.entry_tree.proofs.KeyLaws.{Contains-later, Notes-later}
use Rattle.map_core.specs.declared.entry.Entry.{Entry}
use Rattle.map_core.specs.declared.view.View.{View}
use Rattle.map_core.specs.PlainMap.{plain_get}
use Rattle.map_core.specs.History.{plain_map, value_in}
use Rattle.map_core.specs.Calls.{own}
use Rattle.map_core.proofs.CallLemmas.{map_get}
use Rattle.map_cells.specs.Seen.{PassView, Follows}
use Rattle.share_map.specs.Answers.{Inserts}
use Rattle.share_map.specs.declared.answers.Full.{Full}
use Rattle.share_map.specs.declared.answers.Kept.{Kept}
use Rattle.share_map.specs.declared.answers.Kept.TheVariants.{Placed, Found}
use Rattle.handle_cache.specs.Handles.{front_keys, is_spent}
use Rattle.handle_cache.specs.Scanned.{FitsFile}
use Rattle.handle_cache.specs.SourceLaws.{keys_grow, still_spent}
use Rattle.handle_cache.proofs.Keys.{keys_of, key_has_value, value_has_key}

-- a value that was found fits the file
pub found_value : (tag file : List ℕ) (k : ℕ) (answer : Option ℕ) → tag ≡ file → IfSome answer (λ x. FitsFile tag k x) → IfSome answer (FitsFile file k)
found_value tag file k answer same fits = subst (λ (t : List ℕ). IfSome answer (FitsFile t k)) same fits

-- its key is in the front then
pub found_held : (es : List Entry) (k : ℕ) (answer : Option ℕ) → answer ≡ plain_get (plain_map es) k → IfSome answer (λ v. Contains (keys_of es) k)
found_held es k None is = tt
found_held es k (Some v) is = value_has_key es k v (sym (map_get es k) ∙ sym is)

-- a key of the front is found
pub found_kept : (es : List Entry) (k : ℕ) (answer : Option ℕ) → ((v : ℕ) → value_in es k ≡ Some v → answer ≡ Some v) → Contains (keys_of es) k → IsSome answer
found_kept es k answer kept there = let h = key_has_value es k there in subst IsSome (sym (kept h.value h.is)) refl

module _ (fits : ℕ → ℕ → Type 0) (capacity k x : ℕ) (v w : View) where
  -- after an insert its key is in the front, or there is no room
  pub insert_noted : (r : Result Kept Full) → w.layout.capacity ≡ capacity → Inserts fits capacity k x v w r → Notes (keys_of w.front) (nat_le w.layout.capacity (length w.front)) k
  insert_noted (Ok Placed) room at = inl (value_has_key w.front k x (sym (map_get w.front k) ∙ at.0.stands))
  insert_noted (Ok (Found y)) room at = inl (value_has_key w.front k y (sym (map_get w.front k) ∙ at.value))
  insert_noted (Err e) room at = inr (subst (λ (n : ℕ). nat_le n (length w.front) ≡ true) (sym room) (le-leb capacity (length w.front) at.full))

  -- and the own entries gained that key at most
  pub insert_placed : (r : Result Kept Full) (P : Type 0) → P → Inserts fits capacity k x v w r → PlacesAtMost (keys_of (own v)) (keys_of (own w)) k P
  insert_placed (Ok Placed) P p at = inr (ap keys_of at.0.own ∙ map-append (λ (e : Entry). e.key) (own v) _, p)
  insert_placed (Ok (Found y)) P p at = inl (ap keys_of at.own)
  insert_placed (Err e) P p at = inl (ap keys_of at.own)

-- what was in a front is in each that follows
pub still_held : (p q : PassView) (k : ℕ) → Follows p q → Contains (front_keys p) k → Contains (front_keys q) k
still_held p q k f c = Contains-later (front_keys p) (front_keys q) k (keys_grow p q f) c

pub still_noted : (p q : PassView) (k : ℕ) → Follows p q → Notes (front_keys p) (is_spent p) k → Notes (front_keys q) (is_spent q) k
still_noted p q k f n = Notes-later (front_keys p) (front_keys q) (is_spent p) (is_spent q) k (keys_grow p q f) (still_spent p q f) n

pub placed_so : (old new : List ℕ) (k : ℕ) (P Q : Type 0) → Q → PlacesAtMost old new k P → PlacesAtMost old new k Q
placed_so old new k P Q q (inl same) = inl same
placed_so old new k P Q q (inr gained) = inr (gained.0, q)
