-- What stays between two states of a handle's pass, in the words of a source of declarations.
use Rattle.std.specs.Prelude.{◌≡◌, ℕ, ◌+◌, ◌≤◌, true, nat_le, List, length, map}
use Rattle.std.proofs.Common.{refl, sym, ap, ◌∙◌, subst, arith, length-append, le-leb}
use Rattle.std.proofs.lemmas.Bool.{leb-true}
use Rattle.std.proofs.lemmas.List.{map-append}
use Rattle.abbrev_decl.specs.Lookup.{Extends, LeavesSource}
use Rattle.map_core.specs.declared.entry.Entry.{Entry}
use Rattle.map_core.specs.declared.layout.Layout.{Layout}
use Rattle.map_core.specs.History.{StartsWith}
use Rattle.map_cells.specs.Seen.{PassView, Follows}
use Rattle.map_cells.specs.FollowLaws.{follows_same, follows_then}
use Rattle.handle_cache.specs.Handles.{HandleView, sections_in, front_keys, is_spent}

-- The handle and the place of the pass stay, and the pass follows.
pub record KeepsSource (h : HandleView) (p : PassView) (g : HandleView) (q : PassView) : Type 0 where
  pub handle : g ≡ h
  pub pass : Follows p q

pub keeps_same : (h : HandleView) (p : PassView) → KeepsSource h p h p
keeps_same h p = record { handle = refl; pass = follows_same p }

pub keeps_then : (h g k : HandleView) (p q r : PassView) → KeepsSource h p g q → KeepsSource g q k r → KeepsSource h p k r
keeps_then h g k p q r a b = record { handle = b.handle ∙ a.handle; pass = follows_then p q r a.pass b.pass }

pub keys_grow : (p q : PassView) → Follows p q → Extends (front_keys p) (front_keys q)
keys_grow p q f = record {
  more = map (λ (e : Entry). e.key) f.front.rest;
  is = sym (ap (map (λ (e : Entry). e.key)) f.front.joins) ∙ map-append (λ (e : Entry). e.key) p.knows.front f.front.rest;
}

front_longer : (a b : List Entry) → StartsWith a b → length a ≤ length b
front_longer a b p = let m : ℕ = length a in let n : ℕ = length b in let r : ℕ = length p.rest in
    let joined : n ≡ m + r = sym (ap (λ (x : List Entry). length x) p.joins) ∙ length-append a p.rest in
    let goal : m ≤ n = omega arith in goal

longer_spent : (room m n : ℕ) → m ≤ n → nat_le room m ≡ true → nat_le room n ≡ true
longer_spent room m n longer full = le-leb room n (let there : room ≤ m = leb-true room m full in omega arith)

pub still_spent : (p q : PassView) → Follows p q → is_spent p ≡ true → is_spent q ≡ true
still_spent p q f full =
    subst (λ room. nat_le room (length q.knows.front) ≡ true) (sym (ap (λ (l : Layout). l.capacity) f.layout))
    (longer_spent p.knows.layout.capacity (length p.knows.front) (length q.knows.front) (front_longer p.knows.front q.knows.front f.front) full)

-- so it is a source of declarations: its section is kept, what was seen stays seen, and what was spent
-- stays spent
pub keeps_leaves : (h : HandleView) (p : PassView) (g : HandleView) (q : PassView) → KeepsSource h p g q
    → LeavesSource (sections_in h).«abbrev» (sections_in g).«abbrev» (front_keys p) (front_keys q) (is_spent p) (is_spent q)
keeps_leaves h p g q k = record {
  kept = ap (λ (x : HandleView). (sections_in x).«abbrev») k.handle;
  seen = keys_grow p q k.pass;
  spent = still_spent p q k.pass;
}
