-- What reading a unit's facts puts into the table.
use Rattle.std.proofs.Common.{◌≡◌, ℕ, ◌+◌, ◌<◌, ◌⊎◌, true, List, Ok, sym, subst, inl, inr, arith}
use mathlib.Core.Logic.{dite}
use native.Mathlib.Decide.{ℕ_discrete}
use Rattle.std.specs.Prelude.{Contains}
use Rattle.abbrev_decl.specs.Lookup.{Notes, PlacesAtMost}
use Rattle.elf_sections.specs.Shapes.{SectionsView}
use Rattle.unit_headers.specs.declared.header.UnitHeader.{UnitHeader}
use Rattle.entry_tree.specs.Keys.{GainsOnly, IsRootKeyOf, RootPlaces}
use Rattle.entry_tree.specs.Units.{root_code_of, unit_header}
use Rattle.entry_tree.proofs.KeyLaws.{GainsOnly-one, GainsOnly-same, GainsOnly-then, GainsOnly-weaker, RootPlaces-gains}
use Rattle.map_cells.specs.Seen.{PassView, Follows}
use Rattle.handle_cache.specs.Handles.{HasWords, IsFactKey, IsRootKey, IsWordKey, front_keys, is_spent}
use Rattle.handle_cache.specs.Scanned.{word_key}
use Rattle.handle_cache.specs.SourceLaws.{still_spent}
use Rattle.handle_cache.proofs.Calls.{still_held}

-- the root's key, by the header that was read
pub root_gains : (s : SectionsView) (unit : ℕ) (header : UnitHeader) (old new : List ℕ) → unit_header s unit ≡ Ok header
    → RootPlaces s.«abbrev» header.«abbrev» old new (root_code_of s header) → GainsOnly (IsRootKey s unit) old new
root_gains s unit header old new read placed =
    GainsOnly-weaker (IsRootKeyOf header.«abbrev» (root_code_of s header)) (IsRootKey s unit) old new
    (λ k root. record { header = header; header_is = read; root = root })
    (RootPlaces-gains s.«abbrev» header.«abbrev» old new (root_code_of s header) placed)

pub gains_none : (P : ℕ → Type 0) (old new : List ℕ) → new ≡ old → GainsOnly P old new
gains_none P old new same = subst (GainsOnly P old) (sym same) (GainsOnly-same P old)

-- one word more
pub gains_word : (unit word k : ℕ) (first old new : List ℕ) (found : Type 0) → k ≡ word_key unit word → word < 8 → GainsOnly (IsWordKey unit) first old
    → PlacesAtMost old new k found → GainsOnly (IsWordKey unit) first new
gains_word unit word k first old new found is inside before placed =
    GainsOnly-then (IsWordKey unit) first old new before
    (GainsOnly-one (IsWordKey unit) old new k found (λ f. record { word = word; inside = inside; is = is }) placed)

-- the root's key, and then the words'
pub gains_facts : (s : SectionsView) (unit : ℕ) (first middle last : List ℕ) → GainsOnly (IsRootKey s unit) first middle → GainsOnly (IsWordKey unit) middle last
    → GainsOnly (IsFactKey s unit) first last
gains_facts s unit first middle last root words =
    GainsOnly-then (IsFactKey s unit) first middle last
    (GainsOnly-weaker (IsRootKey s unit) (IsFactKey s unit) first middle (λ k p. inr p) root)
    (GainsOnly-weaker (IsWordKey unit) (IsFactKey s unit) middle last (λ k p. inl p) words)

pub gains_root : (s : SectionsView) (unit : ℕ) (first last : List ℕ) → GainsOnly (IsRootKey s unit) first last → GainsOnly (IsFactKey s unit) first last
gains_root s unit first last root = GainsOnly-weaker (IsRootKey s unit) (IsFactKey s unit) first last (λ k p. inr p) root

-- words of a front, one more
pub no_words : (keys : List ℕ) (unit : ℕ) → HasWords keys unit 0
no_words keys unit word inside = absurd (omega arith)

pub words_held : (p q : PassView) (unit count : ℕ) → Follows p q → HasWords (front_keys p) unit count → HasWords (front_keys q) unit count
words_held p q unit count f has word inside = still_held p q (word_key unit word) f (has word inside)

pub one_more_word : (keys : List ℕ) (unit count : ℕ) → HasWords keys unit count → Contains keys (word_key unit count) → HasWords keys unit (count + 1)
one_more_word keys unit count has last word inside =
    dite (ℕ_discrete count word)
    (λ is. subst (λ (n : ℕ). Contains keys (word_key unit n)) is last)
    (λ isnt. has word (omega (arith, isnt)))

pub noted_more : (p q : PassView) (unit count : ℕ) → Follows p q → HasWords (front_keys p) unit count ⊎ (is_spent p ≡ true) → Notes (front_keys q) (is_spent q) (word_key unit count)
    → HasWords (front_keys q) unit (count + 1) ⊎ (is_spent q ≡ true)
noted_more p q unit count f (inr spent) noted = inr (still_spent p q f spent)
noted_more p q unit count f (inl has) (inr spent) = inr spent
noted_more p q unit count f (inl has) (inl last) = inl (one_more_word (front_keys q) unit count (words_held p q unit count f has) last)
