-- How the lines of addresses go out, some at a time.
use Rattle.std.proofs.Common.{◌≡◌, ◌∙◌, ℕ, ◌+◌, ◌<◌, ◌≤◌, List, ◌++◌, drop, length, get_or, drop-cons, add-one, Option, None, Result, Ok, Err, refl, sym, ap, append_assoc, subst}
use Rattle.std.proofs.lemmas.List.{append-nil, drop_all}
use Rattle.dw_outside.specs.Gains.{Gains, GainsPart}
use Rattle.dw_outside.specs.GainsLaws.{Gains-then, GainsPart-then, GainsPart-more}
use Rattle.dw_outside.specs.declared.stops.WriteStop.{WriteStop}
use Rattle.elf_sections.specs.Shapes.{SectionsView}
use Rattle.address_lookup.specs.Places.{place_of}
use Rattle.dw_run.specs.declared.refusals.Refusal.{Refusal}
use Rattle.dw_run.specs.AddressLines.{address_line, address_lines}
use Rattle.dw_run.specs.CommandTexts.{Prints, Sends, whole}

-- the lines from this address on
abbrev pub lines_from : SectionsView → List ℕ → ℕ → List ℕ
lines_from s addresses i = address_lines s (drop i addresses)

-- the line of the next address, and those behind it
lines_next : (s : SectionsView) (addresses : List ℕ) (i d : ℕ) → i < length addresses
    → lines_from s addresses i ≡ address_line (place_of s (get_or addresses i d)) ++ lines_from s addresses (i + 1)
unfolding address_lines
lines_next s addresses i d inside = rw (drop-cons addresses i d inside) (rw add-one refl)

-- what was kept and a line, of which a front went out
together : (kept line rest sent others : List ℕ) → kept ++ line ≡ sent ++ rest → kept ++ (line ++ others) ≡ sent ++ (rest ++ others)
together kept line rest sent others e = sym (append_assoc kept line others) ∙ ap (λ x. x ++ others) e ∙ append_assoc sent rest others

-- a front of what was kept and a line went out, and then all the others
pub sent_then : (kept line rest others : List ℕ) (old mid : Option (List ℕ)) (r : Result (Option Refusal) WriteStop) (new : Option (List ℕ))
    → Sends {E = WriteStop} (Ok tt) (kept ++ line) rest old mid → Prints r (whole (rest ++ others)) mid new → Prints r (whole (kept ++ (line ++ others))) old new
sent_then kept line rest others old mid (Ok refusal) new sends printed =
    (printed.0, subst (Gains old new) (sym (together kept line rest sends.0 others sends.1)) (Gains-then old mid new sends.0 (rest ++ others) sends.2 printed.1))
sent_then kept line rest others old mid (Err stop) new sends printed =
    subst (GainsPart old new) (sym (together kept line rest sends.0 others sends.1)) (GainsPart-then old mid new sends.0 (rest ++ others) sends.2 printed)

-- the line of the next address was added to what is kept, and the others are printed
pub lines_sent : (s : SectionsView) (addresses : List ℕ) (i d : ℕ) (kept rest : List ℕ) (old mid : Option (List ℕ)) (r : Result (Option Refusal) WriteStop) (new : Option (List ℕ))
    → i < length addresses → Sends {E = WriteStop} (Ok tt) (kept ++ address_line (place_of s (get_or addresses i d))) rest old mid
    → Prints r (whole (rest ++ lines_from s addresses (i + 1))) mid new → Prints r (whole (kept ++ lines_from s addresses i)) old new
lines_sent s addresses i d kept rest old mid r new inside sends printed =
    subst (λ (x : List ℕ). Prints r (whole (kept ++ x)) old new) (sym (lines_next s addresses i d inside))
    (sent_then kept (address_line (place_of s (get_or addresses i d))) rest (lines_from s addresses (i + 1)) old mid r new sends printed)

-- the sink stopped within what was kept and the next line
pub lines_cut : (s : SectionsView) (addresses : List ℕ) (i d : ℕ) (kept : List ℕ) (old new : Option (List ℕ)) (stop : WriteStop)
    → i < length addresses → GainsPart old new (kept ++ address_line (place_of s (get_or addresses i d)))
    → Prints {E = WriteStop} (Err stop) (whole (kept ++ lines_from s addresses i)) old new
lines_cut s addresses i d kept old new stop inside part =
    let line : List ℕ = address_line (place_of s (get_or addresses i d)) in
    subst (λ (x : List ℕ). GainsPart old new (kept ++ x)) (sym (lines_next s addresses i d inside))
    (subst (GainsPart old new) (append_assoc kept line (lines_from s addresses (i + 1))) (GainsPart-more old new (kept ++ line) _ part))

-- no address is left
pub lines_end : (s : SectionsView) (addresses : List ℕ) (i : ℕ) (kept : List ℕ) → length addresses ≤ i → kept ++ lines_from s addresses i ≡ kept
unfolding address_lines
lines_end s addresses i kept past = rw (drop_all i addresses past) (append-nil kept)

-- what is kept went out last
pub kept_sent : (s : SectionsView) (addresses : List ℕ) (i : ℕ) (kept sent : List ℕ) (old new : Option (List ℕ))
    → length addresses ≤ i → sent ≡ kept → Gains old new sent → Prints {E = WriteStop} (Ok None) (whole (kept ++ lines_from s addresses i)) old new
kept_sent s addresses i kept sent old new past same gains = (refl, subst (Gains old new) (same ∙ sym (lines_end s addresses i kept past)) gains)

-- or a part of it
pub kept_cut : (s : SectionsView) (addresses : List ℕ) (i : ℕ) (kept sent : List ℕ) (old new : Option (List ℕ)) (stop : WriteStop)
    → length addresses ≤ i → sent ≡ kept → GainsPart old new sent → Prints {E = WriteStop} (Err stop) (whole (kept ++ lines_from s addresses i)) old new
kept_cut s addresses i kept sent old new stop past same part = subst (GainsPart old new) (same ∙ sym (lines_end s addresses i kept past)) part
