-- One link more of the chain.
use Rattle.std.proofs.Common.{◌≡◌, sym, ◌∙◌, ap, refl, ℕ, zero, suc, ◌+◌, ◌<◌, ◌≤◌, Bool, List, [], ◌∷◌, ◌++◌, length, append_assoc, append-nil, le-leb}
use Rattle.std.proofs.lemmas.Bool.{lt-leb}
use Rattle.dw_fields.specs.declared.byte_order.Order.{Order}
use Rattle.dw_fields.specs.declared.fault_code.Fault.{Fault}
use Rattle.unit_headers.specs.declared.chain.Link.{Link}
use Rattle.unit_headers.specs.declared.chain.Link.TheVariants.{Whole, Broken}
use Rattle.unit_headers.specs.Links.{followed, link_at, links_from, unit_chain}

pub chain_begins : (info : List ℕ) (order : Order) (most : ℕ) (links : List Link) → most ≡ length info → links ≡ [] → links ++ links_from most info order 0 0 ≡ unit_chain info order
unfolding unit_chain
chain_begins info order most links fuel none = ap (λ l. l ++ links_from most info order 0 0) none ∙ ap (λ k. links_from k info order 0 0) fuel

links_next : (info : List ℕ) (order : Order) (most left number place : ℕ) (link : Link)
    → place < length info → most ≡ suc left → link ≡ link_at info order number place
    → links_from most info order number place ≡ followed link (λ end. links_from left info order (number + 1) end)
unfolding links_from
links_next info order most left number place link inside fuel e = rw (fuel, lt-leb (length info) place inside, ← e) refl

pub chain_next : (info : List ℕ) (order : Order) (most left number place start body end : ℕ) (wide : Bool) (links more all : List Link)
    → place < length info → most ≡ suc left → Whole start body end wide ≡ link_at info order number place
    → more ≡ links ++ Whole start body end wide ∷ []
    → links ++ links_from most info order number place ≡ all
    → more ++ links_from left info order (number + 1) end ≡ all
chain_next info order most left number place start body end wide links more all inside fuel e pushed before =
    let next : links_from most info order number place ≡ Whole start body end wide ∷ links_from left info order (number + 1) end
    = links_next info order most left number place (Whole start body end wide) inside fuel e in
    ap (λ l. l ++ links_from left info order (number + 1) end) pushed
    ∙ append_assoc links (Whole start body end wide ∷ []) (links_from left info order (number + 1) end)
    ∙ ap (λ l. links ++ l) (sym next)
    ∙ before

pub chain_breaks : (info : List ℕ) (order : Order) (most left number place : ℕ) (f : Fault) (links more all : List Link)
    → place < length info → most ≡ suc left → Broken f ≡ link_at info order number place
    → more ≡ links ++ Broken f ∷ []
    → links ++ links_from most info order number place ≡ all
    → more ≡ all
chain_breaks info order most left number place f links more all inside fuel e pushed before =
    let next : links_from most info order number place ≡ Broken f ∷ [] = links_next info order most left number place (Broken f) inside fuel e in
    pushed ∙ ap (λ l. links ++ l) (sym next) ∙ before

pub chain_ends : (info : List ℕ) (order : Order) (most number place : ℕ) (links all : List Link)
    → length info ≤ place → links ++ links_from most info order number place ≡ all → links ≡ all
unfolding links_from
chain_ends info order zero number place links all past before = sym (append-nil links) ∙ before
chain_ends info order (suc most) number place links all past before =
    let none : links_from (suc most) info order number place ≡ [] = rw (le-leb (length info) place past) refl in
    sym (append-nil links) ∙ ap (λ l. links ++ l) (sym none) ∙ before
