-- One section more in the plan.
use Rattle.std.proofs.Common.{◌≡◌, ℕ, suc, ◌+◌, ◌<◌, ◌≤◌, List, [], ◌∷◌, ◌++◌, length, get_or, drop, map, refl, sym, ◌∙◌, ap, append_assoc, add_assoc, add-one, drop-cons, length-append}
use Rattle.std.proofs.Math.Nat.{add-zero}
use Rattle.std.proofs.lemmas.List.{append-nil, drop_all}
use Rattle.elf_sections.specs.declared.class_layout.ClassLayout.{ClassLayout}
use Rattle.elf_builder.specs.declared.sections.GivenSection.{GivenSection}
use Rattle.elf_builder.specs.Given.{Given, given}
use Rattle.elf_builder.specs.Headers.{section_header}
use Rattle.elf_builder.specs.File.{given_contents, ended_names, given_names, given_headers}

-- the sections that are left begin with this one
pub left_from : (sections : List GivenSection) (i : ℕ) (s : GivenSection) → i < length sections → s ≡ get_or sections i s → map given (drop i sections) ≡ given s ∷ map given (drop (i + 1) sections)
left_from sections i s within is =
    let next : drop i sections ≡ s ∷ drop (i + 1) sections = rw (add-one i) (drop-cons sections i s within ∙ ap (λ t. t ∷ drop (suc i) sections) (sym is)) in
    ap (λ t. map given t) next

pub contents_step : (old new : List ℕ) (s : Given) (rest all : List Given) → all ≡ s ∷ rest → new ≡ old ++ s.bytes → new ++ given_contents rest ≡ old ++ given_contents all
unfolding given_contents
contents_step old new s rest all front grown = rw (front, grown) (append_assoc old s.bytes (given_contents rest))

pub names_step : (old new : List ℕ) (s : Given) (rest all : List Given) → all ≡ s ∷ rest → new ≡ (old ++ s.name) ++ 0 ∷ [] → new ++ ended_names rest ≡ old ++ ended_names all
unfolding ended_names
names_step old new s rest all front grown = rw (front, grown, append_assoc old s.name (0 ∷ [])) (append_assoc old (s.name ++ 0 ∷ []) (ended_names rest))

-- the contents begin at `start` in the file
pub headers_step : (layout : ClassLayout) (start : ℕ) (old new names names' contents contents' : List ℕ) (s : Given) (rest all : List Given) → all ≡ s ∷ rest
    → names' ≡ (names ++ s.name) ++ 0 ∷ []
    → contents' ≡ contents ++ s.bytes
    → new ≡ old ++ section_header layout (length names) 1 (start + length contents) (length s.bytes)
    → new ++ given_headers layout (length names') (start + length contents') rest ≡ old ++ given_headers layout (length names) (start + length contents) all
unfolding given_headers
headers_step layout start old new names names' contents contents' s rest all front named held grown =
    let name_end : length names' ≡ length names + length s.name + 1 = rw (named, length-append (names ++ s.name) (0 ∷ []), length-append names s.name) refl in
    let place_end : start + length contents' ≡ start + length contents + length s.bytes = rw (held, length-append contents s.bytes) (sym (add_assoc start (length contents) (length s.bytes))) in
    rw (front, grown, name_end, place_end) (append_assoc old _ _)

-- behind the last section nothing is left
pub none_left : (sections : List GivenSection) (i : ℕ) → length sections ≤ i → map given (drop i sections) ≡ []
none_left sections i past = ap (λ t. map given t) (drop_all i sections past)

pub contents_end : (old : List ℕ) (all : List Given) → all ≡ [] → old ++ given_contents all ≡ old
unfolding given_contents
contents_end old all none = rw none (append-nil old)

pub names_end : (old : List ℕ) (all : List Given) → all ≡ [] → old ++ ended_names all ≡ old
unfolding ended_names
names_end old all none = rw none (append-nil old)

pub headers_end : (layout : ClassLayout) (old : List ℕ) (name place : ℕ) (all : List Given) → all ≡ [] → old ++ given_headers layout name place all ≡ old
unfolding given_headers
headers_end layout old name place all none = rw none (append-nil old)

pub names_begin : (all : List Given) → (0 ∷ []) ++ ended_names all ≡ given_names all
unfolding given_names
names_begin all = refl

-- before the first section nothing is laid out
pub headers_begin : (layout : ClassLayout) (start : ℕ) (all : List Given) → given_headers layout 1 (start + 0) all ≡ given_headers layout 1 start all
headers_begin layout start all = ap (λ place. given_headers layout 1 place all) (add-zero start)
