-- Laws on the chain of units and on their headers.
use Rattle.std.specs.Prelude.{◌≡◌, ◌||◌, ℕ, zero, suc, ◌+◌, ◌<◌, ◌≤◌, ◌==◌, not, nat_le, nat_lt, Bool, true, false, cond, List, [], ◌∷◌, length, get_or, Result, Ok, Err, IfOk, refl}
use Rattle.std.proofs.Common.{inl, inr, sym, ◌∙◌, ap, subst, arith, leb-true, ltb-false, eqb-true}
use Rattle.std.proofs.lemmas.List.{get_or_default}
use Rattle.std.proofs.lemmas.Bool.Decides.{nat_tests}
use Rattle.dw_fields.specs.declared.byte_order.Order.{Order}
use Rattle.dw_fields.specs.declared.cursor.Length.{Length}
use Rattle.dw_fields.specs.declared.fault_code.Code.TheVariants.{Truncated, UnitTruncated, UnitVersion, UnitLimit, AddressSize, AbbrevOutside}
use Rattle.dw_fields.specs.declared.fault_code.Fault.{Fault}
use Rattle.dw_fields.specs.Codes.{fault}
use Rattle.dw_fields.specs.Span.{Span, at}
use Rattle.dw_fields.specs.Reading.{◌>>=◌, IsAddressSize, is_address_size, length_at, number_at, offset_at, refuse}
use Rattle.dw_fields.specs.ReaderLaws.{is_address_size-true, length_at-past, next-IfOk, number_at-past, offset_at-past, refuse-IfOk, renamed-IfOk}
use Rattle.unit_headers.specs.declared.chain.Link.{Link}
use Rattle.unit_headers.specs.declared.chain.Link.TheVariants.{Whole, Broken}
use Rattle.unit_headers.specs.declared.chain.TheConstants.{UNIT_LIMIT}
use Rattle.unit_headers.specs.declared.header.UnitFields.{UnitFields}
use Rattle.unit_headers.specs.declared.header.UnitHeader.{UnitHeader}
use Rattle.unit_headers.specs.declared.kind.Extra.TheVariants.{Id, Signature}
use Rattle.unit_headers.specs.declared.kind.UnitKind.{UnitKind}
use Rattle.unit_headers.specs.declared.kind.UnitKind.TheVariants.{Compile, TypeUnit, Partial, Skeleton, SplitCompile, SplitType}
use Rattle.unit_headers.specs.Kinds.{HasExtraOf, extra_at, id_at, in_unit, kind_of, signature_at}
use Rattle.unit_headers.specs.Links.{LeadsOn, LiesIn, Tile, followed, link_at, link_of, links_from, section_from, unit_chain}
use Rattle.unit_headers.specs.Headers.{HasShape, IsUnitVersion, declarations_at, fields_at, fields_of_version_4, fields_of_version_5, header_at, header_of, is_unit_version, kind_at, linked_header, size_at, unit_count, version_at}

whole_leads : (size number place : ℕ) (read : Length × ℕ) (b : Bool) → nat_le (read.1 + read.0.value) size ≡ b → place + 4 ≤ read.1 → number < UNIT_LIMIT
    → LeadsOn size number place (cond b (Whole place read.1 (read.1 + read.0.value) read.0.wide) (Broken (fault UnitTruncated place)))
whole_leads size number place read true test past counted = (refl, past, omega arith, leb-true (read.1 + read.0.value) size test, counted)
whole_leads size number place read false test past counted = tt

link_leads : (size number place : ℕ) (read : Result (Length × ℕ) Fault) → number < UNIT_LIMIT → IfOk read (λ r. (place + 4 ≤ r.1) × (r.1 ≤ size)) → LeadsOn size number place (link_of size place read)
link_leads size number place (Ok r) counted past = whole_leads size number place r (nat_le (r.1 + r.0.value) size) refl past.0 counted
link_leads size number place (Err f) counted past = tt

below : (number : ℕ) → number ≤ UNIT_LIMIT → number == UNIT_LIMIT ≡ false → number < UNIT_LIMIT
below number counted test = grind (arith, nat_tests)

link_test : (info : List ℕ) (order : Order) (number place : ℕ) (b : Bool) → number ≤ UNIT_LIMIT → number == UNIT_LIMIT ≡ b
    → LeadsOn (length info) number place (cond b (Broken (fault UnitLimit place)) (link_of (length info) place (in_unit (length_at (section_from info order place)))))
link_test info order number place true counted test = tt
link_test info order number place false counted test =
    link_leads (length info) number place (in_unit (length_at (section_from info order place))) (below number counted test)
    (renamed-IfOk (λ r. (place + 4 ≤ r.1) × (r.1 ≤ length info)) Truncated UnitTruncated (length_at (section_from info order place)) (length_at-past (section_from info order place)))

-- a link that was followed lies in the section and has at least 4 bytes
pub link_at-leads : (info : List ℕ) (order : Order) (number place : ℕ) → number ≤ UNIT_LIMIT → LeadsOn (length info) number place (link_at info order number place)
unfolding link_at
link_at-leads info order number place counted = link_test info order number place (number == UNIT_LIMIT) counted refl

tile_followed : (info : List ℕ) (order : Order) (most number place : ℕ) (link : Link)
    → link ≡ link_at info order number place → LeadsOn (length info) number place link
    → ((end : ℕ) → place < end → end ≤ length info → number < UNIT_LIMIT → Tile info order (number + 1) end (links_from most info order (number + 1) end))
    → Tile info order number place (followed link (λ end. links_from most info order (number + 1) end))
tile_followed info order most number place (Whole start body end wide) e leads later =
    (leads.0, sym e, later end (omega arith) leads.3 leads.4)
tile_followed info order most number place (Broken f) e leads later = (sym e, refl)

tile_begun : (info : List ℕ) (order : Order) (most number place : ℕ) (b : Bool) → nat_le (length info) place ≡ b
    → place ≤ length info → number ≤ UNIT_LIMIT
    → ((end : ℕ) → place < end → end ≤ length info → number < UNIT_LIMIT → Tile info order (number + 1) end (links_from most info order (number + 1) end))
    → Tile info order number place (cond b [] (followed (link_at info order number place) (λ end. links_from most info order (number + 1) end)))
tile_begun info order most number place true test inside counted later =
    let past : length info ≤ place = leb-true (length info) place test in omega arith
tile_begun info order most number place false test inside counted later =
    tile_followed info order most number place (link_at info order number place) refl (link_at-leads info order number place counted) later

tile_from : (info : List ℕ) (order : Order) (most number place : ℕ) → place ≤ length info → length info ≤ place + most → number ≤ UNIT_LIMIT
    → Tile info order number place (links_from most info order number place)
unfolding links_from
tile_from info order zero number place inside fuel counted = omega arith
tile_from info order (suc most) number place inside fuel counted =
    tile_begun info order most number place (nat_le (length info) place) refl inside counted
    (λ end on within below. tile_from info order most (number + 1) end within (omega arith) (omega arith))

pub chain_tiles : (info : List ℕ) (order : Order) → Tile info order 0 0 (unit_chain info order)
unfolding unit_chain
chain_tiles info order = tile_from info order (length info) 0 0 (omega arith) (omega arith) (omega arith)

-- the link at an index leads on from some place; none stands behind the last
tile_leads : (info : List ℕ) (order : Order) (number place : ℕ) (links : List Link) (i n : ℕ) (f : Fault)
    → Tile info order number place links → number ≤ UNIT_LIMIT → n ≡ number + i
    → (start : ℕ) × LeadsOn (length info) n start (get_or links i (Broken f))
tile_leads info order number place [] i n f tile counted e = (place, tt)
tile_leads info order number place (Whole start body end wide ∷ links) zero n f tile counted e =
    let here : LeadsOn (length info) number place (Whole start body end wide)
    = subst (λ l. LeadsOn (length info) number place l) tile.1 (link_at-leads info order number place counted) in
    (place, (here.0, here.1, here.2, here.3, omega arith))
tile_leads info order number place (Whole start body end wide ∷ links) (suc i) n f tile counted e =
    let here : LeadsOn (length info) number place (Whole start body end wide)
    = subst (λ l. LeadsOn (length info) number place l) tile.1 (link_at-leads info order number place counted) in
    let below : number < UNIT_LIMIT = here.4 in
    tile_leads info order (number + 1) end links i n f tile.2 (omega arith) (omega arith)
tile_leads info order number place (Broken g ∷ links) zero n f tile counted e = (place, tt)
tile_leads info order number place (Broken g ∷ links) (suc i) n f tile counted e =
    rw tile.1 (place, tt)

-- a field of a header and the place behind it, with what holds of the field
abbrev pub IsField : {X : Type 0} → (X → Type 0) → ℕ → Span → Result (X × ℕ) Fault → Type 0
IsField P least s read = IfOk read (λ r. P r.0 × (s.place + least ≤ r.1) × (r.1 ≤ s.end))

number_past : (n : ℕ) (s : Span) → IfOk (in_unit (number_at n s)) (λ r. (s.place + n ≤ r.1) × (r.1 ≤ s.end))
number_past n s = renamed-IfOk (λ r. (s.place + n ≤ r.1) × (r.1 ≤ s.end)) Truncated UnitTruncated (number_at n s) (number_at-past n s)

offset_past : (wide : Bool) (s : Span) → IfOk (in_unit (offset_at wide s)) (λ r. (s.place + 4 ≤ r.1) × (r.1 ≤ s.end))
offset_past wide s = renamed-IfOk (λ r. (s.place + 4 ≤ r.1) × (r.1 ≤ s.end)) Truncated UnitTruncated (offset_at wide s) (offset_at-past wide s)

not_false : (b : Bool) → not b ≡ false → b ≡ true
not_false true e = refl
not_false false e = sym e

by_version : (version : ℕ) (four five : Bool) → version == 4 ≡ four → version == 5 ≡ five → (four || five) ≡ true → IsUnitVersion version
by_version version true five a b e = inl (eqb-true version 4 a)
by_version version false five a b e = inr (eqb-true version 5 (b ∙ e))

version_field : (s : Span) → IsField IsUnitVersion 2 s (version_at s)
unfolding version_at
version_field s =
    next-IfOk (λ r. (s.place + 2 ≤ r.1) × (r.1 ≤ s.end)) (λ r. IsUnitVersion r.0 × (s.place + 2 ≤ r.1) × (r.1 ≤ s.end)) (in_unit (number_at 2 s)) _ (number_past 2 s)
    (λ v past. next-IfOk (λ _. not (is_unit_version v.0) ≡ false) (λ r. IsUnitVersion r.0 × (s.place + 2 ≤ r.1) × (r.1 ≤ s.end)) (refuse (not (is_unit_version v.0)) (fault UnitVersion s.place)) _
    (refuse-IfOk (not (is_unit_version v.0)) (fault UnitVersion s.place)) (λ u e. (by_version v.0 (v.0 == 4) (v.0 == 5) refl refl (not_false (is_unit_version v.0) e), past.0, past.1)))

kind_after : (s : Span) (k : ℕ × ℕ) (kind : Result UnitKind Fault) → (s.place + 1 ≤ k.1) × (k.1 ≤ s.end)
    → IfOk {T = UnitKind × ℕ} (kind >>= (λ x. Ok (x, k.1))) (λ r. (s.place + 1 ≤ r.1) × (r.1 ≤ s.end))
kind_after s k (Ok kind) past = past
kind_after s k (Err f) past = tt

kind_field : (s : Span) → IfOk (kind_at s) (λ r. (s.place + 1 ≤ r.1) × (r.1 ≤ s.end))
unfolding kind_at
kind_field s =
    next-IfOk (λ r. (s.place + 1 ≤ r.1) × (r.1 ≤ s.end)) (λ r. (s.place + 1 ≤ r.1) × (r.1 ≤ s.end)) (in_unit (number_at 1 s)) _ (number_past 1 s)
    (λ k past. kind_after s k (kind_of k.0 s.place) past)

size_field : (s : Span) → IsField IsAddressSize 1 s (size_at s)
unfolding size_at
size_field s =
    next-IfOk (λ r. (s.place + 1 ≤ r.1) × (r.1 ≤ s.end)) (λ r. IsAddressSize r.0 × (s.place + 1 ≤ r.1) × (r.1 ≤ s.end)) (in_unit (number_at 1 s)) _ (number_past 1 s)
    (λ v past. next-IfOk (λ _. not (is_address_size v.0) ≡ false) (λ r. IsAddressSize r.0 × (s.place + 1 ≤ r.1) × (r.1 ≤ s.end)) (refuse (not (is_address_size v.0)) (fault AddressSize s.place)) _
    (refuse-IfOk (not (is_address_size v.0)) (fault AddressSize s.place)) (λ u e. (is_address_size-true v.0 (not_false (is_address_size v.0) e), past.0, past.1)))

declarations_field : (abbrev_length : ℕ) (wide : Bool) (s : Span) → IsField (λ o. o ≤ abbrev_length) 4 s (declarations_at abbrev_length wide s)
unfolding declarations_at
declarations_field abbrev_length wide s =
    next-IfOk (λ r. (s.place + 4 ≤ r.1) × (r.1 ≤ s.end)) (λ r. (r.0 ≤ abbrev_length) × (s.place + 4 ≤ r.1) × (r.1 ≤ s.end)) (in_unit (offset_at wide s)) _ (offset_past wide s)
    (λ v past. next-IfOk (λ _. nat_lt abbrev_length v.0 ≡ false) (λ r. (r.0 ≤ abbrev_length) × (s.place + 4 ≤ r.1) × (r.1 ≤ s.end)) (refuse (nat_lt abbrev_length v.0) (fault AbbrevOutside s.place)) _
    (refuse-IfOk (nat_lt abbrev_length v.0) (fault AbbrevOutside s.place)) (λ u e. (ltb-false abbrev_length v.0 e, past.0, past.1)))

id_field : (s : Span) → IfOk (id_at s) (λ r. ((id : ℕ) × (r.0 ≡ Id id)) × (s.place ≤ r.1) × (r.1 ≤ s.end))
unfolding id_at
id_field s =
    next-IfOk (λ r. (s.place + 8 ≤ r.1) × (r.1 ≤ s.end)) (λ r. ((id : ℕ) × (r.0 ≡ Id id)) × (s.place ≤ r.1) × (r.1 ≤ s.end)) (in_unit (number_at 8 s)) _ (number_past 8 s)
    (λ v past. ((v.0, refl), omega arith, past.1))

signature_field : (wide : Bool) (s : Span) → IfOk (signature_at wide s) (λ r. ((signature : ℕ) × (offset : ℕ) × (r.0 ≡ Signature signature offset)) × (s.place ≤ r.1) × (r.1 ≤ s.end))
unfolding signature_at
signature_field wide s =
    next-IfOk (λ r. (s.place + 8 ≤ r.1) × (r.1 ≤ s.end)) (λ r. ((signature : ℕ) × (offset : ℕ) × (r.0 ≡ Signature signature offset)) × (s.place ≤ r.1) × (r.1 ≤ s.end)) (in_unit (number_at 8 s)) _ (number_past 8 s)
    (λ v past. next-IfOk (λ r. (v.1 + 4 ≤ r.1) × (r.1 ≤ s.end)) (λ r. ((signature : ℕ) × (offset : ℕ) × (r.0 ≡ Signature signature offset)) × (s.place ≤ r.1) × (r.1 ≤ s.end)) (in_unit (offset_at wide (at s v.1))) _ (offset_past wide (at s v.1))
    (λ o far. ((v.0, o.0, refl), omega arith, far.1)))

extra_field : (kind : UnitKind) (wide : Bool) (s : Span) → s.place ≤ s.end → IfOk (extra_at kind wide s) (λ r. HasExtraOf kind r.0 × (s.place ≤ r.1) × (r.1 ≤ s.end))
unfolding extra_at
extra_field Compile wide s within = (refl, omega arith, within)
extra_field TypeUnit wide s within = signature_field wide s
extra_field Partial wide s within = (refl, omega arith, within)
extra_field Skeleton wide s within = id_field s
extra_field SplitCompile wide s within = id_field s
extra_field SplitType wide s within = signature_field wide s

-- what the fields behind a version say of the header
record HasFields (version abbrev_length : ℕ) (s : Span) (read : UnitFields × ℕ) : Type 0 where
  pub address : IsAddressSize read.0.address_size
  pub declarations : read.0.«abbrev» ≤ abbrev_length
  pub forward : s.place ≤ read.1
  pub inside : read.1 ≤ s.end
  pub extra : HasExtraOf read.0.kind read.0.extra
  pub compile : version ≡ 4 → read.0.kind ≡ Compile

fields_5 : (version abbrev_length : ℕ) (wide : Bool) (s : Span) → (version ≡ 4 → ⊥) → IfOk (fields_of_version_5 abbrev_length wide s) (HasFields version abbrev_length s)
unfolding fields_of_version_5
fields_5 version abbrev_length wide s later =
    next-IfOk (λ r. (s.place + 1 ≤ r.1) × (r.1 ≤ s.end)) (HasFields version abbrev_length s) (kind_at s) _ (kind_field s) (λ kind b.
    next-IfOk (λ r. IsAddressSize r.0 × (kind.1 + 1 ≤ r.1) × (r.1 ≤ s.end)) (HasFields version abbrev_length s) (size_at (at s kind.1)) _ (size_field (at s kind.1)) (λ bytes c.
    next-IfOk (λ r. (r.0 ≤ abbrev_length) × (bytes.1 + 4 ≤ r.1) × (r.1 ≤ s.end)) (HasFields version abbrev_length s) (declarations_at abbrev_length wide (at s bytes.1)) _ (declarations_field abbrev_length wide (at s bytes.1)) (λ declarations d.
    next-IfOk (λ r. HasExtraOf kind.0 r.0 × (declarations.1 ≤ r.1) × (r.1 ≤ s.end)) (HasFields version abbrev_length s) (extra_at kind.0 wide (at s declarations.1)) _ (extra_field kind.0 wide (at s declarations.1) d.2) (λ extra e.
    record {
      address = c.0;
      declarations = d.0;
      forward = omega arith;
      inside = e.2;
      extra = e.0;
      compile = λ four. absurd (later four);
    }))))

fields_4 : (version abbrev_length : ℕ) (wide : Bool) (s : Span) → IfOk (fields_of_version_4 abbrev_length wide s) (HasFields version abbrev_length s)
unfolding fields_of_version_4
fields_4 version abbrev_length wide s =
    next-IfOk (λ r. (r.0 ≤ abbrev_length) × (s.place + 4 ≤ r.1) × (r.1 ≤ s.end)) (HasFields version abbrev_length s) (declarations_at abbrev_length wide s) _ (declarations_field abbrev_length wide s) (λ declarations d.
    next-IfOk (λ r. IsAddressSize r.0 × (declarations.1 + 1 ≤ r.1) × (r.1 ≤ s.end)) (HasFields version abbrev_length s) (size_at (at s declarations.1)) _ (size_field (at s declarations.1)) (λ bytes c.
    record {
      address = c.0;
      declarations = d.0;
      forward = omega arith;
      inside = c.2;
      extra = refl;
      compile = λ four. refl;
    }))

not_four : (version : ℕ) → version == 4 ≡ false → version ≡ 4 → ⊥
not_four version test four = grind (arith, nat_tests)

fields_field : (version abbrev_length : ℕ) (wide : Bool) (s : Span) (b : Bool) → version == 4 ≡ b
    → IfOk (cond b (fields_of_version_4 abbrev_length wide s) (fields_of_version_5 abbrev_length wide s)) (HasFields version abbrev_length s)
fields_field version abbrev_length wide s true test = fields_4 version abbrev_length wide s
fields_field version abbrev_length wide s false test = fields_5 version abbrev_length wide s (not_four version test)

header_of-shape : (size abbrev_length number place : ℕ) (wide : Bool) (s : Span) → place + 4 ≤ s.place → s.end ≤ size
    → IfOk (header_of abbrev_length number place wide s) (λ h. HasShape size abbrev_length number h)
unfolding header_of fields_at
header_of-shape size abbrev_length number place wide s begun within =
    next-IfOk (λ r. IsUnitVersion r.0 × (s.place + 2 ≤ r.1) × (r.1 ≤ s.end)) (λ h. HasShape size abbrev_length number h) (version_at s) _ (version_field s) (λ version a.
    next-IfOk (HasFields version.0 abbrev_length (at s version.1)) (λ h. HasShape size abbrev_length number h) (fields_at version.0 abbrev_length wide (at s version.1)) _ (fields_field version.0 abbrev_length wide (at s version.1) (version.0 == 4) refl) (λ fields b.
    record {
      counted = refl;
      version = a.0;
      address = b.address;
      declarations = b.declarations;
      begins = omega (arith, b.forward);
      inside = b.inside;
      ends = within;
      extra = b.extra;
      compile = b.compile;
    }))

linked_shape : (info : List ℕ) (order : Order) (abbrev_length i start : ℕ) (link : Link) → LeadsOn (length info) i start link
    → IfOk (linked_header info order abbrev_length i link) (λ h. HasShape (length info) abbrev_length i h)
linked_shape info order abbrev_length i start (Whole place body end wide) leads =
    header_of-shape (length info) abbrev_length i place wide (record { bytes = info; place = body; end = end; order = order }) (omega arith) leads.3
linked_shape info order abbrev_length i start (Broken f) leads = tt

-- a header lies in its unit and in the section, and its fields are those of its kind
pub header_shape : (info : List ℕ) (order : Order) (abbrev_length i : ℕ) → IfOk (header_at info order abbrev_length i) (λ h. HasShape (length info) abbrev_length i h)
unfolding header_at
header_shape info order abbrev_length i =
    let leads = tile_leads info order 0 0 (unit_chain info order) i i (fault UnitTruncated (length info)) (chain_tiles info order) (omega arith) (omega arith) in
    linked_shape info order abbrev_length i leads.0 (get_or (unit_chain info order) i (Broken (fault UnitTruncated (length info)))) leads.1

pub header_met : (info : List ℕ) (order : Order) (abbrev_length i : ℕ) (result : Result UnitHeader Fault)
    → result ≡ header_at info order abbrev_length i → IfOk result (λ h. HasShape (length info) abbrev_length i h)
header_met info order abbrev_length i result e =
    subst (λ r. IfOk r (λ h. HasShape (length info) abbrev_length i h)) (sym e) (header_shape info order abbrev_length i)

tile_length : (info : List ℕ) (order : Order) (number place : ℕ) (links : List Link) → Tile info order number place links → number ≤ UNIT_LIMIT → number + length links ≤ UNIT_LIMIT + 1
tile_length info order number place [] tile counted = omega arith
tile_length info order number place (Whole start body end wide ∷ links) tile counted =
    let here : LeadsOn (length info) number place (Whole start body end wide)
    = subst (λ l. LeadsOn (length info) number place l) tile.1 (link_at-leads info order number place counted) in
    let below : number < UNIT_LIMIT = here.4 in
    let later : (number + 1) + length links ≤ UNIT_LIMIT + 1 = tile_length info order (number + 1) end links tile.2 (omega arith) in
    omega arith
tile_length info order number place (Broken f ∷ links) tile counted =
    let none : length links ≡ 0 = ap length tile.1 in
    omega arith

-- a section has at most 131,072 units, and one that can't be followed
pub chain_limit : (info : List ℕ) (order : Order) → length (unit_chain info order) ≤ UNIT_LIMIT + 1
chain_limit info order =
    let all : 0 + length (unit_chain info order) ≤ UNIT_LIMIT + 1 = tile_length info order 0 0 (unit_chain info order) (chain_tiles info order) (omega arith) in
    omega arith

pub unit_count_limit : (info : List ℕ) (order : Order) → unit_count info order ≤ UNIT_LIMIT + 1
unfolding unit_count
unit_count_limit info order = chain_limit info order

leads_inside : (size number start : ℕ) (link : Link) → LeadsOn size number start link → LiesIn size link
leads_inside size number start (Whole place body end wide) leads = (leads.2, leads.3)
leads_inside size number start (Broken f) leads = tt

pub linked_met : (info : List ℕ) (order : Order) (abbrev_length i : ℕ) (link : Link)
    → link ≡ get_or (unit_chain info order) i link → i < unit_count info order
    → linked_header info order abbrev_length i link ≡ header_at info order abbrev_length i
unfolding header_at unit_count
linked_met info order abbrev_length i link e inside =
    ap (linked_header info order abbrev_length i) (e ∙ get_or_default (unit_chain info order) i link (Broken (fault UnitTruncated (length info))) inside)

pub linked_inside : (info : List ℕ) (order : Order) (i : ℕ) (link : Link)
    → link ≡ get_or (unit_chain info order) i link → i < unit_count info order → LiesIn (length info) link
unfolding unit_count
linked_inside info order i link e inside =
    let d : Fault = fault UnitTruncated 0 in
    let leads = tile_leads info order 0 0 (unit_chain info order) i i d (chain_tiles info order) (omega arith) (omega arith) in
    let same : get_or (unit_chain info order) i (Broken d) ≡ link = sym (e ∙ get_or_default (unit_chain info order) i link (Broken d) inside) in
    subst (LiesIn (length info)) same (leads_inside (length info) i leads.0 (get_or (unit_chain info order) i (Broken d)) leads.1)
