-- The chain of units and their headers.
use Rattle.std.specs.Prelude.{◌≡◌, ℕ, zero, suc, ◌+◌, ◌*◌, ◌<◌, ◌≤◌, false, List, [], ◌∷◌, length, map, Ok, refl}
use Rattle.std.specs.List.{range_with_len}
use Rattle.std.proofs.Common.{arith, ap, ◌∙◌}
use Rattle.std.proofs.lemmas.Bool.{le-leb, lt-leb, le-ltb, ne_eqb}
use Rattle.std.proofs.lemmas.List.FromFn.{get_or-map-range_with_len, length-map-range_with_len}
use Rattle.dw_fields.specs.declared.byte_order.Order.TheVariants.{Little}
use Rattle.dw_fields.specs.declared.fault_code.Code.TheVariants.{UnitTruncated}
use Rattle.dw_fields.specs.Codes.{fault}
use Rattle.dw_fields.specs.Reading.{length_at, offset_at}
use Rattle.unit_headers.specs.declared.chain.Link.{Link}
use Rattle.unit_headers.specs.declared.chain.Link.TheVariants.{Whole, Broken}
use Rattle.unit_headers.specs.declared.chain.TheConstants.{UNIT_LIMIT}
use Rattle.unit_headers.specs.declared.header.UnitHeader.{UnitHeader}
use Rattle.unit_headers.specs.declared.kind.Extra.TheVariants.{Nothing}
use Rattle.unit_headers.specs.declared.kind.UnitKind.TheVariants.{Compile}
use Rattle.unit_headers.specs.Headers.{declarations_at, fields_at, fields_of_version_5, header_at, header_of, kind_at, size_at, unit_count, version_at}
use Rattle.unit_headers.specs.Kinds.{extra_at, kind_of}
use Rattle.unit_headers.specs.Links.{link_at, links_from, unit_chain}
use Rattle.built_files.specs.Places.{LiesAt, row_front, row_lies}
use Rattle.exercise_file.specs.Generated.{declarations, four, info, table_place, two, unit_head}
use Rattle.exercise_file.proofs.Lengths.{length-declarations, length-info, table_of_unit}
use Rattle.exercise_file.proofs.UnitItems.{head_lies}
use Rattle.exercise_file.proofs.Written.{number_read, span}

abbrev pub unit_link : ℕ → Link
unit_link i = Whole (143 * i) (143 * i + 4) (143 * i + 4 + 139) false

-- where the fields of a unit's header lie
record Fields (n i : ℕ) : Type 0 where
  size : LiesAt (info n) (143 * i) (four 139)
  version : LiesAt (info n) (143 * i + 4) (two 5)
  kind : LiesAt (info n) (143 * i + 4 + 2) (1 ∷ [])
  address : LiesAt (info n) (143 * i + 4 + 2 + 1) (8 ∷ [])
  table : LiesAt (info n) (143 * i + 4 + 2 + 1 + 1) (four (table_place i))

fields_lie : (n i : ℕ) → i < n → Fields n i
unfolding unit_head four two
fields_lie n i inside =
    let parts = two 5 ∷ (1 ∷ []) ∷ (8 ∷ []) ∷ four (table_place i) ∷ [] in
    let l = head_lies n i inside in
    let all = row_lies (four 139) parts l in
    record { size = row_front (four 139) parts l; version = all.0; kind = all.1.0; address = all.1.1.0; table = all.1.1.1.0 }

link_read : (n i : ℕ) → n ≤ 9999 → i < n → link_at (info n) Little i (143 * i) ≡ unit_link i
unfolding link_at length_at four
link_read n i few inside =
    let long = length-info n in
    let size = number_read (length (info n)) 4 139 (omega arith) (omega (arith, long)) (fields_lie n i inside).size in
    rw (ne_eqb i UNIT_LIMIT (λ e. absurd (omega arith)), size, le-leb (143 * i + 4 + 139) (length (info n)) (omega (arith, long))) refl

links_read : (n most i k : ℕ) → n ≤ 9999 → i + k ≡ n → k ≤ most → links_from most (info n) Little i (143 * i) ≡ map unit_link (range_with_len i k)
unfolding links_from
links_read n zero i zero few sum fuel = refl
links_read n zero i (suc k) few sum fuel = absurd (omega arith)
links_read n (suc most) i zero few sum fuel = rw (le-leb (length (info n)) (143 * i) (omega (arith, length-info n))) refl
links_read n (suc most) i (suc k) few sum fuel =
    let next : 143 * i + 4 + 139 ≡ 143 * (i + 1) = omega arith in
    let later = links_read n most (i + 1) k few (omega arith) (omega arith) in
    rw (lt-leb (length (info n)) (143 * i) (omega (arith, length-info n)), link_read n i few (omega arith))
    (ap (λ links. unit_link i ∷ links) (ap (λ p. links_from most (info n) Little (i + 1) p) next ∙ later))

pub chain_read : (n : ℕ) → n ≤ 9999 → unit_chain (info n) Little ≡ map unit_link (range_with_len 0 n)
unfolding unit_chain
chain_read n few = links_read n (length (info n)) 0 n few (omega arith) (omega (arith, length-info n))

-- there are as many units as were wanted
pub count_read : (n : ℕ) → n ≤ 9999 → unit_count (info n) Little ≡ n
unfolding unit_count
count_read n few = ap (λ (links : List Link). length links) (chain_read n few) ∙ length-map-range_with_len unit_link 0 n

-- the header of a unit
abbrev pub header : ℕ → UnitHeader
header i = record {
  number = i;
  place = 143 * i;
  end = 143 * i + 4 + 139;
  wide = false;
  version = 5;
  kind = Compile;
  address_size = 8;
  «abbrev» = table_place i;
  entries = 143 * i + 12;
  extra = Nothing;
}

fields_read : (n i : ℕ) → n ≤ 9999 → i < n → header_of (length (declarations n)) i (143 * i) false (span (info n) (143 * i + 4) (143 * i + 4 + 139)) ≡ Ok (header i)
unfolding header_of version_at fields_at fields_of_version_5 kind_at size_at declarations_at extra_at kind_of offset_at two four
fields_read n i few inside =
    let end = 143 * i + 4 + 139 in
    let lie = fields_lie n i inside in
    let version = number_read end 2 5 (omega arith) (omega arith) lie.version in
    let kind = number_read end 1 1 (omega arith) (omega arith) lie.kind in
    let address = number_read end 1 8 (omega arith) (omega arith) lie.address in
    let table = number_read end 4 (table_place i) (omega arith) (omega arith) lie.table in
    let within : table_place i ≤ length (declarations n) = omega (arith, length-declarations n, table_of_unit n i inside) in
    let sum : 143 * i + 4 + 2 + 1 + 1 + 4 ≡ 143 * i + 12 = omega arith in
    rw (version, kind, address, table, le-ltb (length (declarations n)) (table_place i) within, sum) refl

pub header_read : (n i : ℕ) → n ≤ 9999 → i < n → header_at (info n) Little (length (declarations n)) i ≡ Ok (header i)
unfolding header_at
header_read n i few inside =
    rw (chain_read n few, get_or-map-range_with_len unit_link 0 n i i (Broken (fault UnitTruncated (length (info n)))) inside (omega arith)) (fields_read n i few inside)
