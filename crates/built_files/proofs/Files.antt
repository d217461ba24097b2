-- The section table of a built file is the sections that were given.
use Rattle.std.specs.Prelude.{◌≡◌, ℕ, suc, ◌+◌, ◌*◌, ◌-◌, ◌<◌, ◌≤◌, Bool, true, false, List, [], ◌∷◌, ◌++◌, length, map, codes, Some, Ok, is_none, refl}
use Rattle.std.specs.List.{range_with_len}
use Rattle.std.proofs.Common.{arith, ap, sym, subst, ◌∙◌, length-append, one-add}
use Rattle.std.proofs.lemmas.List.{length-replicate}
use Rattle.std.proofs.lemmas.Bool.{le-ltb, lt-leb, ne_eqb, eq-eqb}
use Rattle.dw_fields.specs.declared.byte_order.Order.{Order}
use Rattle.dw_fields.specs.declared.byte_order.Order.TheVariants.{Little, Big}
use Rattle.elf_sections.specs.declared.class_layout.ClassLayout.{ClassLayout}
use Rattle.elf_sections.specs.declared.class_layout.TheConstants.{FILE_LIMIT}
use Rattle.elf_sections.specs.declared.headers.SectionHeader.{SectionHeader}
use Rattle.elf_sections.specs.declared.section_table.SectionTable.{SectionTable}
use Rattle.elf_sections.specs.Layouts.{magic_of, class_of, order_of, layout_of}
use Rattle.elf_sections.specs.Headers.{file_header_size, section_header_size, count_of, names_of, table_at, table_of, section_headers_of, section_header_of, section_header_at}
use Rattle.elf_sections.specs.Names.{elf_of, rows_of, named_rows, name_bytes, is_compressed}
use Rattle.elf_builder.specs.Given.{Given, GivenFile}
use Rattle.elf_builder.specs.Headers.{identification, front, back, class_number, encoding_number, file_header_bytes, section_header}
use Rattle.elf_builder.specs.File.{all_names, elf_file_of, ended_names, given_contents, given_headers, given_names, no_header, own_name, parts_of}
use Rattle.built_files.specs.Places.{LiesAt, lies_at, lies_front, lies_back, lies_whole, row_front, row_lies}
use Rattle.built_files.specs.Fields.{length_more}
use Rattle.built_files.specs.Tables.{IsBuildable, HavePlainNames, row_of_names, table_of_given}
use Rattle.built_files.proofs.Headers.{shown, seen, word_bounds, header_read, headers_read, file_header_read, length-file_header, length-given_headers, length-identification, length-section_header}
use Rattle.built_files.proofs.Rows.{bounds_read, named, names_read, plain_read, row_read, rows_read, taken, within_bounds}

magic_read : (wide : Bool) (order : Order) (rest : List ℕ) → length (identification (record { order = order; wide = wide }) ++ rest) ≤ FILE_LIMIT
    → 16 ≤ length (identification (record { order = order; wide = wide }) ++ rest)
    → layout_of (identification (record { order = order; wide = wide }) ++ rest) ≡ Ok (record { order = order; wide = wide })
unfolding layout_of magic_of class_of order_of identification class_number encoding_number
magic_read true Little rest fits long = rw (le-ltb FILE_LIMIT _ fits, le-ltb _ 16 long) refl
magic_read true Big rest fits long = rw (le-ltb FILE_LIMIT _ fits, le-ltb _ 16 long) refl
magic_read false Little rest fits long = rw (le-ltb FILE_LIMIT _ fits, le-ltb _ 16 long) refl
magic_read false Big rest fits long = rw (le-ltb FILE_LIMIT _ fits, le-ltb _ 16 long) refl

length-no_header : (layout : ClassLayout) → length (no_header layout) ≡ section_header_size layout
unfolding no_header
length-no_header layout = length-replicate (section_header_size layout) 0

length-given_names : (sections : List Given) → length (given_names sections) ≡ 1 + length (ended_names sections)
unfolding given_names
length-given_names sections = sym (one-add (length (ended_names sections)))

names_from : {bytes : List ℕ} {place : ℕ} → (sections : List Given) → LiesAt bytes place (given_names sections) → LiesAt bytes place ((0 ∷ []) ++ ended_names sections)
unfolding given_names
names_from sections l = l

own_lies : {bytes : List ℕ} {place : ℕ} → LiesAt bytes place own_name → LiesAt bytes place (codes ".shstrtab" ++ 0 ∷ [])
unfolding own_name
own_lies l = l

header_lies : {bytes : List ℕ} {place : ℕ} → (layout : ClassLayout) (headers given : ℕ) → LiesAt bytes place (file_header_bytes layout headers given) → LiesAt bytes place (identification layout ++ front layout headers ++ back layout given)
unfolding file_header_bytes
header_lies layout headers given l = l

names_plain : (sections : List Given) → is_compressed (row_of_names sections) ≡ false
unfolding is_compressed
names_plain sections = refl

module _ (layout : ClassLayout) (sections : List Given) where
  abbrev built : GivenFile
  built = record { layout = layout; sections = sections }

  abbrev file : List ℕ
  file = elf_file_of built

  -- where the section headers stand
  abbrev headers_place : ℕ
  headers_place = file_header_size layout + length (parts_of sections)

  abbrev last_header : SectionHeader
  last_header = shown (length (given_names sections)) 3 (file_header_size layout + length (given_contents sections)) (length (all_names sections))

  abbrev last_bytes : List ℕ
  last_bytes = section_header layout (length (given_names sections)) 3 (file_header_size layout + length (given_contents sections)) (length (all_names sections))

  abbrev file_table : SectionTable
  file_table = record { place = headers_place; count = length sections + 2; names = length sections + 1 }

  record Parts : Type 0 where
    header : LiesAt file 0 (file_header_bytes layout headers_place (length sections))
    contents : LiesAt file (file_header_size layout) (given_contents sections)
    names : LiesAt file (file_header_size layout + length (given_contents sections)) (all_names sections)
    headers : LiesAt file (headers_place + 1 * section_header_size layout) (given_headers layout 1 (file_header_size layout) sections)
    last : LiesAt file (headers_place + (length sections + 1) * section_header_size layout) last_bytes
    size : length file ≡ headers_place + (2 + length sections) * section_header_size layout

  parts_lie : Parts
  unfolding elf_file_of
  parts_lie =
      let head = file_header_bytes layout headers_place (length sections) in
      let headers = given_headers layout 1 (file_header_size layout) sections in
      let parts = parts_of sections ∷ no_header layout ∷ headers ∷ last_bytes ∷ [] in
      let whole = lies_whole file in
      let all = row_lies head parts whole in
      let h = length-file_header layout headers_place (length sections) in
      let n = length-no_header layout in
      let g = length-given_headers layout 1 (file_header_size layout) sections in
      let both = lies_at {there = file_header_size layout} (omega (arith, h)) all.0 in
      let l = length-section_header layout (length (given_names sections)) 3 (file_header_size layout + length (given_contents sections)) (length (all_names sections)) in
      record {
        header = row_front head parts whole;
        contents = lies_front (given_contents sections) (all_names sections) both;
        names = lies_back (given_contents sections) (all_names sections) both;
        headers = lies_at (omega (arith, h, n)) all.1.1.0;
        last = lies_at (omega (arith, h, n, g)) all.1.1.1.0;
        size = length_more _ _ _ _ (length_more _ _ _ _ (length_more _ _ _ _ (length_more _ (parts_of sections) _ _ h refl) n) g) l ∙ omega arith;
      }

  module _ (parts : Parts) (fits : length file ≤ FILE_LIMIT) (few : length sections < 65000) (plain : HavePlainNames sections) where
    inner_lengths : (length (parts_of sections) ≡ length (given_contents sections) + length (all_names sections)) × (length (all_names sections) ≡ length (given_names sections) + length own_name)
    inner_lengths = (length-append (given_contents sections) (all_names sections), length-append (given_names sections) own_name)

    layout_read : layout_of file ≡ Ok layout
    layout_read =
        let bytes = lies_front (identification layout) (front layout headers_place) (lies_front _ (back layout (length sections)) (header_lies layout headers_place (length sections) parts.header)) in
        let long : length file ≡ 16 + length bytes.rest = ap (λ (t : List ℕ). length t) bytes.is ∙ length-append (identification layout) bytes.rest ∙ ap (λ k. k + length bytes.rest) (length-identification layout) in
        ap layout_of bytes.is
        ∙ magic_read layout.wide layout.order bytes.rest (subst (λ (t : List ℕ). length t ≤ FILE_LIMIT) bytes.is fits)
        (subst (λ (t : List ℕ). 16 ≤ length t) bytes.is (omega arith))

    table_read : table_of layout file ≡ Ok file_table
    unfolding table_of table_at count_of names_of
    table_read =
        let bounds = word_bounds layout in
        let header = file_header_read layout headers_place (length sections) (omega (arith, parts.size)) few parts.header in
        rw (
          header,
          le-ltb (length file) (file_header_size layout) (omega (arith, parts.size)),
          ne_eqb headers_place 0 (λ e. absurd (omega arith)),
          eq-eqb (section_header_size layout) (section_header_size layout) refl,
          ne_eqb (length sections + 2) 0 (λ e. absurd (omega arith)),
          le-ltb (length file) (headers_place + (length sections + 2) * section_header_size layout) (omega (arith, parts.size)),
          ne_eqb (length sections + 2) 0 (λ e. absurd (omega arith)),
          ne_eqb (length sections + 1) 0xffff (λ e. absurd (omega arith)),
          lt-leb (length sections + 2) (length sections + 1) (omega arith),
        ) refl

    last_read : section_header_at layout file (headers_place + (length sections + 1) * section_header_size layout) ≡ last_header
    last_read =
        header_read layout (length (given_names sections)) 3 (file_header_size layout + length (given_contents sections)) (length (all_names sections))
        (omega (arith, parts.size, inner_lengths)) (omega arith) (omega (arith, parts.size, inner_lengths)) (omega (arith, parts.size, inner_lengths)) parts.last

    headers_are : section_headers_of layout file_table file ≡ seen 1 (file_header_size layout) sections last_header
    headers_are =
        let count : length sections + 2 - 1 ≡ suc (length sections) = omega arith in
        let turn : 1 + length sections ≡ length sections + 1 = omega arith in
        ap (λ k. map (section_header_of layout file_table file) (range_with_len 1 k)) count
        ∙ headers_read layout file headers_place 1 1 (file_header_size layout) sections last_header
        (omega (arith, parts.size, inner_lengths, length-given_names sections)) (omega (arith, parts.size, inner_lengths)) parts.headers
        (ap (λ k. section_header_at layout file (headers_place + k * section_header_size layout)) turn ∙ last_read)

    names_are : name_bytes layout file_table file ≡ Some (all_names sections)
    unfolding name_bytes
    names_are =
        rw (
          ne_eqb (length sections + 1) 0 (λ e. absurd (omega arith)),
          last_read,
          taken file (length (given_names sections)) (file_header_size layout + length (given_contents sections)) 3 (all_names sections) refl refl parts.names,
        ) refl

    rows_are : rows_of layout file_table file ≡ Ok (table_of_given built).sections
    unfolding rows_of named_rows table_of_given is_compressed
    rows_are =
        let n = all_names sections in
        let given = lies_front (given_names sections) own_name (lies_whole n) in
        let ended = lies_back (0 ∷ []) (ended_names sections) (names_from sections given) in
        let own = lies_back (given_names sections) own_name (lies_whole n) in
        let text = named {names = n} {name = length (given_names sections)} (codes ".shstrtab") 3 (file_header_size layout + length (given_contents sections)) (length n) refl
        (own_lies (lies_at (omega arith) own)) in
        let row = row_read file n (length (given_names sections)) 3 (file_header_size layout + length (given_contents sections)) (codes ".shstrtab") n refl refl text parts.names in
        rw (
          headers_are,
          bounds_read file 1 1 (file_header_size layout) sections last_header (omega (arith, parts.size, inner_lengths))
              (within_bounds file (length (given_names sections)) 3 (file_header_size layout + length (given_contents sections)) (length n) (omega (arith, parts.size, inner_lengths))),
          names_are,
          names_read n 1 1 (file_header_size layout) sections last_header plain ended (ap is_none text),
          rows_read file n 1 (file_header_size layout) sections last_header (row_of_names sections) plain ended parts.contents row,
          plain_read 1 sections (row_of_names sections) plain (names_plain sections),
        ) refl

    read : elf_of file ≡ Ok (table_of_given built)
    unfolding elf_of table_of_given
    read = rw (layout_read, table_read, ne_eqb (length sections + 2) 0 (λ e. absurd (omega arith)), rows_are) refl

pub elf_read : (file : GivenFile) → IsBuildable file → elf_of (elf_file_of file) ≡ Ok (table_of_given file)
elf_read file b = read file.layout file.sections (parts_lie file.layout file.sections) b.fits b.few b.names

-- how long it is
pub built_long : (file : GivenFile) → length (elf_file_of file) ≡ file_header_size file.layout + length (parts_of file.sections) + (2 + length file.sections) * section_header_size file.layout
built_long file = (parts_lie file.layout file.sections).size
