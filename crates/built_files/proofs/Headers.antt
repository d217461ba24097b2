-- The headers of a built file read back.
use Rattle.std.specs.Prelude.{◌≡◌, ℕ, suc, ◌+◌, ◌*◌, ◌<◌, ◌≤◌, ◌^◌, Bool, true, false, List, [], ◌∷◌, ◌++◌, length, map, refl}
use Rattle.std.specs.List.{range_with_len}
use Rattle.std.proofs.Common.{arith, ap, ap₂, sym, ◌∙◌, length-append}
use Rattle.dw_fields.specs.declared.byte_order.Order.TheVariants.{Little}
use Rattle.elf_sections.specs.declared.class_layout.ClassLayout.{ClassLayout}
use Rattle.elf_sections.specs.declared.headers.SectionHeader.{SectionHeader}
use Rattle.elf_sections.specs.Layouts.{word_size}
use Rattle.elf_sections.specs.Layouts as layouts
use Rattle.elf_sections.specs.Headers.{file_header, section_header_at, file_header_size, section_header_size}
use Rattle.elf_builder.specs.Given.{Given}
use Rattle.elf_builder.specs.Fields.{field, word_field}
use Rattle.elf_builder.specs.Headers.{identification, front, back, file_header_bytes, section_header}
use Rattle.elf_builder.specs.File.{given_contents, ended_names, given_headers}
use Rattle.built_files.specs.Places.{LiesAt, in_a_row, lies_at, lies_front, lies_back, row_front, row_lies}
use Rattle.built_files.specs.Fields.{length-field, length-word, length_more, field_read, word_read}

-- a section header without flags and link
abbrev pub shown : ℕ → ℕ → ℕ → ℕ → SectionHeader
shown name kind place size = record { name = name; kind = kind; flags = 0; offset = place; size = size; link = 0 }

-- the headers of the given sections and the last one behind them, as they are seen
abbrev pub seen : ℕ → ℕ → List Given → SectionHeader → List SectionHeader
seen name place [] last = last ∷ []
seen name place (s ∷ sections) last =
    shown name 1 place (length s.bytes) ∷ seen (name + length s.name + 1) (place + length s.bytes) sections last

-- a word has 4 or 8 bytes
bounds_of : (wide : Bool) → (4 ≤ word_size (record { order = Little; wide = wide })) × (word_size (record { order = Little; wide = wide }) ≤ 8)
unfolding word_size
bounds_of true = (omega arith, omega arith)
bounds_of false = (omega arith, omega arith)

pub word_bounds : (layout : ClassLayout) → (4 ≤ word_size layout) × (word_size layout ≤ 8)
unfolding word_size
word_bounds layout = bounds_of layout.wide

module _ (layout : ClassLayout) where
  abbrev header_parts : ℕ → ℕ → ℕ → List (List ℕ)
  header_parts kind place size =
      field layout.order 4 kind ∷ word_field layout 0 ∷ word_field layout 0 ∷ word_field layout place ∷ word_field layout size
      ∷ field layout.order 4 0 ∷ field layout.order 4 0 ∷ word_field layout 1 ∷ word_field layout 0 ∷ []

  header_row : (name kind place size : ℕ) → section_header layout name kind place size ≡ in_a_row (field layout.order 4 name) (header_parts kind place size)
  unfolding section_header
  header_row name kind place size = refl

  pub length-section_header : (name kind place size : ℕ) → length (section_header layout name kind place size) ≡ section_header_size layout
  unfolding section_header
  length-section_header name kind place size =
      let four = length-field layout.order 4 in
      let word = length-word layout in
      length_more _ _ _ _ (length_more _ _ _ _ (length_more _ _ _ _ (length_more _ _ _ _ (length_more _ _ _ _ (length_more _ _ _ _ (length_more _ _ _ _ (length_more _ _ _ _ (length_more _ _ _ _ (four name) (four kind)) (word 0)) (word 0)) (word place)) (word size)) (four 0)) (four 0)) (word 1)) (word 0)
      ∙ omega arith

  -- one section header
  pub header_read : {file : List ℕ} {at : ℕ} → (name kind place size : ℕ) → name < 2 ^ 32 → kind < 2 ^ 32 → place < 2 ^ 32 → size < 2 ^ 32
      → LiesAt file at (section_header layout name kind place size) → section_header_at layout file at ≡ shown name kind place size
  unfolding section_header section_header_at
  header_read {file = file} {at = at} name kind place size name_fits kind_fits place_fits size_fits l =
      let o = layout.order in
      let parts = header_parts kind place size in
      let first = row_front (field o 4 name) parts l in
      let all = row_lies (field o 4 name) parts l in
      let none : 0 < 2 ^ 32 = omega arith in
      let n = length-field o 4 name in
      let k = length-field o 4 kind in
      let z = length-word layout 0 in
      let p = length-word layout place in
      let s = length-word layout size in
      let i = length-field o 4 0 in
      let e_name = field_read o 4 name name_fits first in
      let e_kind = field_read {place = at + 4} o 4 kind kind_fits (lies_at (omega (arith, n)) all.0) in
      let e_flags = word_read {place = at + 8} layout 0 none (lies_at (omega (arith, n, k)) all.1.0) in
      let e_place = word_read {place = at + (8 + 2 * word_size layout)} layout place place_fits (lies_at (omega (arith, n, k, z)) all.1.1.1.0) in
      let e_size = word_read {place = at + (8 + 3 * word_size layout)} layout size size_fits (lies_at (omega (arith, n, k, z, p)) all.1.1.1.1.0) in
      let e_link = field_read {place = at + (8 + 4 * word_size layout)} o 4 0 none (lies_at (omega (arith, n, k, z, p, s)) all.1.1.1.1.1.0) in
      λ j. record { name = e_name j; kind = e_kind j; flags = e_flags j; offset = e_place j; size = e_size j; link = e_link j }

  pub length-given_headers : (name place : ℕ) (sections : List Given) → length (given_headers layout name place sections) ≡ length sections * section_header_size layout
  unfolding given_headers
  length-given_headers name place [] = omega arith
  length-given_headers name place (s ∷ sections) =
      length-append (section_header layout name 1 place (length s.bytes)) _ ∙ omega (arith, length-section_header name 1 place (length s.bytes), length-given_headers (name + length s.name + 1) (place + length s.bytes) sections)

  pub headers_read : (file : List ℕ) (table a name place : ℕ) (sections : List Given) (last : SectionHeader)
      → name + length (ended_names sections) < 2 ^ 32 → place + length (given_contents sections) < 2 ^ 32
      → LiesAt file (table + a * section_header_size layout) (given_headers layout name place sections)
      → section_header_at layout file (table + (a + length sections) * section_header_size layout) ≡ last
      → map (λ k. section_header_at layout file (table + k * section_header_size layout)) (range_with_len a (suc (length sections))) ≡ seen name place sections last
  unfolding given_headers ended_names given_contents
  headers_read file table a name place [] last names_fit places_fit l is =
      let here : a + 0 ≡ a = omega arith in
      ap (λ h. h ∷ []) (ap (λ k. section_header_at layout file (table + k * section_header_size layout)) (sym here) ∙ is)
  headers_read file table a name place (s ∷ sections) last names_fit places_fit l is =
      let names = length-append (s.name ++ 0 ∷ []) (ended_names sections) in
      let named = length-append s.name (0 ∷ []) in
      let contents = length-append s.bytes (given_contents sections) in
      let here = header_read name 1 place (length s.bytes) (omega (arith, names, named)) (omega arith) (omega (arith, contents)) (omega (arith, contents)) (lies_front _ _ l) in
      let one : 1 * section_header_size layout ≡ section_header_size layout = omega arith in
      let step : table + a * section_header_size layout + length (section_header layout name 1 place (length s.bytes)) ≡ table + (a + 1) * section_header_size layout =
      omega (arith, length-section_header name 1 place (length s.bytes)) in
      let later = headers_read file table (a + 1) (name + length s.name + 1) (place + length s.bytes) sections last (omega (arith, names, named)) (omega (arith, contents))
      (lies_at step (lies_back _ _ l)) (let same : a + suc (length sections) ≡ a + 1 + length sections = omega arith in ap (λ k. section_header_at layout file (table + k * section_header_size layout)) (sym same) ∙ is) in
      ap₂ (λ h hs. h ∷ hs) here later

  length-front : (headers : ℕ) → length (front layout headers) ≡ 8 + 3 * word_size layout
  unfolding front
  length-front headers =
      let field_of = length-field layout.order in
      let word = length-word layout in
      length_more _ _ _ _ (length_more _ _ _ _ (length_more _ _ _ _ (length_more _ _ _ _ (length_more _ _ _ _ (field_of 2 2) (field_of 2 62)) (field_of 4 1)) (word 0)) (word 0)) (word headers)
      ∙ omega arith

  length-back : (given : ℕ) → length (back layout given) ≡ 16
  unfolding back
  length-back given =
      let field_of = length-field layout.order in
      length_more _ _ _ _ (length_more _ _ _ _ (length_more _ _ _ _ (length_more _ _ _ _ (length_more _ _ _ _ (length_more _ _ _ _ (field_of 4 0) (field_of 2 (file_header_size layout))) (field_of 2 0)) (field_of 2 0)) (field_of 2 (section_header_size layout))) (field_of 2 (given + 2))) (field_of 2 (given + 1))

  pub length-identification : length (identification layout) ≡ 16
  unfolding identification
  length-identification = refl

  pub length-file_header : (headers given : ℕ) → length (file_header_bytes layout headers given) ≡ file_header_size layout
  unfolding file_header_bytes
  length-file_header headers given = length_more _ _ _ _ (length_more _ _ _ _ length-identification (length-front headers)) (length-back given) ∙ omega arith

  front_read : {file : List ℕ} → (headers : ℕ) → headers < 2 ^ 32 → LiesAt file 16 (front layout headers)
      → (layouts.field layout.order 2 16 file ≡ 2) × (layouts.word layout (24 + 2 * word_size layout) file ≡ headers)
  unfolding front
  front_read {file = file} headers fits l =
      let o = layout.order in
      let parts = field o 2 62 ∷ field o 4 1 ∷ word_field layout 0 ∷ word_field layout 0 ∷ word_field layout headers ∷ [] in
      let all = row_lies (field o 2 2) parts l in (
        field_read o 2 2 (omega arith) (row_front (field o 2 2) parts l),
        word_read {place = 24 + 2 * word_size layout} layout headers fits
            (lies_at (omega (arith, length-field o 2 2, length-field o 2 62, length-field o 4 1, length-word layout 0)) all.1.1.1.1.0),
      )

  back_read : {file : List ℕ} → (given : ℕ) → given < 65000 → LiesAt file (24 + 3 * word_size layout) (back layout given)
      → (layouts.field layout.order 2 (34 + 3 * word_size layout) file ≡ section_header_size layout)
      × (layouts.field layout.order 2 (36 + 3 * word_size layout) file ≡ given + 2)
      × (layouts.field layout.order 2 (38 + 3 * word_size layout) file ≡ given + 1)
  unfolding back
  back_read {file = file} given few l =
      let o = layout.order in
      let size = section_header_size layout in
      let parts = field o 2 (file_header_size layout) ∷ field o 2 0 ∷ field o 2 0 ∷ field o 2 size ∷ field o 2 (given + 2) ∷ field o 2 (given + 1) ∷ [] in
      let all = row_lies (field o 4 0) parts l in
      let a = length-field o 4 0 in
      let b = length-field o 2 (file_header_size layout) in
      let z = length-field o 2 0 in
      let d = length-field o 2 size in
      let e = length-field o 2 (given + 2) in
      let small : size < 256 ^ 2 = omega (arith, word_bounds layout) in (
        field_read {place = 34 + 3 * word_size layout} o 2 size small (lies_at (omega (arith, a, b, z)) all.1.1.1.0),
        field_read {place = 36 + 3 * word_size layout} o 2 (given + 2) (omega arith) (lies_at (omega (arith, a, b, z, d)) all.1.1.1.1.0),
        field_read {place = 38 + 3 * word_size layout} o 2 (given + 1) (omega arith) (lies_at (omega (arith, a, b, z, d, e)) all.1.1.1.1.1.0),
      )

  -- the file's header
  pub file_header_read : {file : List ℕ} → (headers given : ℕ) → headers < 2 ^ 32 → given < 65000 → LiesAt file 0 (file_header_bytes layout headers given)
      → file_header layout file ≡ record { kind = 2; table = headers; entry_size = section_header_size layout; count = given + 2; names = given + 1 }
  unfolding file_header_bytes file_header
  file_header_read headers given fits few l =
      let head = lies_front (identification layout ++ front layout headers) (back layout given) l in
      let fronts = front_read headers fits (lies_at (omega (arith, length-identification)) (lies_back (identification layout) (front layout headers) head)) in
      let both = length-append (identification layout) (front layout headers) in
      let backs = back_read given few (lies_at (omega (arith, both, length-identification, length-front headers)) (lies_back (identification layout ++ front layout headers) (back layout given) l)) in
      λ j. record { kind = fronts.0 j; table = fronts.1 j; entry_size = backs.0 j; count = backs.1 j; names = backs.2 j }
