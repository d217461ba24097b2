-- What follows from the definition of a file's sections.
use Rattle.std.specs.Prelude.{◌≡◌, ℕ, ◌+◌, ◌<◌, ◌≤◌, ◌^◌, nat_lt, Bool, true, false, if◌then◌else◌, List, [], ◌∷◌, length, take, drop, map, Option, Result, Ok, Err, refl}
use Rattle.std.proofs.Common.{arith, ap, subst, sym, ◌∙◌, length-drop}
use Rattle.std.proofs.lemmas.Bool.{lt-ltb, ltb-true, ltb-false}
use Rattle.std.proofs.lemmas.List.{length-take, take_all}
use Rattle.elf_sections.specs.declared.headers.SectionHeader.{SectionHeader}
use Rattle.elf_sections.specs.declared.class_layout.ClassLayout.{ClassLayout}
use Rattle.elf_sections.specs.declared.class_layout.TheConstants.{FILE_LIMIT}
use Rattle.elf_sections.specs.declared.section_table.SectionTable.{SectionTable}
use Rattle.elf_sections.specs.declared.refusals.ElfRefusal.{ElfRefusal}
use Rattle.elf_sections.specs.declared.refusals.ElfRefusal.TheVariants.{FileLimit, NameOutside, SectionBounds, Compressed}
use Rattle.dw_fields.specs.Reading.{◌>>=◌}
use Rattle.elf_sections.specs.Refusals.{refuse_at, first_in}
use Rattle.elf_sections.specs.Layouts.{magic_of, layout_of}
use Rattle.elf_sections.specs.Headers.{section_headers_of}
use Rattle.elf_sections.specs.Names.{has_bytes, is_out_of_bounds, contents_of, has_no_name, is_compressed, row_of, null_row, name_bytes, named_rows, rows_of, elf_of}
use Rattle.elf_sections.specs.Rows.{SectionRow, AllShort}

-- an answer comes from an answer of the first step
record Came {A B : Type 0} (a : Result A ElfRefusal) (f : A → Result B ElfRefusal) (b : B) : Type 0 where
  pub value : A
  pub first : a ≡ Ok value
  pub rest : f value ≡ Ok b

came : {A B : Type 0} → (a : Result A ElfRefusal) (f : A → Result B ElfRefusal) (b : B) → (a >>= f) ≡ Ok b → Came a f b
came (Ok a) f b e = record { value = a; first = refl; rest = e }
came (Err r) f b e = cc

part_short : (held : Bool) (size offset : ℕ) (file : List ℕ) → length file ≤ FILE_LIMIT → length (if held then take size (drop offset file) else []) < 2 ^ 31
part_short true size offset file fits = omega (arith, length-take size (drop offset file), length-drop offset file)
part_short false size offset file fits = omega arith

contents_short : (file : List ℕ) (header : SectionHeader) → length file ≤ FILE_LIMIT → length (contents_of file header) < 2 ^ 31
unfolding contents_of
contents_short file header fits = part_short (has_bytes header.kind) header.size header.offset file fits

headed_short : (file : List ℕ) (names : Option (List ℕ)) (headers : List SectionHeader) → length file ≤ FILE_LIMIT → AllShort (map (row_of file names) headers)
headed_short file names [] fits = tt
headed_short file names (h ∷ hs) fits = (contents_short file h fits, headed_short file names hs fits)

named_short : (layout : ClassLayout) (table : SectionTable) (file : List ℕ) (names : Option (List ℕ)) (rows : List SectionRow) → length file ≤ FILE_LIMIT
    → named_rows layout table file names ≡ Ok rows → AllShort rows
unfolding named_rows
named_short layout table file names rows fits e =
    let step = came (refuse_at NameOutside (first_in (has_no_name names) 1 (section_headers_of layout table file))) _ rows e in
    let same : (null_row ∷ map (row_of file names) (section_headers_of layout table file)) ≡ rows = cc step.rest in
    let empty : 0 < 2 ^ 31 = omega arith in
    subst AllShort same (empty, headed_short file names (section_headers_of layout table file) fits)

-- the bytes of each section of a table are fewer than 2^31, since the file has no more than 2^30
pub rows_short : (layout : ClassLayout) (table : SectionTable) (file : List ℕ) (rows : List SectionRow) → length file ≤ FILE_LIMIT → rows_of layout table file ≡ Ok rows → AllShort rows
unfolding rows_of
rows_short layout table file rows fits e =
    let bounds = came (refuse_at SectionBounds (first_in (is_out_of_bounds file) 1 (section_headers_of layout table file))) _ rows e in
    let named = came (named_rows layout table file (name_bytes layout table file)) _ rows bounds.rest in
    let last = came (refuse_at Compressed (first_in is_compressed 0 named.value)) _ rows named.rest in
    let same : named.value ≡ rows = cc last.rest in
    subst AllShort same (named_short layout table file (name_bytes layout table file) named.value fits named.first)

too_long : (file : List ℕ) → FILE_LIMIT < length file → elf_of file ≡ Err FileLimit
unfolding elf_of layout_of magic_of
too_long file long = rw (lt-ltb (FILE_LIMIT) (length file) long) refl

front_by : (long : Bool) (file : List ℕ) → nat_lt (FILE_LIMIT) (length file) ≡ long → elf_of (take (FILE_LIMIT + 1) file) ≡ elf_of file
front_by true file e =
    let long : FILE_LIMIT < length file = ltb-true (FILE_LIMIT) (length file) e in
    let front : FILE_LIMIT < length (take (FILE_LIMIT + 1) file) = omega (arith, length-take (FILE_LIMIT + 1) file) in
    too_long (take (FILE_LIMIT + 1) file) front ∙ sym (too_long file long)
front_by false file e =
    let short : length file ≤ FILE_LIMIT = ltb-false (FILE_LIMIT) (length file) e in
    ap elf_of (take_all (FILE_LIMIT + 1) file (omega arith))

-- The table of a file is that of its first 2^30 + 1 bytes: a longer file is refused by its length.
pub elf_of_front : (file : List ℕ) → elf_of (take (FILE_LIMIT + 1) file) ≡ elf_of file
elf_of_front file = front_by (nat_lt (FILE_LIMIT) (length file)) file refl

-- the same of a file that is known by such a front
pub elf_of_whole : (front whole : List ℕ) → front ≡ take (FILE_LIMIT + 1) whole → elf_of front ≡ elf_of whole
elf_of_whole front whole e = ap elf_of e ∙ elf_of_front whole
