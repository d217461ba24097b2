-- One section header more, with its name or without.
use Rattle.std.proofs.Common.{◌≡◌, ◌+◌, ◌-◌, ◌≤◌, ℕ, true, false, List, [], ◌∷◌, ◌++◌, map, Option, Some, None, Err, refl, arith}
use Rattle.std.specs.List.{range_with_len}
use Rattle.std.proofs.lemmas.List.{map_push}
use Rattle.std.proofs.lemmas.List.FromFn.{map-range_with_len_more}
use Rattle.elf_sections.specs.declared.headers.SectionHeader.{SectionHeader}
use Rattle.elf_sections.specs.declared.class_layout.ClassLayout.{ClassLayout}
use Rattle.elf_sections.specs.declared.section_table.SectionTable.{SectionTable}
use Rattle.elf_sections.specs.declared.refusals.ElfRefusal.TheVariants.{NameOutside}
use Rattle.elf_sections.specs.Refusals.{first_in}
use Rattle.elf_sections.specs.Headers.{section_headers_of}
use Rattle.elf_sections.specs.Names.{contents_of, name_of, has_no_name, row_of, named_rows}
use Rattle.elf_sections.specs.Rows.{SectionRow}

pub no_name_here : (names : Option (List ℕ)) (h k : SectionHeader) → h ≡ k → None ≡ name_of names h → has_no_name names k ≡ true
no_name_here names h k e absent = rw (← e, ← absent) refl

pub name_here : (names : Option (List ℕ)) (h k : SectionHeader) (name : List ℕ) → h ≡ k → Some name ≡ name_of names h → has_no_name names k ≡ false
name_here names h k name e there = rw (← e, ← there) refl

pub row_here : (file : List ℕ) (names : Option (List ℕ)) (h k : SectionHeader) (name bytes : List ℕ) → h ≡ k → Some name ≡ name_of names h → bytes ≡ contents_of file h
    → record { name = name; kind = h.kind; flags = h.flags; size = h.size; bytes = bytes } ≡ row_of file names k
row_here file names h k name bytes e there held = rw (held, ← e, ← there) refl

pub name_refused : (layout : ClassLayout) (table : SectionTable) (file : List ℕ) (names : Option (List ℕ)) (number : ℕ)
    → first_in (has_no_name names) 1 (section_headers_of layout table file) ≡ Some number
    → named_rows layout table file names ≡ Err (NameOutside number)
unfolding named_rows
name_refused layout table file names number e = rw e refl

pub rows_more : (view : SectionHeader → SectionRow) (header : ℕ → SectionHeader) (first : SectionRow) (i : ℕ) (rows more : List SectionRow) (last : SectionRow)
    → 1 ≤ i → rows ≡ first ∷ map view (map header (range_with_len 1 (i - 1))) → more ≡ rows ++ last ∷ [] → last ≡ view (header i)
    → more ≡ first ∷ map view (map header (range_with_len 1 (i + 1 - 1)))
rows_more view header first i rows more last some e added is =
    let n : i + 1 - 1 ≡ i - 1 + 1 = omega arith in
    rw (n, added, e, is, map-range_with_len_more header 1 (i - 1) i (omega arith), map_push view (map header (range_with_len 1 (i - 1))) (header i)) refl
