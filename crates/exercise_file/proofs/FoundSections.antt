-- The section table of the generated file.
use Rattle.std.specs.Prelude.{◌≡◌, ℕ, ◌+◌, ◌*◌, ◌≤◌, [], ◌++◌, length, Ok, refl}
use Rattle.std.proofs.Common.{arith, length-append}
use Rattle.elf_sections.specs.Layouts.{word_size}
use Rattle.elf_sections.specs.Names.{elf_of}
use Rattle.elf_sections.specs.Rows.{bytes_named}
use Rattle.elf_sections.specs.Shapes.{sections_of}
use Rattle.elf_builder.specs.File.{all_names, elf_file_of, given_contents, given_names, ended_names, own_name}
use Rattle.built_files.specs.Tables.{IsBuildable, table_of_given}
use Rattle.built_files.proofs.Files.{elf_read, built_long}
use Rattle.exercise_file.specs.Generated.{generated, generated_file, declarations, info, names, texts, range_lists, table_count}
use Rattle.exercise_file.specs.Views.{generated_sections}
use Rattle.exercise_file.proofs.Lengths.{few_tables, length-declarations, length-info, length-names, length-range_lists, length-texts}

contents_long : (n : ℕ) → length (given_contents (generated n).sections) ≡ length (declarations n) + (length (info n) + (length texts + (length (names n) + length (range_lists n))))
unfolding given_contents
contents_long n =
    let last = length-append (range_lists n) [] in
    let fourth = length-append (names n) (range_lists n ++ []) in
    let third = length-append texts (names n ++ (range_lists n ++ [])) in
    let second = length-append (info n) (texts ++ (names n ++ (range_lists n ++ []))) in
    let first = length-append (declarations n) (info n ++ (texts ++ (names n ++ (range_lists n ++ [])))) in
    omega (arith, first, second, third, fourth, last)

names_long : (n : ℕ) → length (all_names (generated n).sections) ≡ 80
unfolding given_names ended_names own_name
names_long n = refl

pub file_long : (n : ℕ) → length (elf_file_of (generated n)) ≡ 64 + (55 * table_count n + (143 * n + (22 + (8 * n + (12 + 12 * n)))) + 80) + 448
unfolding word_size
file_long n =
    let long = built_long (generated n) in
    let parts = length-append (given_contents (generated n).sections) (all_names (generated n).sections) in
    omega (arith, long, parts, contents_long n, names_long n, length-declarations n, length-info n, length-texts, length-names n, length-range_lists n)

pub buildable : (n : ℕ) → n ≤ 9999 → IsBuildable (generated n)
buildable n few = record {
  fits = omega (arith, file_long n, few_tables n few);
  few = omega arith;
  names = (refl, (refl, (refl, (refl, (refl, tt)))));
}

pub table_read : (n : ℕ) → n ≤ 9999 → elf_of (generated_file n) ≡ Ok (table_of_given (generated n))
unfolding generated_file
table_read n few = elf_read (generated n) (buildable n few)

pub sections_found : (n : ℕ) → sections_of (table_of_given (generated n)) ≡ generated_sections n
unfolding sections_of bytes_named table_of_given
sections_found n = refl
