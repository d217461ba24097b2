-- The last value of a repeated content type counts.
use Rattle.std.proofs.Common.{◌≡◌, ℕ, ◌+◌, ◌-◌, ◌<◌, ◌≤◌, ◌==◌, Bool, true, false, cond, List, [], ◌∷◌, Option, Some, None, Result, Ok, Err, IfOk, refl, sym, ◌∙◌, ap, subst, arith, eqb-true}
use Rattle.std.specs.Prelude.{pos}
use Rattle.std.proofs.lemmas.Bool.Decides.{nat_tests}
use Rattle.dw_fields.specs.declared.fault_code.Code.{Code}
use Rattle.dw_fields.specs.declared.fault_code.Fault.{Fault}
use Rattle.dw_fields.specs.Span.{Span, at}
use Rattle.dw_fields.specs.Reading.{◌>>=◌}
use Rattle.dw_fields.specs.ReaderLaws.{next-IfOk}
use Rattle.elf_sections.specs.Shapes.{SectionsView}
use Rattle.form_values.specs.declared.raw.Widths.{Widths}
use Rattle.form_values.specs.View.{RawView}
use Rattle.form_values.specs.FormTable.{value_at}
use Rattle.form_values.specs.Resolved.{refused_at}
use Rattle.line_programs.specs.declared.formats.Format.{Format}
use Rattle.line_programs.specs.Front.{in_header}
use Rattle.line_programs.specs.Shapes.{NameView}
use Rattle.line_programs.specs.Names.{field_at, fields_at, index_of, name_at, nameless, path_of, paths_in, set_field, weight, with_path}
use Rattle.line_programs.specs.LastValues.{EntryValue, IsPathOf, LastCounts, directory_of, last_of, later, values_at}

-- what the values of these formats make of an entry that began as `start`
record Made (sections : SectionsView) (widths : Widths) (formats : List Format) (s : Span) (start name : NameView) (end : ℕ) : Type 0 where
  values : List EntryValue
  read : values_at widths formats s ≡ Ok (values, end)
  none : paths_in formats ≡ 0 → last_of 1 values ≡ None
  some : 0 < paths_in formats → (last : EntryValue) × (last_of 1 values ≡ Some last)
  path : IsPathOf sections start.path (last_of 1 values) name.path
  directory : name.directory ≡ directory_of start.directory (last_of 2 values)

-- the same for one value before those behind it
record Step (sections : SectionsView) (v : EntryValue) (is_path is_index : Bool) (below : ℕ) (paths indexes : Option EntryValue) (start name : NameView) : Type 0 where
  none : cond is_path 1 0 + below ≡ 0 → later v is_path paths ≡ None
  some : 0 < cond is_path 1 0 + below → (last : EntryValue) × (later v is_path paths ≡ Some last)
  path : IsPathOf sections start.path (later v is_path paths) name.path
  directory : name.directory ≡ directory_of start.directory (later v is_index indexes)

none_kept : (v : EntryValue) (paths : Option EntryValue) → paths ≡ None → later v false paths ≡ None
none_kept v None e = refl
none_kept v (Some last) e = e

some_kept : (v : EntryValue) (has : Bool) (paths : Option EntryValue) (last : EntryValue) → paths ≡ Some last → later v has paths ≡ Some last
some_kept v has (Some w) last e = e
some_kept v has None last e = cc

some_here : (v : EntryValue) (paths : Option EntryValue) → (last : EntryValue) × (later v true paths ≡ Some last)
some_here v None = (v, refl)
some_here v (Some last) = (last, refl)

-- a value that isn't of the content type changes nothing
path_kept : (sections : SectionsView) (v : EntryValue) (paths : Option EntryValue) (before path : List ℕ) → IsPathOf sections before paths path → IsPathOf sections before (later v false paths) path
path_kept sections v None before path is = is
path_kept sections v (Some last) before path is = is

directory_kept : (v : EntryValue) (indexes : Option EntryValue) (before : ℕ) → directory_of before (later v false indexes) ≡ directory_of before indexes
directory_kept v None before = refl
directory_kept v (Some last) before = refl

-- a value with a later one of its content type behind it
path_passed : (sections : SectionsView) (v : EntryValue) (paths : Option EntryValue) (last : EntryValue) (before path : List ℕ) → paths ≡ Some last → IsPathOf sections before paths path → IsPathOf sections before (later v true paths) path
path_passed sections v (Some w) last before path e is = is
path_passed sections v None last before path e is = cc

-- the last of its content type
path_last : (sections : SectionsView) (v : EntryValue) (paths : Option EntryValue) (before after path : List ℕ) → paths ≡ None → path_of sections v.value ≡ Ok after
    → IsPathOf sections after paths path → IsPathOf sections before (later v true paths) path
path_last sections v None before after path e here is = here ∙ ap (λ p. Ok p) (sym is)
path_last sections v (Some w) before after path e here is = cc

directory_last : (v : EntryValue) (indexes : Option EntryValue) (before : ℕ) → directory_of (index_of v.value) indexes ≡ directory_of before (later v true indexes)
directory_last v None before = refl
directory_last v (Some last) before = refl

-- a path that was resolved
resolved : (place : ℕ) (start next : NameView) (text : Result (List ℕ) Code) → with_path start (refused_at place text) ≡ Ok next
    → (text ≡ Ok next.path) × (next.directory ≡ start.directory)
resolved place start next (Ok path) e =
    let same : record start { path = path } ≡ next = cc in
    (ap (λ (n : NameView). Ok n.path) same, ap (λ (n : NameView). n.directory) (sym same))
resolved place start next (Err code) e = cc

last_path : (sections : SectionsView) (v : EntryValue) (is_index : Bool) (below place : ℕ) (paths indexes : Option EntryValue) (start next name : NameView)
    → is_index ≡ false → paths ≡ None → with_path start (refused_at place (path_of sections v.value)) ≡ Ok next
    → IsPathOf sections next.path paths name.path → name.directory ≡ directory_of next.directory indexes
    → Step sections v true is_index below paths indexes start name
last_path sections v true below place paths indexes start next name only none e path directory = cc
last_path sections v false below place paths indexes start next name only none e path directory =
    let made = resolved place start next (path_of sections v.value) e in
    record {
      none = λ zero. absurd (omega arith);
      some = λ more. some_here v paths;
      path = path_last sections v paths start.path next.path name.path none made.0 path;
      directory = directory ∙ ap (λ d. directory_of d indexes) made.1 ∙ sym (directory_kept v indexes start.directory);
    }

passed_path : (sections : SectionsView) (v : EntryValue) (is_index : Bool) (below : ℕ) (paths indexes : Option EntryValue) (start name : NameView)
    → is_index ≡ false → (last : EntryValue) × (paths ≡ Some last)
    → IsPathOf sections start.path paths name.path → name.directory ≡ directory_of start.directory indexes
    → Step sections v true is_index below paths indexes start name
passed_path sections v true below paths indexes start name only more path directory = cc
passed_path sections v false below paths indexes start name only more path directory = record {
  none = λ zero. absurd (omega arith);
  some = λ _. some_here v paths;
  path = path_passed sections v paths more.0 start.path name.path more.1 path;
  directory = directory ∙ sym (directory_kept v indexes start.directory);
}

index_value : (sections : SectionsView) (v : EntryValue) (below : ℕ) (paths indexes : Option EntryValue) (start name : NameView)
    → (below ≡ 0 → paths ≡ None) → (0 < below → (last : EntryValue) × (paths ≡ Some last))
    → IsPathOf sections start.path paths name.path → name.directory ≡ directory_of (index_of v.value) indexes
    → Step sections v false true below paths indexes start name
index_value sections v below paths indexes start name none some path directory = record {
  none = λ zero. none_kept v paths (none (omega arith));
  some = λ more. let last = some (omega arith) in (last.0, some_kept v false paths last.0 last.1);
  path = path_kept sections v paths start.path name.path path;
  directory = directory ∙ directory_last v indexes start.directory;
}

other_value : (sections : SectionsView) (v : EntryValue) (below : ℕ) (paths indexes : Option EntryValue) (start name : NameView)
    → (below ≡ 0 → paths ≡ None) → (0 < below → (last : EntryValue) × (paths ≡ Some last))
    → IsPathOf sections start.path paths name.path → name.directory ≡ directory_of start.directory indexes
    → Step sections v false false below paths indexes start name
other_value sections v below paths indexes start name none some path directory = record {
  none = λ zero. none_kept v paths (none (omega arith));
  some = λ more. let last = some (omega arith) in (last.0, some_kept v false paths last.0 last.1);
  path = path_kept sections v paths start.path name.path path;
  directory = directory ∙ sym (directory_kept v indexes start.directory);
}

more_below : (left below : ℕ) → left ≡ 1 + below → left == 1 ≡ false → 0 < below
more_below left below count test = grind (arith, nat_tests)

by_kind : (sections : SectionsView) (v : EntryValue) (left below place : ℕ) (paths indexes : Option EntryValue) (start next name : NameView) (is_path last is_index : Bool)
    → v.content == 1 ≡ is_path → left == 1 ≡ last → v.content == 2 ≡ is_index → left ≡ cond is_path 1 0 + below
    → cond is_path (cond last (with_path start (refused_at place (path_of sections v.value))) (Ok start))
    (cond is_index (Ok (record start { directory = index_of v.value })) (Ok start)) ≡ Ok next
    → (below ≡ 0 → paths ≡ None) → (0 < below → (w : EntryValue) × (paths ≡ Some w))
    → IsPathOf sections next.path paths name.path → name.directory ≡ directory_of next.directory indexes
    → Step sections v is_path is_index below paths indexes start name
by_kind sections v left below place paths indexes start next name true true is_index p l i count e none some path directory =
    let one : v.content ≡ 1 = eqb-true v.content 1 p in
    let only : is_index ≡ false = sym i ∙ ap (λ (n : ℕ). n == 2) one in
    last_path sections v is_index below place paths indexes start next name only (none (omega (arith, count, eqb-true left 1 l))) e path directory
by_kind sections v left below place paths indexes start next name true false is_index p l i count e none some path directory =
    let one : v.content ≡ 1 = eqb-true v.content 1 p in
    let only : is_index ≡ false = sym i ∙ ap (λ (n : ℕ). n == 2) one in
    let same : next ≡ start = cc in
    let P : NameView → Type 0 = λ n. IsPathOf sections n.path paths name.path in
    passed_path sections v is_index below paths indexes start name only (some (more_below left below count l)) (subst P same path)
    (directory ∙ ap (λ (n : NameView). directory_of n.directory indexes) same)
by_kind sections v left below place paths indexes start next name false last true p l i count e none some path directory =
    let same : next ≡ record start { directory = index_of v.value } = cc in
    let P : NameView → Type 0 = λ n. IsPathOf sections n.path paths name.path in
    index_value sections v below paths indexes start name none some (subst P same path)
    (directory ∙ ap (λ (n : NameView). directory_of n.directory indexes) same)
by_kind sections v left below place paths indexes start next name false last false p l i count e none some path directory =
    let same : next ≡ start = cc in
    let P : NameView → Type 0 = λ n. IsPathOf sections n.path paths name.path in
    other_value sections v below paths indexes start name none some (subst P same path)
    (directory ∙ ap (λ (n : NameView). directory_of n.directory indexes) same)

-- one value that was read and set
record FieldRead (sections : SectionsView) (widths : Widths) (left : ℕ) (format : Format) (name : NameView) (s : Span) (next : NameView) (place : ℕ) : Type 0 where
  value : RawView
  read : in_header (value_at format.form widths (pos 0) s) ≡ Ok (value, place)
  set : set_field sections format.content left s.place value name ≡ Ok next

set_read : (sections : SectionsView) (widths : Widths) (left : ℕ) (format : Format) (name : NameView) (s : Span) (value : RawView) (place : ℕ) (found : Result NameView Fault)
    → in_header (value_at format.form widths (pos 0) s) ≡ Ok (value, place) → set_field sections format.content left s.place value name ≡ found
    → IfOk {T = NameView × ℕ} (found >>= (λ next. Ok (next, place))) (λ r. FieldRead sections widths left format name s r.0 r.1)
set_read sections widths left format name s value place (Ok next) e set = record { value = value; read = e; set = set }
set_read sections widths left format name s value place (Err f) e set = tt

value_read : (sections : SectionsView) (widths : Widths) (left : ℕ) (format : Format) (name : NameView) (s : Span) (found : Result (RawView × ℕ) Fault)
    → in_header (value_at format.form widths (pos 0) s) ≡ found
    → IfOk {T = NameView × ℕ} (found >>= (λ value. set_field sections format.content left s.place value.0 name >>= (λ next. Ok (next, value.1))))
    (λ r. FieldRead sections widths left format name s r.0 r.1)
value_read sections widths left format name s (Ok (value, place)) e =
    set_read sections widths left format name s value place (set_field sections format.content left s.place value name) e refl
value_read sections widths left format name s (Err f) e = tt

field_read : (sections : SectionsView) (widths : Widths) (left : ℕ) (format : Format) (name : NameView) (s : Span)
    → IfOk (field_at sections widths left format name s) (λ r. FieldRead sections widths left format name s r.0 r.1)
unfolding field_at
field_read sections widths left format name s = value_read sections widths left format name s (in_header (value_at format.form widths (pos 0) s)) refl

IfOk-map : {A : Type 0} (P Q : A → Type 0) (r : Result A Fault) → ((a : A) → P a → Q a) → IfOk r P → IfOk r Q
IfOk-map P Q (Ok a) f here = f a here
IfOk-map P Q (Err e) f here = tt

made_more : (sections : SectionsView) (widths : Widths) (left : ℕ) (format : Format) (formats : List Format) (start : NameView) (s : Span) (next : NameView) (place : ℕ) (name : NameView) (end : ℕ)
    → left ≡ weight format.content + paths_in formats → FieldRead sections widths left format start s next place → Made sections widths formats (at s place) next name end
    → Made sections widths (format ∷ formats) s start name end
unfolding set_field
made_more sections widths left format formats start s next place name end count field made =
    let v : EntryValue = record { content = format.content; value = field.value } in
    let step = by_kind sections v left (paths_in formats) s.place (last_of 1 made.values) (last_of 2 made.values) start next name
    (format.content == 1) (left == 1) (format.content == 2) refl refl refl count field.set made.none made.some made.path made.directory in
    record {
      values = v ∷ made.values;
      read = rw (field.read, made.read) refl;
      none = step.none;
      some = step.some;
      path = step.path;
      directory = step.directory;
    }

made_from : (sections : SectionsView) (widths : Widths) (formats : List Format) (left : ℕ) (start : NameView) (s : Span) → left ≡ paths_in formats
    → IfOk (fields_at sections widths left formats start s) (λ r. Made sections widths formats s start r.0 r.1)
made_from sections widths [] left start s count = record {
  values = [];
  read = refl;
  none = λ _. refl;
  some = λ more. absurd (omega arith);
  path = refl;
  directory = refl;
}
made_from sections widths (format ∷ formats) left start s count =
    next-IfOk (λ r. FieldRead sections widths left format start s r.0 r.1) (λ r. Made sections widths (format ∷ formats) s start r.0 r.1)
    (field_at sections widths left format start s) _ (field_read sections widths left format start s)
    (λ next field. IfOk-map (λ r. Made sections widths formats (at s next.1) next.0 r.0 r.1) (λ r. Made sections widths (format ∷ formats) s start r.0 r.1)
    (fields_at sections widths (left - weight format.content) formats next.0 (at s next.1))
    (λ r made. made_more sections widths left format formats start s next.0 next.1 r.0 r.1 count field made)
    (made_from sections widths formats (left - weight format.content) next.0 (at s next.1) (omega (arith, count))))

pub last_counts : (sections : SectionsView) (widths : Widths) (formats : List Format) (s : Span)
    → IfOk (name_at sections widths formats s) (λ r. LastCounts sections widths formats s r.0 r.1)
unfolding name_at
last_counts sections widths formats s =
    IfOk-map (λ r. Made sections widths formats s nameless r.0 r.1) (λ r. LastCounts sections widths formats s r.0 r.1)
    (fields_at sections widths (paths_in formats) formats nameless s)
    (λ r made. record { values = made.values; read = made.read; path = made.path; directory = made.directory })
    (made_from sections widths formats (paths_in formats) nameless s refl)
