-- Laws of the tables of texts, entry after entry.
use Rattle.std.proofs.Common.{◌≡◌, ℕ, zero, suc, ◌+◌, ◌-◌, ◌≤◌, ◌==◌, Bool, true, false, cond, length, take, arith, List, [], ◌∷◌, ◌++◌, Option, Some, None, Result, Ok, Err, refl, sym, ap, ◌∙◌, append-nil}
use Rattle.dw_fields.specs.declared.fault_code.Fault.{Fault}
use Rattle.dw_fields.specs.declared.fault_code.Code.TheVariants.{LineTruncated, TextUnended}
use Rattle.dw_fields.specs.Codes.{fault}
use Rattle.std.specs.Prelude.{position}
use Rattle.dw_fields.specs.Span.{Span, at, rest_of}
use Rattle.dw_fields.specs.Reading.{Reader, ◌>>=◌, text_at, uleb_at}
use Rattle.dw_fields.specs.ReaderLaws.{IsPast, next-IfOk, text_at-past, uleb_at-past}
use Rattle.dw_fields.specs.Times.{consed, with_front, with_front-snoc}
use Rattle.line_machine.specs.Operations.{file_numbers_at}
use Rattle.line_programs.specs.declared.text_tables.TextTable.{TextTable}
use Rattle.line_programs.specs.declared.text_tables.TextTable.TheVariants.{Directories, Files}
use Rattle.line_programs.specs.Front.{in_header}
use Rattle.line_programs.specs.Shapes.{NameView}
use Rattle.line_programs.specs.Names.{nameless}
use Rattle.line_programs.specs.TextTables.{IsTableOf, IsTextTable, directory_entry_at, entries_from, file_entry_at, tabled, text_entry_at, text_table_at}

pub entries_start : (table : TextTable) (s : Span) (m : ℕ) (front : List NameView) → m ≡ s.end - s.place → front ≡ nameless ∷ []
    → with_front front (entries_from (text_entry_at table) m s) ≡ text_table_at table s
unfolding text_table_at
entries_start table s m front turns e = rw (turns, e) refl

entry_read : {X : Type 0} → (entry : Reader (Option X)) (m n : ℕ) (s : Span) (x : X) (place : ℕ) → m ≡ suc n → entry s ≡ Ok (Some x, place)
    → entries_from entry m s ≡ consed x (entries_from entry n (at s place))
unfolding entries_from
entry_read entry m n s x place turns e = rw (turns, e) refl

-- one entry more was read, and goes to the end of those before it
pub entries_next : {X : Type 0} → (entry : Reader (Option X)) (m n : ℕ) (s next : Span) (front kept : List X) (x : X) (all : Result (List X × ℕ) Fault)
    → m ≡ suc n → entry s ≡ Ok (Some x, next.place) → next ≡ at s next.place → kept ≡ front ++ x ∷ []
    → with_front front (entries_from entry m s) ≡ all → with_front kept (entries_from entry n next) ≡ all
entries_next entry m n s next front kept x all turns e q k w =
    ap (λ xs. with_front xs (entries_from entry n next)) k
    ∙ ap (λ c. with_front (front ++ x ∷ []) (entries_from entry n c)) q
    ∙ with_front-snoc front x (entries_from entry n (at s next.place))
    ∙ ap (with_front front) (sym (entry_read entry m n s x next.place turns e)) ∙ w

-- an entry that is refused is the answer
pub entries_fail : {X : Type 0} → (entry : Reader (Option X)) (m n : ℕ) (s : Span) (front : List X) (f : Fault) → m ≡ suc n → entry s ≡ Err f
    → with_front front (entries_from entry m s) ≡ Err f
unfolding entries_from
entries_fail entry m n s front f turns e = rw (turns, e) refl

-- at the empty text what was read is the answer
pub entries_end : {X : Type 0} → (entry : Reader (Option X)) (m n : ℕ) (s : Span) (front : List X) (place : ℕ) → m ≡ suc n → entry s ≡ Ok (None, place)
    → with_front front (entries_from entry m s) ≡ Ok (front, place)
unfolding entries_from
entries_end entry m n s front place turns e = rw (turns, e) (ap (λ xs. Ok (xs, place)) (append-nil front))

-- where no byte is left, the table passes the header's end
pub entries_stop : {X : Type 0} → (entry : Reader (Option X)) (m : ℕ) (s : Span) (front : List X) → m ≡ 0
    → with_front front (entries_from entry m s) ≡ Err (fault LineTruncated s.end)
unfolding entries_from
entries_stop entry m s front none = rw none refl

in_header_past : {X : Type 0} → (least : ℕ) (s : Span) (read : Result (X × ℕ) Fault) → IsPast least s read → IsPast least s (in_header read)
in_header_past least s (Ok r) past = past
in_header_past least s (Err f) past = tt

numbers_past : (s : Span) → IsPast 3 s (file_numbers_at s)
unfolding file_numbers_at
numbers_past s =
    next-IfOk (λ r. (s.place + 1 ≤ r.1) × (r.1 ≤ s.end)) (λ r. (s.place + 3 ≤ r.1) × (r.1 ≤ s.end)) (uleb_at s) _ (uleb_at-past s) (λ first a.
    next-IfOk (λ r. (first.1 + 1 ≤ r.1) × (r.1 ≤ s.end)) (λ r. (s.place + 3 ≤ r.1) × (r.1 ≤ s.end)) (uleb_at (at s first.1)) _ (uleb_at-past (at s first.1)) (λ second b.
    next-IfOk (λ r. (second.1 + 1 ≤ r.1) × (r.1 ≤ s.end)) (λ r. (s.place + 3 ≤ r.1) × (r.1 ≤ s.end)) (uleb_at (at s second.1)) _ (uleb_at-past (at s second.1)) (λ third c.
    (omega arith, c.1))))

directory_test : (s : Span) (r : List ℕ × ℕ) (b : Bool) → (s.place + 1 ≤ r.1) × (r.1 ≤ s.end)
    → IsPast {X = Option NameView} 1 s (cond b (Ok (None, r.1)) (Ok (Some (record { path = r.0; directory = 0 }), r.1)))
directory_test s r true past = past
directory_test s r false past = past

directory_past : (s : Span) → IsPast 1 s (directory_entry_at s)
unfolding directory_entry_at
directory_past s =
    next-IfOk (λ r. (s.place + 1 ≤ r.1) × (r.1 ≤ s.end)) (λ r. (s.place + 1 ≤ r.1) × (r.1 ≤ s.end)) (in_header (text_at s)) _ (in_header_past 1 s (text_at s) (text_at-past s))
    (λ r past. directory_test s r (length r.0 == 0) past)

file_test : (s : Span) (r : List ℕ × ℕ) (b : Bool) → (s.place + 1 ≤ r.1) × (r.1 ≤ s.end)
    → IsPast {X = Option NameView} 1 s (cond b (Ok (None, r.1)) (in_header (file_numbers_at (at s r.1)) >>= (λ directory. Ok (Some (record { path = r.0; directory = directory.0 }), directory.1))))
file_test s r true past = past
file_test s r false past =
    next-IfOk (λ q. (r.1 + 3 ≤ q.1) × (q.1 ≤ s.end)) (λ q. (s.place + 1 ≤ q.1) × (q.1 ≤ s.end)) (in_header (file_numbers_at (at s r.1))) _
    (in_header_past 3 (at s r.1) (file_numbers_at (at s r.1)) (numbers_past (at s r.1))) (λ directory far. (omega arith, far.1))

file_past : (s : Span) → IsPast 1 s (file_entry_at s)
unfolding file_entry_at
file_past s =
    next-IfOk (λ r. (s.place + 1 ≤ r.1) × (r.1 ≤ s.end)) (λ r. (s.place + 1 ≤ r.1) × (r.1 ≤ s.end)) (in_header (text_at s)) _ (in_header_past 1 s (text_at s) (text_at-past s))
    (λ r past. file_test s r (length r.0 == 0) past)

entry_past : (table : TextTable) (s : Span) → IsPast 1 s (text_entry_at table s)
unfolding text_entry_at
entry_past Directories s = directory_past s
entry_past Files s = file_past s

no_rest : (s : Span) → s.end ≤ s.place → rest_of s ≡ []
no_rest s past = let none : s.end - s.place ≡ 0 = omega arith in rw none refl

no_text : (s : Span) (rest : List ℕ) → rest ≡ []
    → ◌≡◌ {A = Result (List ℕ × ℕ) Fault} (elim (position (λ b. b == 0) rest) [ None ↦ Err (fault TextUnended s.place) | Some n ↦ Ok (take n rest, s.place + (n + 1)) ]) (Err (fault TextUnended s.place))
no_text s rest e = rw e refl

text_none : (s : Span) → s.end ≤ s.place → s.place ≤ s.end → text_at s ≡ Err (fault TextUnended s.end)
unfolding text_at
text_none s past inside =
    let here : s.place ≡ s.end = omega arith in
    no_text s (rest_of s) (no_rest s past) ∙ ap (λ place. Err (fault TextUnended place)) here

directory_none : (s : Span) → s.end ≤ s.place → s.place ≤ s.end → directory_entry_at s ≡ Err (fault LineTruncated s.end)
unfolding directory_entry_at
directory_none s past inside = rw (text_none s past inside) refl

file_none : (s : Span) → s.end ≤ s.place → s.place ≤ s.end → file_entry_at s ≡ Err (fault LineTruncated s.end)
unfolding file_entry_at
file_none s past inside = rw (text_none s past inside) refl

-- where the header ends no entry stands
entry_none : (table : TextTable) (s : Span) → s.end ≤ s.place → s.place ≤ s.end → text_entry_at table s ≡ Err (fault LineTruncated s.end)
unfolding text_entry_at
entry_none Directories s past inside = directory_none s past inside
entry_none Files s past inside = file_none s past inside

-- the entries of a table, and the place behind each
abbrev Entries : {X : Type 0} → Reader (Option X) → Span → Result (List X × ℕ) Fault → Type 0
Entries {X = X} entry s answer = (names : List (X × ℕ)) × IsTableOf entry names s answer

entry_first : {X : Type 0} (entry : Reader (Option X)) (most : ℕ) (s : Span) (read : Result (Option X × ℕ) Fault) → entry s ≡ read
    → ((x : X) (place : ℕ) → read ≡ Ok (Some x, place) → Entries entry (at s place) (entries_from entry most (at s place)))
    → Entries entry s (read >>= (λ found. tabled found (λ place. entries_from entry most (at s place))))
entry_first entry most s (Err f) e after = ([], rw e refl)
entry_first entry most s (Ok (None, place)) e after = ([], rw e refl)
entry_first entry most s (Ok (Some x, place)) e after =
    let rest = after x place refl in
    ((x, place) ∷ rest.0, (e, entries_from entry most (at s place), refl, rest.1))

entries_stand : (table : TextTable) (most : ℕ) (s : Span) → s.place ≤ s.end → s.end ≤ s.place + most → Entries (text_entry_at table) s (entries_from (text_entry_at table) most s)
unfolding entries_from
entries_stand table zero s inside few = ([], rw (entry_none table s (omega arith) inside) refl)
entries_stand table (suc most) s inside few =
    entry_first (text_entry_at table) most s (text_entry_at table s) refl (λ x place e.
    let past = rw e at (entry_past table s) in
    entries_stand table most (at s place) past.1 (omega (arith, past.0)))

pub text_table_stands : (table : TextTable) (s : Span) → s.place ≤ s.end → IsTextTable table s (text_table_at table s)
unfolding text_table_at
text_table_stands table s inside =
    let all = entries_stand table (s.end - s.place) s inside (omega arith) in
    (all.0, entries_from (text_entry_at table) (s.end - s.place) s, refl, all.1)
