-- A value ends at its place or behind it.
use Rattle.std.proofs.Common.{◌≡◌, ℕ, ℤ, ◌≤◌, ◌==◌, ◌||◌, nat_lt, not, true, false, Bool, cond, Result, Ok, Err, subst, arith}
use Rattle.dw_fields.specs.declared.fault_code.Fault.{Fault}
use Rattle.dw_fields.specs.Span.{Span, at}
use Rattle.dw_fields.specs.Reading.{Reader, ◌>>=◌, bytes_at, number_at, offset_at, uleb_at, sleb_at, text_at}
use Rattle.dw_fields.specs.ReaderLaws.{IsPast, bytes_at-past, number_at-past, offset_at-past, uleb_at-past, sleb_at-past, text_at-past}
use Rattle.dw_numbers.specs.declared.form.TheConstants as forms
use Rattle.form_values.specs.declared.raw.Widths.{Widths}
use Rattle.form_values.specs.View.{RawView, Address, AddressIndex, Block, Expression, Unsigned, Signed, Wide, Flag, Text}
use Rattle.form_values.specs.View.{TextOffset, LineTextOffset, TextIndex, Local, Global, Signature, Offset, RangeIndex, LocationIndex, Supplement}
use Rattle.form_values.specs.FormTable.{as_raw, behind, counted_bytes, low_at, middle_at, high_at, direct_at, behind_form, indirect_at, value_at}

-- what was read ends at the place or behind it
abbrev pub Onwards : {X : Type 0} → ℕ → Result (X × ℕ) Fault → Type 0
Onwards place (Ok read) = place ≤ read.1
Onwards place (Err f) = Unit {0}

pub Onwards-is : {X : Type 0} → (place next : ℕ) (x : X) (answer : Result (X × ℕ) Fault) → answer ≡ Ok (x, next) → Onwards place answer → place ≤ next
Onwards-is {X = X} place next x answer e h = let P : Result (X × ℕ) Fault → Type 0 = λ a. Onwards place a in let k : Onwards place (Ok (x, next)) = subst P e h in k

pub Onwards-then : {X Y : Type 0} → (place : ℕ) (answer : Result (X × ℕ) Fault) (next : X × ℕ → Result (Y × ℕ) Fault)
    → Onwards place answer → ((read : X × ℕ) → place ≤ read.1 → Onwards place (next read)) → Onwards place (answer >>= next)
Onwards-then place (Ok read) next h k = k read h
Onwards-then place (Err f) next h k = tt

pub Onwards-either : {X : Type 0} → (test : Bool) (place : ℕ) (then_read else_read : Result (X × ℕ) Fault)
    → Onwards place then_read → Onwards place else_read → Onwards place (cond test then_read else_read)
Onwards-either true place then_read else_read h k = h
Onwards-either false place then_read else_read h k = k

pub Onwards-later : {X : Type 0} → (place later : ℕ) (answer : Result (X × ℕ) Fault) → place ≤ later → Onwards later answer → Onwards place answer
Onwards-later place later (Ok read) le h = omega arith
Onwards-later place later (Err f) le h = tt

pub Onwards-past : {X : Type 0} → (least : ℕ) (s : Span) (answer : Result (X × ℕ) Fault) → IsPast least s answer → Onwards s.place answer
Onwards-past least s (Ok read) past = omega (arith, past.0)
Onwards-past least s (Err f) past = tt

raw : {X : Type 0} → (view : X → RawView) (place : ℕ) (answer : Result (X × ℕ) Fault) → Onwards place answer → Onwards place (as_raw view answer)
raw view place (Ok read) h = h
raw view place (Err f) h = tt

number : (n : ℕ) (s : Span) → Onwards s.place (number_at n s)
number n s = Onwards-past n s (number_at n s) (number_at-past n s)

offset : (wide : Bool) (s : Span) → Onwards s.place (offset_at wide s)
offset wide s = Onwards-past 4 s (offset_at wide s) (offset_at-past wide s)

uleb : (s : Span) → Onwards s.place (uleb_at s)
uleb s = Onwards-past 1 s (uleb_at s) (uleb_at-past s)

sleb : (s : Span) → Onwards s.place (sleb_at s)
sleb s = Onwards-past 1 s (sleb_at s) (sleb_at-past s)

text : (s : Span) → Onwards s.place (text_at s)
text s = Onwards-past 1 s (text_at s) (text_at-past s)

bytes : (n : ℕ) (s : Span) → Onwards s.place (bytes_at n s)
bytes n s = Onwards-past n s (bytes_at n s) (bytes_at-past n s)

counted : (count : Reader ℕ) (s : Span) → Onwards s.place (count s) → Onwards s.place (counted_bytes count s)
unfolding counted_bytes
counted count s h =
    Onwards-then s.place (count s) (λ n. behind n.1 n.0 s) h
    (λ n k. Onwards-later s.place n.1 (bytes_at n.0 (at s n.1)) k (bytes n.0 (at s n.1)))

low : (form : ℕ) (widths : Widths) (s : Span) → Onwards s.place (low_at form widths s)
unfolding low_at
low form widths s =
    Onwards-either (form == forms.ADDR) s.place _ _ (raw Address s.place _ (number widths.address_size s))
    (Onwards-either (form == forms.BLOCK2) s.place _ _ (raw Block s.place _ (counted (number_at 2) s (number 2 s)))
    (Onwards-either (form == forms.BLOCK4) s.place _ _ (raw Block s.place _ (counted (number_at 4) s (number 4 s)))
    (Onwards-either (form == forms.DATA2) s.place _ _ (raw Unsigned s.place _ (number 2 s))
    (Onwards-either (form == forms.DATA4) s.place _ _ (raw Unsigned s.place _ (number 4 s))
    (Onwards-either (form == forms.DATA8) s.place _ _ (raw Unsigned s.place _ (number 8 s))
    (Onwards-either (form == forms.STRING) s.place _ _ (raw Text s.place _ (text s))
    (Onwards-either (form == forms.BLOCK) s.place _ _ (raw Block s.place _ (counted uleb_at s (uleb s)))
    (Onwards-either (form == forms.BLOCK1) s.place _ _ (raw Block s.place _ (counted (number_at 1) s (number 1 s)))
    (Onwards-either (form == forms.DATA1) s.place _ _ (raw Unsigned s.place _ (number 1 s))
    (Onwards-either (form == forms.FLAG) s.place _ _ (raw (λ n. Flag (not (n == 0))) s.place _ (number 1 s))
    (Onwards-either (form == forms.SDATA) s.place _ _ (raw Signed s.place _ (sleb s))
    (Onwards-either (form == forms.STRP) s.place _ _ (raw TextOffset s.place _ (offset widths.wide s))
    (Onwards-either (form == forms.UDATA) s.place _ _ (raw Unsigned s.place _ (uleb s)) tt)))))))))))))

middle : (form : ℕ) (widths : Widths) (s : Span) → Onwards s.place (middle_at form widths s)
unfolding middle_at
middle form widths s =
    Onwards-either (form == forms.REF_ADDR) s.place _ _ (raw Global s.place _ (offset widths.wide s))
    (Onwards-either (form == forms.REF1) s.place _ _ (raw Local s.place _ (number 1 s))
    (Onwards-either (form == forms.REF2) s.place _ _ (raw Local s.place _ (number 2 s))
    (Onwards-either (form == forms.REF4) s.place _ _ (raw Local s.place _ (number 4 s))
    (Onwards-either (form == forms.REF8) s.place _ _ (raw Local s.place _ (number 8 s))
    (Onwards-either (form == forms.REF_UDATA) s.place _ _ (raw Local s.place _ (uleb s))
    (Onwards-either (form == forms.SEC_OFFSET) s.place _ _ (raw Offset s.place _ (offset widths.wide s))
    (Onwards-either (form == forms.EXPRLOC) s.place _ _ (raw Expression s.place _ (counted uleb_at s (uleb s)))
    (Onwards-either (form == forms.FLAG_PRESENT) s.place _ _ (omega arith)
    (Onwards-either (form == forms.STRX) s.place _ _ (raw TextIndex s.place _ (uleb s))
    (Onwards-either (form == forms.ADDRX) s.place _ _ (raw AddressIndex s.place _ (uleb s))
    (Onwards-either (form == forms.REF_SUP4) s.place _ _ (raw Supplement s.place _ (number 4 s))
    (Onwards-either (form == forms.STRP_SUP) s.place _ _ (raw Supplement s.place _ (offset widths.wide s))
    (Onwards-either (form == forms.DATA16) s.place _ _ (raw Wide s.place _ (bytes 16 s))
    (Onwards-either (form == forms.LINE_STRP) s.place _ _ (raw LineTextOffset s.place _ (offset widths.wide s)) tt))))))))))))))

high : (form : ℕ) (s : Span) → Onwards s.place (high_at form s)
unfolding high_at
high form s =
    Onwards-either (form == forms.REF_SIG8) s.place _ _ (raw Signature s.place _ (number 8 s))
    (Onwards-either (form == forms.LOCLISTX) s.place _ _ (raw LocationIndex s.place _ (uleb s))
    (Onwards-either (form == forms.RNGLISTX) s.place _ _ (raw RangeIndex s.place _ (uleb s))
    (Onwards-either (form == forms.REF_SUP8) s.place _ _ (raw Supplement s.place _ (number 8 s))
    (Onwards-either (form == forms.STRX1) s.place _ _ (raw TextIndex s.place _ (number 1 s))
    (Onwards-either (form == forms.STRX2) s.place _ _ (raw TextIndex s.place _ (number 2 s))
    (Onwards-either (form == forms.STRX3) s.place _ _ (raw TextIndex s.place _ (number 3 s))
    (Onwards-either (form == forms.STRX4) s.place _ _ (raw TextIndex s.place _ (number 4 s))
    (Onwards-either (form == forms.ADDRX1) s.place _ _ (raw AddressIndex s.place _ (number 1 s))
    (Onwards-either (form == forms.ADDRX2) s.place _ _ (raw AddressIndex s.place _ (number 2 s))
    (Onwards-either (form == forms.ADDRX3) s.place _ _ (raw AddressIndex s.place _ (number 3 s))
    (Onwards-either (form == forms.ADDRX4) s.place _ _ (raw AddressIndex s.place _ (number 4 s)) tt)))))))))))

direct : (form : ℕ) (widths : Widths) (s : Span) → Onwards s.place (direct_at form widths s)
unfolding direct_at
direct form widths s =
    Onwards-either (nat_lt form 0x10) s.place _ _ (low form widths s)
    (Onwards-either (nat_lt form 0x20) s.place _ _ (middle form widths s) (high form s))

behind_any_form : {X : Type 0} → (place start : ℕ) (answer : Result (X × ℕ) Fault) → Onwards start answer → Onwards start (behind_form place answer)
behind_any_form place start (Ok read) h = h
behind_any_form place start (Err f) h = tt

indirect : (widths : Widths) (s : Span) → Onwards s.place (indirect_at widths s)
unfolding indirect_at
indirect widths s =
    Onwards-then s.place (uleb_at s) _ (uleb s)
    (λ form k. Onwards-either ((form.0 == forms.INDIRECT) || (form.0 == forms.IMPLICIT_CONST)) s.place _ _ tt
    (behind_any_form s.place s.place (direct_at form.0 widths (at s form.1))
    (Onwards-later s.place form.1 (direct_at form.0 widths (at s form.1)) k (direct form.0 widths (at s form.1)))))

pub value_onwards : (form : ℕ) (widths : Widths) (implicit : ℤ) (s : Span) → Onwards s.place (value_at form widths implicit s)
unfolding value_at
value_onwards form widths implicit s =
    Onwards-either (form == forms.INDIRECT) s.place _ _ (indirect widths s)
    (Onwards-either (form == forms.IMPLICIT_CONST) s.place _ _ (omega arith) (direct form widths s))
