-- What one attribute more tells.
use Rattle.std.proofs.Common.{◌≡◌, ◌∷◌, [], ℕ, Bool, true, false, List, Option, Some, None, Result, Ok, Err, refl, ap}
use Rattle.std.specs.Prelude.{◌==◌, if◌then◌else◌}
use Rattle.dw_fields.specs.declared.fault_code.Fault.{Fault}
use Rattle.dw_fields.specs.Span.{Span, at}
use Rattle.dw_fields.specs.Reading.{◌>>=◌}
use Rattle.abbrev_decl.specs.declared.pairs.AttrSpec.{AttrSpec}
use Rattle.dw_numbers.specs.declared.attribute.TheConstants.{STR_OFFSETS_BASE, ADDR_BASE, RNGLISTS_BASE, LOCLISTS_BASE, LOW_PC, STMT_LIST}
use Rattle.form_values.specs.declared.raw.Widths.{Widths}
use Rattle.form_values.specs.View.{RawView}
use Rattle.entry_tree.specs.Views.{AttrView}
use Rattle.entry_tree.specs.Entries.{attr_at, attrs_at}
use Rattle.entry_tree.specs.Facts.{RootValuesView, first_named}
use Rattle.entry_tree.specs.RootValues.{or_else, first_value, values_with, values_then, gathered_with, no_values, values_of_entry}

pub same_values : (s t : RootValuesView) → s.text ≡ t.text → s.address ≡ t.address → s.ranges ≡ t.ranges → s.locations ≡ t.locations → s.low_pc ≡ t.low_pc → s.line ≡ t.line → s ≡ t
same_values s t e1 e2 e3 e4 e5 e6 = λ i. record {
  text = e1 i;
  address = e2 i;
  ranges = e3 i;
  locations = e4 i;
  low_pc = e5 i;
  line = e6 i;
}

named_first : (b : Bool) (raw : RawView) (rest : Option RawView) → or_else (if b then Some raw else None) rest ≡ (if b then Some raw else rest)
named_first true raw rest = refl
named_first false raw rest = refl

one_more : (name : ℕ) (kept : Option RawView) (a : AttrView) (attrs : List AttrView) → or_else (first_value name kept a) (first_named name attrs) ≡ or_else kept (first_named name (a ∷ attrs))
one_more name (Some raw) a attrs = refl
one_more name None a attrs = named_first (a.name == name) a.raw (first_named name attrs)

values_then-more : (values : RootValuesView) (a : AttrView) (attrs : List AttrView) → values_then (values_with values a) attrs ≡ values_then values (a ∷ attrs)
unfolding values_with
values_then-more values a attrs = same_values _ _ (one_more STR_OFFSETS_BASE values.text a attrs) (one_more ADDR_BASE values.address a attrs) (one_more RNGLISTS_BASE values.ranges a attrs)
    (one_more LOCLISTS_BASE values.locations a attrs) (one_more LOW_PC values.low_pc a attrs) (one_more STMT_LIST values.line a attrs)

gathered_with-more : (values : RootValuesView) (a : AttrView) (others : Result (List AttrView × ℕ) Fault) → gathered_with (values_with values a) others ≡ gathered_with values (others >>= (λ r. Ok (a ∷ r.0, r.1)))
gathered_with-more values a (Ok r) = ap (λ t. Ok (t, r.1)) (values_then-more values a r.0)
gathered_with-more values a (Err f) = refl

pub values_next : (widths : Widths) (pair : AttrSpec) (pairs left : List AttrSpec) (s : Span) (values later : RootValuesView) (a : AttrView) (q : ℕ)
    → pairs ≡ pair ∷ left → attr_at widths pair s ≡ Ok (a, q) → later ≡ values_with values a
    → gathered_with later (attrs_at widths left (at s q)) ≡ gathered_with values (attrs_at widths pairs s)
unfolding attrs_at
values_next widths pair pairs left s values later a q e read added = rw (e, read, added) (gathered_with-more values a (attrs_at widths left (at s q)))

pub values_fail : (widths : Widths) (pair : AttrSpec) (pairs left : List AttrSpec) (s : Span) (values : RootValuesView) (f : Fault)
    → pairs ≡ pair ∷ left → attr_at widths pair s ≡ Err f → gathered_with values (attrs_at widths pairs s) ≡ Err f
unfolding attrs_at
values_fail widths pair pairs left s values f e read = rw (e, read) refl

or_else-none : (kept : Option RawView) → or_else kept None ≡ kept
or_else-none (Some raw) = refl
or_else-none None = refl

values_then-none : (values : RootValuesView) → values_then values [] ≡ values
values_then-none values = same_values _ _ (or_else-none values.text) (or_else-none values.address) (or_else-none values.ranges) (or_else-none values.locations) (or_else-none values.low_pc) (or_else-none values.line)

pub values_done : (widths : Widths) (pairs : List AttrSpec) (s : Span) (values : RootValuesView) → pairs ≡ [] → gathered_with values (attrs_at widths pairs s) ≡ Ok (values, s.place)
unfolding attrs_at
values_done widths pairs s values e = rw e (ap (λ t. Ok (t, s.place)) (values_then-none values))

-- an entry tells what its attributes tell
pub values_entry : (children : Bool) (place depth code tag : ℕ) (read : Result (List AttrView × ℕ) Fault)
    → values_of_entry {X = Bool} (read >>= (λ attrs. Ok ((children, record { place = place; depth = depth; code = code; tag = tag; attrs = attrs.0 }), attrs.1))) ≡ gathered_with no_values read
values_entry children place depth code tag (Ok r) = refl
values_entry children place depth code tag (Err f) = refl
