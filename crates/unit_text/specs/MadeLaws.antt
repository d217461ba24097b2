-- Laws of texts that are made piece by piece.
use Rattle.std.specs.Prelude.{◌≡◌, refl, ℕ, ◌+◌, ◌<◌, ◌^◌, Bool, true, List, [], ◌∷◌, ◌++◌, length, Option, Some, None, is_some, Ok, Err}
use Rattle.std.proofs.Common.{arith, sym, ap, ◌∙◌, append_assoc, append-nil, length-append}
use Rattle.dw_fields.specs.declared.fault_code.Fault.{Fault}
use Rattle.entry_tree.specs.Views.{AttrView, EntryView}
use Rattle.entry_tree.specs.Taken.{with_attr}
use Rattle.unit_text.specs.Pieces.{Text, joined, texts_of}
use Rattle.unit_text.specs.UnitView.{UnitView}
use Rattle.unit_text.specs.Units.{attr_text, attrs_text, entry_line, entry_text}
use Rattle.unit_text.specs.UnitStreams.{AddedPiece, AddedTexts, Made, made_text}

-- # Pieces

pub joined_nothing : (a : Text) → joined a (Ok []) ≡ a
unfolding joined
joined_nothing (Ok a) = ap (λ x. Ok x) (append-nil a)
joined_nothing (Err f) = refl

pub joined_joined : (a b c : Text) → joined (joined a b) c ≡ joined a (joined b c)
unfolding joined
joined_joined (Ok a) (Ok b) (Ok c) = ap (λ x. Ok x) (append_assoc a b c)
joined_joined (Ok a) (Ok b) (Err f) = refl
joined_joined (Ok a) (Err f) c = refl
joined_joined (Err f) b c = refl

pub nothing_joined : (b : Text) → joined (Ok []) b ≡ b
unfolding joined
nothing_joined (Ok b) = refl
nothing_joined (Err f) = refl

pub texts_append : {X : Type 0} (text : X → Text) (xs ys : List X) → texts_of text (xs ++ ys) ≡ joined (texts_of text xs) (texts_of text ys)
unfolding texts_of
texts_append text [] ys = sym (nothing_joined (texts_of text ys))
texts_append text (x ∷ xs) ys = ap (joined (text x)) (texts_append text xs ys) ∙ sym (joined_joined (text x) (texts_of text xs) (texts_of text ys))

pub texts_one : {X : Type 0} (text : X → Text) (x : X) → texts_of text (x ∷ []) ≡ text x
unfolding texts_of
texts_one text x = joined_nothing (text x)

pub texts_more : {X : Type 0} (text : X → Text) (xs : List X) (x : X) → texts_of text (xs ++ x ∷ []) ≡ joined (texts_of text xs) (text x)
texts_more text xs x = texts_append text xs (x ∷ []) ∙ ap (joined (texts_of text xs)) (texts_one text x)

-- # Entries

pub added_none : (text : UnitView → EntryView → Text) (x : Made) → AddedTexts text x x []
unfolding texts_of
added_none text x = record { unit = refl; text = sym (joined_nothing x.text); entries = λ small. omega arith }

pub added_both : (text : UnitView → EntryView → Text) (x y z : Made) (es fs : List EntryView) → AddedTexts text x y es → AddedTexts text y z fs → AddedTexts text x z (es ++ fs)
added_both text x y z es fs p q =
    let n : ℕ = length es in let m : ℕ = length fs in let all : length (es ++ fs) ≡ n + m = length-append es fs in record {
      unit = q.unit ∙ p.unit;
      text = q.text ∙ ap (joined y.text) (ap (λ u. texts_of (text u) fs) p.unit) ∙ ap (λ t. joined t (texts_of (text x.unit) fs)) p.text
          ∙ joined_joined x.text (texts_of (text x.unit) es) (texts_of (text x.unit) fs) ∙ ap (joined x.text) (sym (texts_append (text x.unit) es fs));
      entries = λ small.
          let first : y.entries ≡ x.entries + n = p.entries (omega (arith, all)) in
          let second : z.entries ≡ y.entries + m = q.entries (omega (arith, all, first)) in
          omega (arith, all, first, second);
    }

-- an entry that was ended and counted
pub added_entry : (text : UnitView → EntryView → Text) (x y z : Made) (e : EntryView) → AddedPiece x y (text x.unit e)
    → z.unit ≡ y.unit → z.text ≡ y.text → (y.entries + 1 < 2 ^ 32 → z.entries ≡ y.entries + 1) → AddedTexts text x z (e ∷ [])
added_entry text x y z e p unit made counted = record {
  unit = unit ∙ p.unit;
  text = made ∙ p.text ∙ ap (joined x.text) (sym (texts_one (text x.unit) e));
  entries = λ small. let same : y.entries ≡ x.entries = p.entries in let more = counted (omega (arith, same)) in omega (arith, same, more);
}

-- # The lines of an entry

pub entry_more : (u : UnitView) (e : EntryView) (a : AttrView) → entry_text u (with_attr e a) ≡ joined (entry_text u e) (attr_text u a)
unfolding entry_text attrs_text entry_line
entry_more u e a =
    ap (joined (Ok (entry_line e))) (texts_more (attr_text u) e.attrs a) ∙ sym (joined_joined (Ok (entry_line e)) (texts_of (attr_text u) e.attrs) (attr_text u a))

-- behind a refusal nothing is made
pub refused_piece : (x : Made) (f : Fault) (piece : Text) → x.text ≡ Err f → AddedPiece x x piece
unfolding joined
refused_piece x f piece is = record { unit = refl; text = is ∙ sym (ap (λ t. joined t piece) is); entries = refl }

passed_made : (pieces : List ℕ) (refused : Option Fault) (x : Made) (piece : Text) → made_text pieces refused ≡ x.text → is_some refused ≡ true → AddedPiece x x piece
passed_made pieces (Some f) x piece is some = refused_piece x f piece (sym is)
passed_made pieces None x piece is some = absurd cc

pub passed_piece : (some : Bool) (pieces : List ℕ) (refused : Option Fault) (x : Made) (piece : Text) → made_text pieces refused ≡ x.text → some ≡ is_some refused → some ≡ true
    → AddedPiece x x piece
passed_piece some pieces refused x piece is same true_is = passed_made pieces refused x piece is (sym same ∙ true_is)

-- the line of an entry alone
pub entry_begun : (u : UnitView) (e : EntryView) → e.attrs ≡ [] → Ok (entry_line e) ≡ entry_text u e
unfolding entry_text attrs_text texts_of entry_line
entry_begun u e none = sym (rw none (joined_nothing (Ok (entry_line e))))

-- an attribute more
pub added_attr : (text : UnitView → EntryView → Text) (x y z : Made) (e more : EntryView) (piece : Text)
    → text y.unit more ≡ joined (text y.unit e) piece
    → AddedPiece x y (text x.unit e) → AddedPiece y z piece → AddedPiece x z (text x.unit more)
added_attr text x y z e more piece grows p q = record {
  unit = q.unit ∙ p.unit;
  text = q.text ∙ ap (λ t. joined t piece) p.text ∙ joined_joined x.text (text x.unit e) piece
      ∙ ap (λ u. joined x.text (joined (text u e) piece)) (sym p.unit) ∙ ap (joined x.text) (sym grows)
      ∙ ap (λ u. joined x.text (text u more)) p.unit;
  entries = q.entries ∙ p.entries;
}
