-- The text of one abbreviation declaration, as our text format has it (DWARF 5 section 7.5.3).
use Rattle.std.specs.Prelude.{ℕ, Bool, if◌then◌else◌, ◌==◌, List, [], ◌∷◌, ◌++◌, codes}
use Rattle.dw_text.specs.Added.{labelled}
use Rattle.dw_text.specs.Numbers.{decimal, signed}
use Rattle.dw_names.specs.Texts.{tag_text, attribute_text, form_text}
use Rattle.dw_numbers.specs.declared.form.TheConstants.{IMPLICIT_CONST}
use Rattle.abbrev_decl.specs.declared.pairs.AttrSpec.{AttrSpec}
use Rattle.abbrev_decl.specs.Shapes.{DeclView}

-- the word of a declaration whose entries have children
unfoldable pub children_text : Bool → List ℕ
children_text children = if children then codes " children" else []

-- the number of implicit_const, which stands in the declaration
unfoldable pub implicit_text : AttrSpec → List ℕ
implicit_text pair =
    if pair.form == IMPLICIT_CONST then labelled (codes " ") (signed pair.implicit) else []

-- a line for a pair: the attribute, the form, and the number of implicit_const
unfoldable pub pair_text : AttrSpec → List ℕ
pair_text pair =
    labelled (codes "  ") (attribute_text pair.name) ++ labelled (codes " ") (form_text pair.form)
    ++ implicit_text pair ++ (10 ∷ [])

unfoldable pub pairs_text : List AttrSpec → List ℕ
pairs_text [] = []
pairs_text (pair ∷ pairs) = pair_text pair ++ pairs_text pairs

-- the declaration's code and tag, and a line for each pair
unfoldable pub declaration_text : DeclView → List ℕ
declaration_text declaration =
    labelled (codes " ") (decimal declaration.code)
    ++ labelled (codes " ") (tag_text declaration.tag)
    ++ children_text declaration.children
    ++ (10 ∷ [])
    ++ pairs_text declaration.pairs
