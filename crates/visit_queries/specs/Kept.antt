-- What the visitors keep that look for entries of some tags: a line for each such entry that has a name.
use Rattle.std.specs.Prelude.{ℕ, ◌-◌, ◌==◌, Bool, ◌||◌, if◌then◌else◌, List, [], ◌∷◌, ◌++◌, Option, Some, None, codes}
use Rattle.dw_numbers.specs.declared.tag.TheConstants.{ARRAY_TYPE, CLASS_TYPE, ENUMERATION_TYPE, STRUCTURE_TYPE, TYPEDEF, UNION_TYPE, BASE_TYPE, SUBPROGRAM, VARIABLE}
use Rattle.dw_text.specs.Added.{labelled}
use Rattle.dw_text.specs.Escapes.{escaped}
use Rattle.dw_text.specs.Numbers.{hex}
use Rattle.visit_queries.specs.declared.kept_lines.KeptLines.{KeptLines}
use Rattle.visit_queries.specs.declared.visitor.Turn.{Turn}
use Rattle.visit_queries.specs.declared.visitor.Turn.TheVariants.{More, Enough}
use Rattle.visit_queries.specs.Shown.{ShownEntry}
use Rattle.visit_queries.specs.Seen.{Step}

-- the line of an entry: its place and its name, escaped
unfoldable pub kept_line : ℕ → List ℕ → List ℕ
kept_line place name = labelled (codes "0x") (hex place) ++ labelled (codes " ") (escaped name) ++ 10 ∷ []

-- enough, where nothing is left of the limit
abbrev pub turn_at : ℕ → Turn
turn_at left = if left == 0 then Enough else More

-- a named entry of the tags, while something is left of the limit
abbrev pub keep_named : ℕ → Option (List ℕ) → ℕ → List ℕ → List ℕ × Turn
keep_named place None left text = (left ∷ text, More)
keep_named place (Some name) left text = ((left - 1) ∷ text ++ kept_line place name, turn_at (left - 1))

-- A state is what is left of the limit, and behind it the text so far. An entry that is wanted and has a name adds its
-- line, and takes one from what is left. Where nothing is left, nothing is kept, and it is enough.
unfoldable pub keep_entry : Bool → ShownEntry → List ℕ → List ℕ × Turn
keep_entry wanted e [] = ([], Enough)
keep_entry wanted e (left ∷ text) =
    if left == 0 then (left ∷ text, Enough)
    else (if wanted then keep_named e.place e.name left text else (left ∷ text, More))

-- the state of lines that were kept
abbrev pub lines_state : KeptLines → List ℕ
lines_state k = k.left ∷ k.text.items

-- the step of a visitor that wants the entries of some tags
abbrev pub keep_tags : (ℕ → Bool) → Step
keep_tags wanted e state = keep_entry (wanted e.tag) e state

-- the report on a state is its text
abbrev pub kept_text : List ℕ → List ℕ
kept_text [] = []
kept_text (left ∷ text) = text

-- the tags of functions, of variables and of types
unfoldable pub is_function : ℕ → Bool
is_function tag = tag == SUBPROGRAM

unfoldable pub is_variable : ℕ → Bool
is_variable tag = tag == VARIABLE

unfoldable pub is_type : ℕ → Bool
is_type tag =
    (tag == ARRAY_TYPE) || (tag == CLASS_TYPE) || (tag == ENUMERATION_TYPE)
    || (tag == STRUCTURE_TYPE) || (tag == TYPEDEF) || (tag == UNION_TYPE) || (tag == BASE_TYPE)
