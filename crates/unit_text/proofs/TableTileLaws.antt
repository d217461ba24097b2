-- The text of all abbreviation tables, walking from one declaration to the next, is that of tables that tile the section.
use Rattle.std.proofs.Common.{◌≡◌, ℕ, zero, suc, ◌+◌, ◌-◌, ◌<◌, ◌≤◌, nat_lt, ltb-true, ltb-false, Bool, true, false, cond, refl, sym, ap, subst, ◌∙◌, List, [], ◌∷◌, ◌++◌, length, append-nil, Option, Some, None, Result, Ok, Err, arith}
use Rattle.std.specs.List.{flat_map}
use Rattle.dw_fields.specs.declared.fault_code.Fault.{Fault}
use Rattle.dw_fields.specs.declared.fault_code.Code.TheVariants.{DeclTruncated}
use Rattle.dw_fields.specs.ReaderLaws.{IsPast, uleb_at-past}
use Rattle.dw_fields.specs.Codes.{fault}
use Rattle.dw_fields.specs.Reading.{uleb_at}
use Rattle.abbrev_decl.specs.Pairs.{from}
use Rattle.abbrev_decl.specs.Shapes.{DeclView}
use Rattle.abbrev_decl.specs.Declarations.{declaration_at}
use Rattle.abbrev_decl.proofs.WalkLaws.{declaration_end, declaration_forward, declaration_inside}
use Rattle.unit_text.specs.Declarations.{declaration_text}
use Rattle.unit_text.specs.Tables.{after, headed_table, table_from, table_from_start, table_line, table_on, tables_from, tables_on, tables_text, zero_end}
use Rattle.unit_text.specs.TableTiles.{BeginsAt, DeclarationsStand, AbbrevTable, TablesEnd, TablesStand, TablesTile, text_of_table}
use Rattle.unit_text.proofs.TableLaws.{table_fault, table_next, table_zero, tables_end, tables_next, zero_is_read}

abbrev told : List ℕ → Option Fault → List ℕ × Option Fault
told text stop = (text, stop)

abbrev read : List ℕ → Result ℕ Fault → List ℕ × Result ℕ Fault
read text end = (text, end)

zero_is : (section : List ℕ) (place : ℕ) (code : ℕ × ℕ) → uleb_at (from section place) ≡ Ok code → zero_end section place ≡ code.1
unfolding zero_end
zero_is section place code e = rw (e, zero_end)

zero_past_on : (section : List ℕ) (place : ℕ) (found : Result (ℕ × ℕ) Fault) → uleb_at (from section place) ≡ found → declaration_at section place ≡ Ok None → IsPast 1 (from section place) found
    → (place < zero_end section place) × (zero_end section place ≤ length section)
zero_past_on section place (Ok code) e none past =
    let at : zero_end section place ≡ code.1 = zero_is section place code e in
    (omega (arith, past.0), omega (arith, past.1))
zero_past_on section place (Err f) e none past = absurd (zero_is_read section place f none e)

-- a code 0 ends behind its place, in the section
zero_past : (section : List ℕ) (place : ℕ) → declaration_at section place ≡ Ok None → (place < zero_end section place) × (zero_end section place ≤ length section)
zero_past section place none = zero_past_on section place (uleb_at (from section place)) refl none (uleb_at-past (from section place))

-- declarations that stand end at their place or behind it
stand_on : (section : List ℕ) (place : ℕ) (declarations : List DeclView) (last : ℕ) → DeclarationsStand section place declarations last → place ≤ last
stand_on section place [] last stand = omega (arith, stand)
stand_on section place (declaration ∷ others) last stand =
    let forward : place < stand.0 = declaration_forward section place stand.0 declaration stand.1 in
    let later : stand.0 ≤ last = stand_on section stand.0 others last stand.2 in
    omega arith

-- ---- the walk over one table

-- what ends a table's declarations: a code 0, or a fault
abbrev EndsAt : List ℕ → ℕ → Result ℕ Fault → Type 0
EndsAt section last (Ok next) = (declaration_at section last ≡ Ok None) × (next ≡ zero_end section last)
EndsAt section last (Err f) = declaration_at section last ≡ Err f

-- the text of a table is that of declarations which stand one behind another
record DeclarationsTile (section : List ℕ) (place : ℕ) (t : List ℕ × Result ℕ Fault) : Type 0 where
  pub declarations : List DeclView
  pub last : ℕ
  pub stand : DeclarationsStand section place declarations last
  pub ends : EndsAt section last t.1
  pub texts : t.0 ≡ flat_map declaration_text declarations

one_more : (section : List ℕ) (place next : ℕ) (declaration : DeclView) (t : List ℕ × Result ℕ Fault)
    → declaration_at section place ≡ Ok (Some (declaration, next)) → DeclarationsTile section next t → DeclarationsTile section place (after (declaration_text declaration) t)
one_more section place next declaration t e tile = record {
  declarations = declaration ∷ tile.declarations;
  last = tile.last;
  stand = (next, e, tile.stand);
  ends = tile.ends;
  texts = ap (λ (x : List ℕ). declaration_text declaration ++ x) tile.texts;
}

table_on_tiles : (found : Result (Option (DeclView × ℕ)) Fault) (section : List ℕ) (place : ℕ) (rest : ℕ → List ℕ × Result ℕ Fault) → declaration_at section place ≡ found
    → ((next : ℕ) → place < next → DeclarationsTile section next (rest next)) → DeclarationsTile section place (table_on found (zero_end section place) rest)
table_on_tiles (Err f) section place rest e later = record { declarations = []; last = place; stand = refl; ends = e; texts = refl }
table_on_tiles (Ok None) section place rest e later = record { declarations = []; last = place; stand = refl; ends = (e, refl); texts = refl }
table_on_tiles (Ok (Some (declaration, next))) section place rest e later =
    one_more section place next declaration (rest next) e (later next (declaration_forward section place next declaration e))

table_tiles : (most : ℕ) (section : List ℕ) (place : ℕ) → length section < place + most → DeclarationsTile section place (table_from most section place)
table_tiles zero section place enough = record { declarations = []; last = place; stand = refl; ends = declaration_end section place (omega arith); texts = refl }
table_tiles (suc most) section place enough =
    table_on_tiles (declaration_at section place) section place (λ next. table_from most section next) refl (λ next on. table_tiles most section next (omega arith))

-- ---- the walk over all tables

tables_on_tile : (section : List ℕ) (place : ℕ) (t : List ℕ × Result ℕ Fault) (rest : ℕ → List ℕ × Option Fault) → place < length section → DeclarationsTile section place t
    → ((next : ℕ) → place < next → next ≤ length section → TablesTile section next (rest next).0 (rest next).1)
    → TablesTile section place (tables_on (after (table_line place) t) rest).0 (tables_on (after (table_line place) t) rest).1
tables_on_tile section place (text, Err f) rest within tile later =
    let table : AbbrevTable = record { place = place; declarations = tile.declarations; last = tile.last } in
    record {
      tables = [];
      end = place;
      unended = table ∷ [];
      stand = refl;
      ends = (within, table, refl, record { begins = refl; stand = tile.stand }, tile.ends);
      texts = ap (λ (x : List ℕ). table_line place ++ x) tile.texts ∙ sym (append-nil (text_of_table table));
    }
tables_on_tile section place (text, Ok next) rest within tile later =
    let table : AbbrevTable = record { place = place; declarations = tile.declarations; last = tile.last } in
    let past = zero_past section tile.last tile.ends.0 in
    let on : place ≤ tile.last = stand_on section place tile.declarations tile.last tile.stand in
    let behind : next ≡ zero_end section tile.last = tile.ends.1 in
    let others : TablesTile section next (rest next).0 (rest next).1 = later next (omega (arith, past.0)) (omega (arith, past.1)) in
    record {
      tables = table ∷ others.tables;
      end = others.end;
      unended = others.unended;
      stand = (record { begins = refl; stand = tile.stand }, tile.ends.0, subst (λ (p : ℕ). TablesStand section p others.tables others.end) behind others.stand);
      ends = others.ends;
      texts = ap (λ (x : List ℕ). table_line place ++ x ++ (rest next).0) tile.texts ∙ ap (λ (x : List ℕ). text_of_table table ++ x) others.texts;
    }

headed_tiles : (section : List ℕ) (place : ℕ) (rest : ℕ → List ℕ × Option Fault) → place < length section
    → ((next : ℕ) → place < next → next ≤ length section → TablesTile section next (rest next).0 (rest next).1)
    → TablesTile section place (tables_on (headed_table section place) rest).0 (tables_on (headed_table section place) rest).1
unfolding headed_table table_from_start
headed_tiles section place rest within later =
    tables_on_tile section place (table_from (length section + 1) section place) rest within (table_tiles (length section + 1) section place (omega arith)) later

nothing_left : (section : List ℕ) (place : ℕ) → place ≡ length section → TablesTile section place [] None
nothing_left section place all = record { tables = []; end = place; unended = []; stand = refl; ends = (all, refl); texts = refl }

tables_begun : (section : List ℕ) (place : ℕ) (test : Bool) (t : List ℕ × Option Fault) → nat_lt place (length section) ≡ test → place ≤ length section
    → (place < length section → TablesTile section place t.0 t.1) → TablesTile section place (cond test t ([], None)).0 (cond test t ([], None)).1
tables_begun section place true t test inside more = more (ltb-true place (length section) test)
tables_begun section place false t test inside more = let past : length section ≤ place = ltb-false place (length section) test in nothing_left section place (omega arith)

tables_tile_from : (most : ℕ) (section : List ℕ) (place : ℕ) → place ≤ length section → length section ≤ place + most
    → TablesTile section place (tables_from most section place).0 (tables_from most section place).1
tables_tile_from zero section place inside enough = nothing_left section place (omega arith)
tables_tile_from (suc most) section place inside enough =
    tables_begun section place (nat_lt place (length section)) (tables_on (headed_table section place) (λ next. tables_from most section next)) refl inside
    (λ within. headed_tiles section place (λ next. tables_from most section next) within
    (λ next on ends. tables_tile_from most section next ends (omega arith)))

-- the text of all tables is that of tables which tile the section
pub tables_tile : (section : List ℕ) → TablesTile section 0 (tables_text section).0 (tables_text section).1
unfolding tables_text
tables_tile section = tables_tile_from (length section + 1) section 0 (omega arith) (omega arith)

-- ---- nothing else tiles the section

zero_inside : (section : List ℕ) (place : ℕ) → declaration_at section place ≡ Ok None → place < length section
zero_inside section place none = let past = zero_past section place none in omega (arith, past.0, past.1)

table_ends : (declarations : List DeclView) (section : List ℕ) (most place last : ℕ) → length section < place + most → DeclarationsStand section place declarations last
    → declaration_at section last ≡ Ok None → table_from most section place ≡ (flat_map declaration_text declarations, Ok (zero_end section last))
table_ends [] section most place last enough stand none =
    let here : declaration_at section place ≡ Ok None = ap (declaration_at section) stand ∙ none in
    let inside : place < length section = zero_inside section place here in
    table_zero section most place (omega arith) here ∙ ap (λ (p : ℕ). read [] (Ok (zero_end section p))) stand
table_ends (declaration ∷ others) section most place last enough stand none =
    let inside : place < length section = declaration_inside section place stand.0 declaration stand.1 in
    let forward : place < stand.0 = declaration_forward section place stand.0 declaration stand.1 in
    table_next section most place declaration stand.0 (omega arith) stand.1
    ∙ ap (after (declaration_text declaration)) (table_ends others section (most - 1) stand.0 last (omega arith) stand.2 none)

fault_here : (most : ℕ) (section : List ℕ) (place : ℕ) (f : Fault) → length section < place + most → declaration_at section place ≡ Err f → table_from most section place ≡ ([], Err f)
fault_here zero section place f enough e =
    let end : declaration_at section place ≡ Err (fault DeclTruncated place) = declaration_end section place (omega arith) in
    let same : fault DeclTruncated place ≡ f = cc in
    ap (λ (g : Fault). read [] (Err g)) same
fault_here (suc most) section place f enough e = table_fault section (suc most) place f (omega arith) e

table_breaks : (declarations : List DeclView) (section : List ℕ) (most place last : ℕ) (f : Fault) → length section < place + most → DeclarationsStand section place declarations last
    → declaration_at section last ≡ Err f → table_from most section place ≡ (flat_map declaration_text declarations, Err f)
table_breaks [] section most place last f enough stand e = fault_here most section place f enough (ap (declaration_at section) stand ∙ e)
table_breaks (declaration ∷ others) section most place last f enough stand e =
    let inside : place < length section = declaration_inside section place stand.0 declaration stand.1 in
    let forward : place < stand.0 = declaration_forward section place stand.0 declaration stand.1 in
    table_next section most place declaration stand.0 (omega arith) stand.1
    ∙ ap (after (declaration_text declaration)) (table_breaks others section (most - 1) stand.0 last f (omega arith) stand.2 e)

headed_ends : (section : List ℕ) (place : ℕ) (table : AbbrevTable) → BeginsAt section place table → declaration_at section table.last ≡ Ok None
    → headed_table section place ≡ (text_of_table table, Ok (zero_end section table.last))
unfolding headed_table table_from_start
headed_ends section place table at none =
    ap (after (table_line place)) (table_ends table.declarations section (length section + 1) place table.last (omega arith) at.stand none)
    ∙ ap (λ (p : ℕ). read (table_line p ++ flat_map declaration_text table.declarations) (Ok (zero_end section table.last))) (sym at.begins)

headed_breaks : (section : List ℕ) (place : ℕ) (table : AbbrevTable) (f : Fault) → BeginsAt section place table → declaration_at section table.last ≡ Err f
    → headed_table section place ≡ (text_of_table table, Err f)
unfolding headed_table table_from_start
headed_breaks section place table f at e =
    ap (after (table_line place)) (table_breaks table.declarations section (length section + 1) place table.last f (omega arith) at.stand e)
    ∙ ap (λ (p : ℕ). read (table_line p ++ flat_map declaration_text table.declarations) (Err f)) (sym at.begins)

last_tile : (section : List ℕ) (most place end : ℕ) (unended : List AbbrevTable) (stop : Option Fault) → length section < place + most → place ≡ end → TablesEnd section end unended stop
    → tables_from most section place ≡ (flat_map text_of_table unended, stop)
last_tile section most place end unended None enough same ends =
    let at : end ≡ length section = ends.0 in
    tables_end section most place (omega arith) (omega arith) ∙ ap (λ (us : List AbbrevTable). told (flat_map text_of_table us) None) (sym ends.1)
last_tile section most place end unended (Some f) enough same ends =
    let inside : place < length section = omega (arith, ends.0) in
    let at : BeginsAt section place ends.1 = subst (λ (p : ℕ). BeginsAt section p ends.1) (sym same) ends.3 in
    let rest : ℕ → List ℕ × Option Fault = λ next. tables_from (most - 1) section next in
    tables_next section most place (omega arith) inside
    ∙ ap (λ (t : List ℕ × Result ℕ Fault). tables_on t rest) (headed_breaks section place ends.1 f at ends.4)
    ∙ ap (λ (x : List ℕ). told x (Some f)) (sym (append-nil (text_of_table ends.1)))
    ∙ ap (λ (us : List AbbrevTable). told (flat_map text_of_table us) (Some f)) (sym ends.2)

tiles_only : (tables : List AbbrevTable) (section : List ℕ) (most place end : ℕ) (unended : List AbbrevTable) (stop : Option Fault)
    → length section < place + most → TablesStand section place tables end → TablesEnd section end unended stop
    → tables_from most section place ≡ (flat_map text_of_table (tables ++ unended), stop)
tiles_only [] section most place end unended stop enough stand ends = last_tile section most place end unended stop enough stand ends
tiles_only (table ∷ others) section most place end unended stop enough stand ends =
    let on : place ≤ table.last = stand_on section place table.declarations table.last stand.0.stand in
    let past = zero_past section table.last stand.1 in
    let inside : place < length section = omega (arith, past.0, past.1) in
    let rest : ℕ → List ℕ × Option Fault = λ next. tables_from (most - 1) section next in
    tables_next section most place (omega arith) inside
    ∙ ap (λ (t : List ℕ × Result ℕ Fault). tables_on t rest) (headed_ends section place table stand.0 stand.1)
    ∙ ap (after (text_of_table table)) (tiles_only others section (most - 1) (zero_end section table.last) end unended stop (omega (arith, past.0)) stand.2 ends)

-- tables that tile the section have no other text than that
pub tables_only : (section text : List ℕ) (stop : Option Fault) → TablesTile section 0 text stop → tables_text section ≡ (text, stop)
unfolding tables_text
tables_only section text stop tile =
    tiles_only tile.tables section (length section + 1) 0 tile.end tile.unended stop (omega arith) tile.stand tile.ends
    ∙ ap (λ (x : List ℕ). told x stop) (sym tile.texts)

-- at the section's end neither a declaration nor a code 0 stands
pub end_faults : (section : List ℕ) → declaration_at section (length section) ≡ Err (fault DeclTruncated (length section))
end_faults section = declaration_end section (length section) (omega arith)
