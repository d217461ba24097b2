-- What is found in the rows of matches after a use.
use Rattle.std.proofs.Common.{◌≡◌, ◌∙◌, Bool, cond, true, false, refl, sym, ap, true≢false, List, [], ◌∷◌, ◌++◌, Option, Some, None, find, bytes_eq, ◌||◌}
use Rattle.std.specs.Option.{is_some, option_map}
use Rattle.std.proofs.lemmas.Slice.Eq.{bytes_eq-Decides}
use Rattle.clap.specs.Walk.{Row, Text, has_row, more_values, stronger, with_values, without}
use Rattle.clap.specs.declared.builder.value_parser.Reading.{Reading}
use Rattle.clap.specs.declared.parser.matches.ValueSource.{ValueSource}

abbrev pub found : Text → List Row → Option Row
found id rows = find (λ r. bytes_eq r.id id) rows

-- ---- no row of the id

pub same_without : (id : Text) (rows : List Row) → found id rows ≡ None → without id rows ≡ rows
same_without id [] none = refl
same_without id (r ∷ rows) none = go (bytes_eq r.id id) none (same_without id rows)
  where
    go : (b : Bool) → cond b (Some r) (found id rows) ≡ None → (found id rows ≡ None → without id rows ≡ rows) → cond b ([] ++ rows) (r ∷ without id rows) ≡ r ∷ rows
    go true e more = absurd (true≢false (ap is_some e))
    go false e more = ap (λ rs. r ∷ rs) (more e)

pub has_none : (id : Text) (rows : List Row) → found id rows ≡ None → has_row id rows ≡ false
has_none id [] none = refl
has_none id (r ∷ rows) none = go (bytes_eq r.id id) none (has_none id rows)
  where
    go : (b : Bool) → cond b (Some r) (found id rows) ≡ None → (found id rows ≡ None → has_row id rows ≡ false) → (b || has_row id rows) ≡ false
    go true e more = absurd (true≢false (ap is_some e))
    go false e more = more e

pub has_one : (id : Text) (rows : List Row) (row : Row) → found id rows ≡ Some row → has_row id rows ≡ true
has_one id [] row one = absurd (true≢false (sym (ap is_some one)))
has_one id (r ∷ rows) row one = go (bytes_eq r.id id) one (has_one id rows row)
  where
    go : (b : Bool) → cond b (Some r) (found id rows) ≡ Some row → (found id rows ≡ Some row → has_row id rows ≡ true) → (b || has_row id rows) ≡ true
    go true e more = refl
    go false e more = more e

-- ---- after a use

module _ (id : Text) (how : Reading) (s : ValueSource) (values : List Text) where
  abbrev new_row : Row
  new_row = record { id = id; values = values; count = None; source = Some s; reading = how }

  pub found_new : (rows : List Row) → bytes_eq id id ≡ true → found id rows ≡ None → found id (with_values id how s values rows) ≡ Some new_row
  found_new [] same none = rw same refl
  found_new (r ∷ rows) same none = go (bytes_eq r.id id) refl none (found_new rows same)
    where
      go : (b : Bool) → bytes_eq r.id id ≡ b → cond b (Some r) (found id rows) ≡ None → (found id rows ≡ None → found id (with_values id how s values rows) ≡ Some new_row)
          → found id (cond b (more_values s values r ++ rows) (r ∷ with_values id how s values rows)) ≡ Some new_row
      go true t e more = absurd (true≢false (ap is_some e))
      go false t e more = rw t (more e)

  pub found_more : (rows : List Row) (row : Row) → found id rows ≡ Some row → found id (with_values id how s values rows) ≡ Some (record row { values = row.values ++ values; source = Some (stronger row.source s) })
  found_more [] row one = absurd (true≢false (sym (ap is_some one)))
  found_more (r ∷ rows) row one = go (bytes_eq r.id id) refl one (found_more rows row)
    where
      go : (b : Bool) → bytes_eq r.id id ≡ b → cond b (Some r) (found id rows) ≡ Some row → (found id rows ≡ Some row → found id (with_values id how s values rows) ≡ Some (record row { values = row.values ++ values; source = Some (stronger row.source s) }))
          → found id (cond b (more_values s values r ++ rows) (r ∷ with_values id how s values rows)) ≡ Some (record row { values = row.values ++ values; source = Some (stronger row.source s) })
      go true t e more = rw t (ap (option_map (λ (x : Row). record x { values = x.values ++ values; source = Some (stronger x.source s) })) e)
      go false t e more = rw t (more e)

  -- the row of another id stays
  pub found_other : (other : Text) → bytes_eq id other ≡ false → (rows : List Row) → found other (with_values id how s values rows) ≡ found other rows
  found_other other apart [] = rw apart refl
  found_other other apart (r ∷ rows) = go (bytes_eq r.id id) refl (found_other other apart rows)
    where
      go : (b : Bool) → bytes_eq r.id id ≡ b → found other (with_values id how s values rows) ≡ found other rows
          → found other (cond b (more_values s values r ++ rows) (r ∷ with_values id how s values rows)) ≡ cond (bytes_eq r.id other) (Some r) (found other rows)
      go true t more =
          let away : bytes_eq r.id other ≡ false = ap (λ x. bytes_eq x other) ((bytes_eq-Decides r.id id).0 t) ∙ apart in
          rw away refl
      go false t more = ap (cond (bytes_eq r.id other) (Some r)) more
