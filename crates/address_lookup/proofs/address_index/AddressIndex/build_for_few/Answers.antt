use Rattle.std.proofs.Common.{length, sym, ap, ◌∙◌}
use Rattle.std.proofs.lemmas.List.{length-map}
use Rattle.address_lookup.specs.Kept.{kept_place_of}
use Rattle.address_lookup.proofs.address_index.AddressIndex.build_for_few.Goals as goal

pub invariant_of-result : goal.invariant_of-result
invariant_of-result g c = record {
  sizes = c.in_ok-tables.ensures.whole.sizes ∙ sym (length-map c.in_ok-tables.tables.rows.items (λ v. v.items)) ∙ ap length (sym c.unsorted-rows.ensures);
  tells = λ a. ap (λ rows. kept_place_of c.in_ok-tables.tables.units.items rows a) c.unsorted-rows.ensures ∙ c.in_ok-tables.ensures.whole.tells a;
}
