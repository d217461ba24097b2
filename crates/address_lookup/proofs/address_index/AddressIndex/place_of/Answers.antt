use Rattle.std.proofs.Common.{ap, ◌∙◌}
use Rattle.address_lookup.specs.Kept.{found_place}
use Rattle.address_lookup.specs.Places.{place_of}
use Rattle.address_lookup.proofs.Found.{found_first}
use Rattle.address_lookup.proofs.address_index.AddressIndex.place_of.Goals as goal

pub returns : goal.returns
returns c =
    c.found_place.ensures
    ∙ ap (λ units. found_place units c.find.result) c.as_slice.ensures.value
    ∙ ap (found_place c.self.inside.units.items) c.find.ensures
    ∙ found_first c.self.inside.units.items c.self.inside.rows c.args.address c.self.invariant.sizes
    ∙ c.self.invariant.tells c.args.address
    ∙ ap (λ s. place_of s c.args.address) c.self.view_is
