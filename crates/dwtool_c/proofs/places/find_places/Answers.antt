use Rattle.std.proofs.Common.{option_map}
use Rattle.address_lookup.specs.Places.{place_of, place_view}
use Rattle.dwtool_c.proofs.PlaceRows.{all_told, place_next}
use Rattle.dwtool_c.proofs.places.find_places.Goals as goal

pub loop-address-preserved : goal.loop-address-preserved
loop-address-preserved c =
    place_next (place_of c.args.index.now) c.args.addresses.now c.loop-address.address-index _ (option_map place_view c.place_of.result)
    c.loop-address.places.rows.items _ c.loop-address.places.names.items _
    c.loop-address-test.true c.place_of.ensures c.in_ok-push_place.ensures.rows c.in_ok-push_place.ensures.names c.loop-address.invariant

pub returns : goal.returns
returns c =
    all_told (place_of c.args.index.now) c.args.addresses.now c.loop-address.address-index c.loop-address.places.rows.items c.loop-address.places.names.items
    c.loop-address-test.false c.loop-address.invariant
