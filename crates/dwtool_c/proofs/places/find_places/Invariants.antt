use Rattle.address_lookup.specs.Places.{place_of}
use Rattle.dwtool_c.proofs.PlaceRows.{IsAhead}
use Rattle.dwtool_c.proofs.places.find_places.Given as goal

-- what was told, and what is told of the addresses that are left, is what is told of all
abbrev pub invariant-loop-address : goal.invariant-loop-address
invariant-loop-address l = IsAhead (place_of l.index) l.addresses l.address-index l.places.rows.items l.places.names.items
