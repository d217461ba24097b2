use Rattle.std.proofs.Common.{inl}
use Rattle.dwtool_c.specs.Places.{place_names_answer, place_rows_answer}
use Rattle.dwtool_c.proofs.places.dwtool_places.Goals as goal

pub returns-in-Ok : goal.returns-in-Ok
returns-in-Ok c =
    let named = c.hand_told.ensures (place_names_answer c.args.addresses.now c.args.file.now) c.in-Ok.ensures.names in
    inl (record {
      first = c.hand_told-in-Ok.ensures (place_rows_answer c.args.addresses.now c.args.file.now) c.in-Ok.ensures.rows;
      front = named.front;
      whole = named.whole;
    })
