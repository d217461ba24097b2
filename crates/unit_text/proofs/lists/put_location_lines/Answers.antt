use Rattle.std.proofs.Common.{Ok, Err, arith}
use Rattle.range_lists.specs.declared.locations.Location.{Location}
use Rattle.unit_text.proofs.Loops.{texts_next, texts_stop, texts_end, texts_map}
use Rattle.range_lists.specs.Locations.{location_view}
use Rattle.unit_text.specs.Lists.{location_line}
use Rattle.unit_text.proofs.lists.put_location_lines.Goals as goal

pub loop-location-init : goal.loop-location-init
loop-location-init c = λ r new p. rw (texts_map location_line location_view c.args.locations.now) at p

pub loop-location-preserved : goal.loop-location-preserved
loop-location-preserved c = λ r new p. c.loop-location.invariant r new (texts_next (λ (x : Location). location_line (location_view x)) c.args.locations.now c.loop-location.location-index _ r _ _ new c.loop-location-test.true c.in-Ok.ensures p)

pub returns-in-Err : goal.returns-in-Err
returns-in-Err c = c.loop-location.invariant (Err c.in-Err.refusal) c.put_location_line.new.out.items (texts_stop (λ (x : Location). location_line (location_view x)) c.args.locations.now c.loop-location.location-index _ _ _ _ c.loop-location-test.true c.in-Err.ensures)

pub returns : goal.returns
returns c = c.loop-location.invariant (Ok tt) _ (texts_end (λ (x : Location). location_line (location_view x)) c.args.locations.now c.loop-location.location-index _ (omega arith))
