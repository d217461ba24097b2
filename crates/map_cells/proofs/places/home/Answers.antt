use Rattle.std.proofs.Common.{refl}
use Rattle.map_core.specs.Places.{home}
use Rattle.map_cells.proofs.places.home.Goals as goal

pub returns : goal.returns
unfolding home
returns c = refl
