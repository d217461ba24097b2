use Rattle.map_core.proofs.CallLemmas.{calls_once}
use Rattle.map_core.proofs.laws.calls_in_order.Goals as goal

pub returns : goal.returns
returns g c = λ tag. calls_once (g.T.Fitting.fits tag)
