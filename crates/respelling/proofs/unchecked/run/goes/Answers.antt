-- `respelling::unchecked::run::goes` meets its contract.
use mathlib.Core.Path.{refl}
use Rattle.respelling.specs.Run.{goes_on}
use Rattle.respelling.proofs.unchecked.run.goes.Goals as goal

pub returns : goal.returns
unfolding goes_on
returns c = refl
