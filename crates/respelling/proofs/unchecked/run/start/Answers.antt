-- `respelling::unchecked::run::start` meets its contract.
use mathlib.Core.Path.{refl}
use Rattle.respelling.specs.Run.{first}
use Rattle.respelling.proofs.unchecked.run.start.Goals as goal

pub returns : goal.returns
unfolding first
returns c = refl
