-- `convert::out_of_range` meets its contract.
use mathlib.Core.Path.{refl}
use Rattle.convert.specs.Convert.{out_of_range}
use Rattle.convert.proofs.out_of_range.Goals as goal

pub returns : goal.returns
unfolding out_of_range
returns c = refl
