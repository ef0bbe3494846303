-- The rows of the code are those of the definition, one by one.
use mathlib.Core.Path.{refl}
use Rattle.types.specs.TypeOf.{ranges}
use Rattle.types.proofs.ranges.rows.Goals as goal

pub returns : goal.returns
unfolding ranges
returns c = refl
