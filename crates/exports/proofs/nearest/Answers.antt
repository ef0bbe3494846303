-- `exports::nearest` meets its contract.
use mathlib.Core.Path.{◌∙◌}
use Rattle.exports.proofs.Places.{nearest_min}
use Rattle.exports.proofs.nearest.Goals as goal

pub returns : goal.returns
returns c = c.min.ensures ∙ nearest_min c.args.place
