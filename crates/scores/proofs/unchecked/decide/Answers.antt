-- `scores::unchecked::decide` meets its contract.
use mathlib.Core.Path.{◌∙◌}
use Rattle.scores.proofs.Laws.{above}
use Rattle.scores.proofs.unchecked.decide.Goals as goal

pub returns : goal.returns
returns c = c.from.ensures ∙ above _ c.ranges.score
