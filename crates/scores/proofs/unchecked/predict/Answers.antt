-- `scores::unchecked::predict` meets its contract.
use native.Mathlib.Omega.{arith}
use Rattle.sheet.proofs.Look.{bounds}
use Rattle.scores.proofs.Laws.{scores_lay}
use Rattle.scores.proofs.unchecked.predict.Goals as goal

pub fill-requires : goal.fill-requires
fill-requires c = omega (arith, bounds c.requires.0, c.requires.1)

pub returns : goal.returns
returns c = scores_lay c.requires.0 _ _ c.requires.1 c.fill.ensures
