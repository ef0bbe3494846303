-- `lookups::unchecked::boundary` meets its contract.
use mathlib.Core.Path.{◌∙◌}
use native.Mathlib.Omega.{arith}
use Rattle.sheet.proofs.Look.{bounds, boundary_is}
use Rattle.lookups.proofs.unchecked.boundary.Goals as goal

pub bounds-sheet-i : goal.bounds-sheet-i
bounds-sheet-i c = omega (arith, bounds c.requires.0)

pub returns : goal.returns
returns c = c.from.ensures ∙ boundary_is c.requires.0 _ c.requires.1
