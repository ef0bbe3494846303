-- `changes::unchecked::set_boundary` meets its contract.
use native.Mathlib.Omega.{arith}
use Rattle.sheet.proofs.Look.{bounds}
use Rattle.changes.proofs.Kept.{boundary_lays}
use Rattle.changes.proofs.unchecked.set_boundary.Goals as goal

pub bounds-boundaries-i : goal.bounds-boundaries-i
bounds-boundaries-i c = omega (arith, bounds c.requires.0)

pub returns : goal.returns
returns c = boundary_lays c.requires.0 _ _ c.requires.1 c.requires.2
