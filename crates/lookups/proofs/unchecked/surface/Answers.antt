-- `lookups::unchecked::surface` meets its contract.
use native.Mathlib.Omega.{arith}
use Rattle.sheet.proofs.Look.{bounds}
use Rattle.lookups.proofs.Laws.{pos_at}
use Rattle.lookups.proofs.unchecked.surface.Goals as goal

pub offset_bounds-sheet-start : goal.offset_bounds-sheet-start
offset_bounds-sheet-start c = omega (arith, bounds c.requires.0)

pub bounds-sheet-start : goal.bounds-sheet-start
bounds-sheet-start c = omega (arith, bounds c.requires.0)

pub offset_bounds-sheet-end : goal.offset_bounds-sheet-end
offset_bounds-sheet-end c = omega (arith, bounds c.requires.0)

pub bounds-sheet-end : goal.bounds-sheet-end
bounds-sheet-end c = omega (arith, bounds c.requires.0)

pub returns : goal.returns
returns c = rw (c.from.ensures, c.from-2.ensures, pos_at c.requires.0 _ c.requires.1, pos_at c.requires.0 _ c.requires.2)
