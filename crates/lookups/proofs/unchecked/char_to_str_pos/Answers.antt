-- `lookups::unchecked::char_to_str_pos` meets its contract.
use mathlib.Core.Path.{◌∙◌}
use native.Mathlib.Omega.{arith}
use Rattle.sheet.proofs.Look.{bounds}
use Rattle.lookups.proofs.Laws.{pos_at}
use Rattle.lookups.proofs.unchecked.char_to_str_pos.Goals as goal

pub offset_bounds-sheet-i : goal.offset_bounds-sheet-i
offset_bounds-sheet-i c = omega (arith, bounds c.requires.0)

pub bounds-sheet-i : goal.bounds-sheet-i
bounds-sheet-i c = omega (arith, bounds c.requires.0)

pub returns : goal.returns
returns c = c.from.ensures ∙ pos_at c.requires.0 _ c.requires.1
