-- `lookups::unchecked::str_to_char_pos` meets its contract.
use Rattle.std.specs.Prelude.{Err}
use mathlib.Core.Path.{ap, ◌∙◌}
use native.Mathlib.Omega.{arith}
use Rattle.sheet.proofs.Look.{bounds, byte_pos_small}
use Rattle.lookups.proofs.Laws.{pos_found, pos_inside}
use Rattle.lookups.proofs.unchecked.str_to_char_pos.Goals as goal

pub offset_bounds-sheet-p : goal.offset_bounds-sheet-p
offset_bounds-sheet-p c = omega (arith, bounds c.requires.0)

pub bounds-sheet-p : goal.bounds-sheet-p
bounds-sheet-p c = omega (arith, bounds c.requires.0)

pub bounds-sheet-i : goal.bounds-sheet-i
bounds-sheet-i c = omega (arith, bounds c.requires.0, byte_pos_small c.requires.0 _ c.requires.1)

pub returns-then-from-p : goal.returns-then-from-p
returns-then-from-p c = rw c.from-i.ensures (pos_found c.requires.0 _ c.requires.1 (cc))

pub returns : goal.returns
returns k = ap Err k.outside.ensures ∙ pos_inside k.requires.0 _ k.requires.1 (λ e. k.if-from-p.false (cc))
