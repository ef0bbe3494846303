-- `lookups::unchecked::tag` meets its contract.
use mathlib.Core.Path.{sym, ◌∙◌}
use native.Mathlib.Omega.{arith}
use Rattle.lookups.proofs.Laws.{cell_index, tag_absent, tag_present}
use Rattle.lookups.proofs.unchecked.tag.Goals as goal

pub overflow_mul-j : goal.overflow_mul-j
overflow_mul-j c = omega (arith, cell_index c.requires.0 _ _ c.requires.1 c.requires.2)

pub overflow_add-j : goal.overflow_add-j
overflow_add-j c = omega (arith, cell_index c.requires.0 _ _ c.requires.1 c.requires.2)

pub offset_bounds-sheet-j : goal.offset_bounds-sheet-j
offset_bounds-sheet-j c = omega (arith, cell_index c.requires.0 _ _ c.requires.1 c.requires.2)

pub bounds-sheet-j : goal.bounds-sheet-j
bounds-sheet-j c = omega (arith, cell_index c.requires.0 _ _ c.requires.1 c.requires.2)

pub offset_bounds-sheet-j-2 : goal.offset_bounds-sheet-j-2
offset_bounds-sheet-j-2 c = omega (arith, cell_index c.requires.0 _ _ c.requires.1 c.requires.2)

pub bounds-sheet-j-2 : goal.bounds-sheet-j-2
bounds-sheet-j-2 c = omega (arith, cell_index c.requires.0 _ _ c.requires.1 c.requires.2)

pub returns-then-len-eq0 : goal.returns-then-len-eq0
returns-then-len-eq0 c = tag_absent c.requires.0 _ _ c.requires.1 c.requires.2 (sym c.from-len.ensures ∙ c.if-len-eq0.true)

pub returns : goal.returns
returns c =
    rw (c.from-start.ensures, c.from-len.ensures)
    (tag_present c.requires.0 _ _ c.requires.1 c.requires.2 (λ z. c.if-len-eq0.false (c.from-len.ensures ∙ z)))
