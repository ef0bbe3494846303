-- `sheet_check::each_cell` meets its contract.
use Rattle.std.proofs.lemmas.Slice.Zip.{either_empty_from_Zip}
use mathlib.Core.Path.{sym, ap, ◌∙◌}
use mathlib.Core.Bool.{not}
use native.Mathlib.Omega.{arith}
use Rattle.sheet_check.proofs.Cells.{cell_within, cells_go, cells_no, cells_done}
use Rattle.sheet_check.proofs.each_cell.Goals as goal

pub loop-told-init : goal.loop-told-init
loop-told-init c = record { is = cc; inside = c.requires.inside; even = cc }

pub returns-then-not-is_cell : goal.returns-then-not-is_cell
returns-then-not-is_cell c =
    let steps = c.in-Some.ensures.steps in
    cells_no _ _ _ _ _ _ _ _ c.loop-told.invariant _ _ _ _ steps.0 steps.1 _ c.is_cell.ensures (ap not c.if-not-is_cell.true)

pub overflow_add-from : goal.overflow_add-from
overflow_add-from c =
    let inside = cell_within _ _ _ _ (sym c.is_cell.ensures ∙ c.if-not-is_cell.false) in
    omega (arith, inside)

pub loop-told-preserved : goal.loop-told-preserved
loop-told-preserved c =
    let steps = c.in-Some.ensures.steps in
    rw c.from-from.ensures
    (cells_go _ _ _ _ _ _ _ _ c.loop-told.invariant _ _ _ _ steps.0 steps.1 _ c.is_cell.ensures (ap not c.if-not-is_cell.false))

pub returns : goal.returns
returns c = cells_done _ _ _ _ _ _ _ _ c.loop-told.invariant (either_empty_from_Zip _ c.next.new.self _ c.in-None.is c.next.ensures.steps)
