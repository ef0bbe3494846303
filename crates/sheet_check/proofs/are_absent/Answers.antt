-- `sheet_check::are_absent` meets its contract.
use Rattle.std.proofs.lemmas.Slice.Zip.{either_empty_from_Zip}
use Rattle.sheet_check.proofs.Cells.{absent_go, absent_done}
use Rattle.sheet_check.proofs.are_absent.Goals as goal

pub loop-told-init : goal.loop-told-init
loop-told-init c = record { is = cc }

pub loop-told-preserved : goal.loop-told-preserved
loop-told-preserved c =
    let steps = c.in-Some.ensures.steps in absent_go _ _ _ _ _ c.loop-told.invariant _ _ _ _ steps.0 steps.1

pub returns : goal.returns
returns c = absent_done _ _ _ _ _ c.loop-told.invariant (either_empty_from_Zip _ c.next.new.self _ c.in-None.is c.next.ensures.steps)
