-- `sheet_check::are_marks` meets its contract.
use mathlib.Core.Path.{refl}
use Rattle.sheet_check.proofs.Steps.{left_and, left_all, marks_step, marks_done}
use Rattle.sheet_check.proofs.are_marks.Goals as goal

pub loop-mark-init : goal.loop-mark-init
loop-mark-init c = record { is = refl }

pub loop-mark-preserved : goal.loop-mark-preserved
loop-mark-preserved c = search (left_and, marks_step)

pub returns : goal.returns
returns c = search (left_all, marks_done)
