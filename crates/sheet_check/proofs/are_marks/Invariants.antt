-- `sheet_check::are_marks` meets its contract.
use mathlib.Core.Bool.{◌&&◌}
use lib.ListN.{drop}
use Rattle.sheet_check.specs.Passes.{are_marks}
use Rattle.sheet_check.proofs.Steps.{Left}
use Rattle.sheet_check.proofs.are_marks.Given as goal

abbrev pub invariant-loop-mark : goal.invariant-loop-mark
invariant-loop-mark l = Left (are_marks l.marks) (l.ok && are_marks (drop l.mark-index l.marks))
