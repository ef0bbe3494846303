-- `sheet_check::are_absent` meets its contract.
use mathlib.Core.Bool.{◌&&◌}
use Rattle.sheet_check.specs.Passes.{are_absent}
use Rattle.sheet_check.proofs.Steps.{Left}
use Rattle.sheet_check.proofs.are_absent.Given as goal

abbrev pub invariant-loop-told : goal.invariant-loop-told
invariant-loop-told l =
    Left (are_absent l.start l.starts l.lengths) (l.ok && are_absent l.start l.told-iterator.a.rest.now l.told-iterator.b.rest.now)
