-- Each turn takes one or two more digits.
use Rattle.std.proofs.Common.{◌+◌, ◌-◌, ◌≤◌, length}
use Rattle.test_casework.proofs.hex.unhex.Given as goal

abbrev pub invariant-loop-i : goal.invariant-loop-i
invariant-loop-i l = l.i ≤ length l.s + 1

abbrev pub decreases-loop-i : goal.decreases-loop-i
decreases-loop-i l = length l.s + 1 - l.i
