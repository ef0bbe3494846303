-- `read_scan::stopped` meets its contract.
use Prim.Native.Nat.{◌+◌, ◌≤◌}
use lib.ListN.{length}
use Rattle.read_scan.proofs.Prefixes.{part_fits, stopped_invalid, stopped_valid}
use native.Mathlib.Omega.{arith}
use Rattle.read_scan.proofs.stopped.Goals as goal
use Rattle.read_scan.proofs.stopped.Goals.{After-valid_up_to}

fitted : (c : After-valid_up_to) → c.args.at + c.valid_up_to.result ≤ length c.args.line.now
fitted c = search part_fits

pub overflow_add-valid : goal.overflow_add-valid
overflow_add-valid c = omega (arith, fitted (goal.at.overflow_add-valid c).After-valid_up_to)

pub returns-then-valid-line : goal.returns-then-valid-line
returns-then-valid-line c = search stopped_invalid

pub returns-else-valid-line : goal.returns-else-valid-line
returns-else-valid-line c = search stopped_valid
