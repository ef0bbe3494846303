-- `read_scan::scan` meets its contract.
use Rattle.read_scan.proofs.Scanning.{Scanning}
use lib.ListN.{length}
use Prim.Native.Nat.{◌-◌}
use Rattle.read_scan.proofs.scan.Given as goal

abbrev pub invariant-loop-value : goal.invariant-loop-value
invariant-loop-value l = Scanning l.form l.line l.state l.counts l.at

abbrev pub decreases-loop-value : goal.decreases-loop-value
decreases-loop-value l = length l.line - l.at
