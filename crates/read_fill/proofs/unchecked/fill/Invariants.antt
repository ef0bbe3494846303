-- `read_fill::unchecked::fill` meets its contract.
use Prim.Native.Nat.{◌-◌}
use lib.ListN.{length}
use Rattle.sheet.specs.Views.{contents, SameRoom}
use Rattle.read_fill.proofs.Laying.{Laying}
use Rattle.read_fill.proofs.unchecked.fill.Given as goal

abbrev pub invariant-loop-at : goal.invariant-loop-at
invariant-loop-at l = record {
  laying : Laying l.form l.columns l.line l.state l.counts l.at (contents l.fn.buffers) (contents l.own);
  same_room : SameRoom l.fn.buffers l.own;
}

abbrev pub decreases-loop-at : goal.decreases-loop-at
decreases-loop-at l = length l.line - l.at
