-- `respelling::unchecked::stream::respell` meets its contract.
-- The invariant: what is used and written so far, with what is still to be done, is the whole turn.
use Prim.Native.Nat.{◌-◌}
use lib.ListN.{length}
use Rattle.respelling.proofs.Turns.{Going}
use Rattle.respelling.proofs.unchecked.stream.respell.Given as goal

abbrev pub invariant-loop-t : goal.invariant-loop-t
invariant-loop-t l = Going l.last l.input l.initial.out l.out l.used l.wrote

abbrev pub decreases-loop-t : goal.decreases-loop-t
decreases-loop-t l = length l.input - l.used
