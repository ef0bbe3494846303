-- `read_stores::unchecked::absent` meets its contract.
use Rattle.read_stores.proofs.Copies.{Absenting}
use Rattle.read_stores.proofs.unchecked.absent.Given as goal

abbrev pub invariant-loop-i : goal.invariant-loop-i
invariant-loop-i l = Absenting l.initial.cell_starts l.initial.cell_lengths l.cell_starts l.cell_lengths l.start l.from l.to l.i
