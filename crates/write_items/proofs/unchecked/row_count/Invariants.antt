-- `write_items::unchecked::row_count` meets its contract. The invariant: the last listed cell is among the first n.
use Rattle.write_items.proofs.Cells.{Looking}
use Rattle.write_items.proofs.unchecked.row_count.Given as goal

abbrev pub invariant-loop-n : goal.invariant-loop-n
invariant-loop-n l = Looking l.sheet.cell_lengths.now l.k l.stride l.n

abbrev pub decreases-loop-n : goal.decreases-loop-n
decreases-loop-n l = l.n
