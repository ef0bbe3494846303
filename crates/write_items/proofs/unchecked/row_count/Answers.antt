-- `write_items::unchecked::row_count` meets its contract. The invariant: the last listed cell is among the first n.
use Rattle.write_items.proofs.Cells.{count_empty, count_none, looking}
use Rattle.write_items.proofs.unchecked.row_count.Goals as goal

pub returns-then-stride-eq0 : goal.returns-then-stride-eq0
returns-then-stride-eq0 c = search count_empty

pub returns-then-sheet-last-gt0 : goal.returns-then-sheet-last-gt0
returns-then-sheet-last-gt0 c = search looking

pub returns-then-sheet-k : goal.returns-then-sheet-k
returns-then-sheet-k c = search count_none

pub loop-n-init : goal.loop-n-init
loop-n-init c = search looking

pub returns-then-sheet-k-gt0 : goal.returns-then-sheet-k-gt0
returns-then-sheet-k-gt0 c = search looking

pub loop-n-preserved : goal.loop-n-preserved
loop-n-preserved c = search looking

pub returns : goal.returns
returns c = search looking
