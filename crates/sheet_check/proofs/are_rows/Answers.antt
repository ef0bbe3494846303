-- `sheet_check::are_rows` meets its contract.
use Rattle.sheet_check.proofs.Cells.{rows_start, rows_row, rows_go, rows_no, rows_rest, rows_done}
use Rattle.sheet_check.proofs.are_rows.Goals as goal

pub loop-i-init : goal.loop-i-init
loop-i-init c = search rows_start

pub is_row-requires : goal.is_row-requires
is_row-requires c = search rows_row

pub returns-then-not-is_row : goal.returns-then-not-is_row
returns-then-not-is_row c = search rows_no

pub loop-i-preserved : goal.loop-i-preserved
loop-i-preserved c = search rows_go

pub each_cell-requires : goal.each_cell-requires
each_cell-requires c = rw c.from.ensures (search rows_rest)

pub returns : goal.returns
returns c = let rest = rw c.from.ensures at c.each_cell.ensures in search rows_done
