-- `sheet_check::is_row` meets its contract.
use Rattle.sheet_check.proofs.Cells.{row_absent}
use Rattle.sheet_check.proofs.is_row.Goals as goal

pub returns-then-start-end : goal.returns-then-start-end
returns-then-start-end c = search row_absent
