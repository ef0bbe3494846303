-- `read_stores::unchecked::end_row` meets its contract.
use borrow.Author.Rules.{rules}
use Rattle.read_stores.proofs.Copies.{row_first, row_rest, row_stored}
use Rattle.read_stores.proofs.unchecked.end_row.Goals as goal

pub end_cell-at-requires : goal.end_cell-at-requires
end_cell-at-requires c = (search rules, search row_first, search row_first)

pub absent-requires : goal.absent-requires
absent-requires c = (search row_rest, search row_rest)

pub returns : goal.returns
returns c = (search row_stored, search row_stored)
