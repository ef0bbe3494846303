-- `read_stores::unchecked::end_cell` meets its contract.
use Rattle.read_stores.proofs.Copies.{cell_fits, cell_open, next_open, next_closed, kept_none}
use Rattle.read_stores.proofs.unchecked.end_cell.Goals as goal

pub bounds-cell_starts-at : goal.bounds-cell_starts-at
bounds-cell_starts-at c = search cell_fits

pub bounds-cell_lengths-at : goal.bounds-cell_lengths-at
bounds-cell_lengths-at c = search cell_fits

pub returns-then-counts : goal.returns-then-counts
returns-then-counts c = (search next_open, search cell_open, search cell_open)

pub returns : goal.returns
returns c = (search next_closed, search kept_none, search kept_none)
