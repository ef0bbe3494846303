-- `sheet_check::are_cells` meets its contract.
use borrow.Author.Rules.{rules}
use Rattle.sheet_check.specs.Passes.{are_cells}
use Rattle.sheet_check.proofs.Cells.{cells_uneven}
use Rattle.sheet_check.proofs.are_cells.Goals as goal

pub returns-then-starts-lengths : goal.returns-then-starts-lengths
returns-then-starts-lengths c = search cells_uneven

pub returns-then-columns-lt8 : goal.returns-then-columns-lt8
unfolding are_cells
returns-then-columns-lt8 c = search rules
