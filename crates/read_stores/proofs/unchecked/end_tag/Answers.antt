-- `read_stores::unchecked::end_tag` meets its contract.
use borrow.Author.Rules.{rules}
use Rattle.read_stores.proofs.Copies.{open_fits}
use Rattle.read_stores.proofs.unchecked.end_tag.Goals as goal

pub end_cell-requires : goal.end_cell-requires
end_cell-requires c = (search rules, search open_fits, search open_fits)
