-- `read_stores::unchecked::keep` meets its contract.
use borrow.Author.Rules.{rules}
use Rattle.read_stores.proofs.Copies.{kept_fits}
use Rattle.read_stores.proofs.unchecked.keep.Goals as goal

pub copy-requires : goal.copy-requires
copy-requires c = (search rules, search rules, search kept_fits)
