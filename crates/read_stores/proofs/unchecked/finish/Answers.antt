-- `read_stores::unchecked::finish` meets its contract.
use Rattle.read_stores.proofs.Turns.{end_stored}
use Rattle.read_stores.proofs.unchecked.finish.Goals as goal

pub returns-clause-stored : goal.returns-clause-stored
returns-clause-stored c = end_stored _ c.end_row.ensures
