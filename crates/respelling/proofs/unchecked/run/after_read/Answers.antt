-- `respelling::unchecked::run::after_read` meets its contract.
use Rattle.respelling.proofs.Calls.{read_moved, read_again, read_failed}
use Rattle.respelling.proofs.unchecked.run.after_read.Goals as goal

pub returns-in-Moved : goal.returns-in-Moved
returns-in-Moved c = search read_moved

pub returns-in-Again : goal.returns-in-Again
returns-in-Again c = search read_again

pub returns-in-Failed : goal.returns-in-Failed
returns-in-Failed c = search read_failed
