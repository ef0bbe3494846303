-- `respelling::unchecked::run::after_write` meets its contract.
use Rattle.respelling.proofs.Calls.{write_moved, write_again, write_failed}
use Rattle.respelling.proofs.unchecked.run.after_write.Goals as goal

pub returns-in-Moved : goal.returns-in-Moved
returns-in-Moved c = search write_moved

pub returns-in-Again : goal.returns-in-Again
returns-in-Again c = search write_again

pub returns-in-Failed : goal.returns-in-Failed
returns-in-Failed c = search write_failed
