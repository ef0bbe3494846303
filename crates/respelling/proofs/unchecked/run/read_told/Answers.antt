-- `respelling::unchecked::run::read_told` meets its contract.
use borrow.Author.Rules.{rules}
use Rattle.respelling.specs.Run.{read_told}
use Rattle.respelling.proofs.Calls.{told_error}
use Rattle.respelling.proofs.unchecked.run.read_told.Goals as goal

pub returns-in-Ok : goal.returns-in-Ok
unfolding read_told
returns-in-Ok c = search rules

pub returns-in-Err : goal.returns-in-Err
returns-in-Err c = told_error c.in-Err.is c.raw_os_error.ensures c.eq.ensures c.of.ensures
