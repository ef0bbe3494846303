-- `respelling::unchecked::run::write_told` meets its contract.
use Rattle.respelling.proofs.Calls.{told_nothing, told_some, told_same}
use Rattle.respelling.proofs.unchecked.run.write_told.Goals as goal

pub returns-in-Ok-eq0 : goal.returns-in-Ok-eq0
returns-in-Ok-eq0 c = told_nothing c.in-Ok-eq0.is (rw c.in-Ok-eq0.is at c.in-Ok-eq0.field-0-test)

pub returns-in-Ok : goal.returns-in-Ok
returns-in-Ok c = told_some c.in-Ok.is (rw c.in-Ok.is at c.in-Ok.moved-test.1)

pub returns-in-Err : goal.returns-in-Err
returns-in-Err c = told_same c.in-Err.is c.read_told.ensures
