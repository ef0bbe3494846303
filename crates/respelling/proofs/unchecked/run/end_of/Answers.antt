-- `respelling::unchecked::run::end_of` meets its contract.
use borrow.Author.Rules.{rules}
use Rattle.respelling.proofs.Calls.{end_used, end_cut}
use Rattle.respelling.proofs.unchecked.run.end_of.Goals as goal

pub returns-then-used-gt0 : goal.returns-then-used-gt0
returns-then-used-gt0 c = search end_used

pub returns-else-used-gt0 : goal.returns-else-used-gt0
returns-else-used-gt0 c = search (end_cut, rules)
