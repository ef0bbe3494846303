-- `changes::set_default` meets its contract.
use borrow.Author.Rules.{rules}
use Rattle.changes.proofs.Blank.{blank_laid}
use Rattle.changes.proofs.set_default.Goals as goal

pub returns-clause-lays : goal.returns-clause-lays
returns-clause-lays c = search (blank_laid, rules)
