-- `write_partial::unchecked::tags_shown` meets its contract.
use Rattle.laws.proofs.Tests.{tests}
use borrow.Author.Rules.{rules}
use Rattle.write_partial.proofs.unchecked.tags_shown.Goals as goal

pub returns-then-is_hidden : goal.returns-then-is_hidden
returns-then-is_hidden c = search (tests, rules)

pub returns : goal.returns
returns c = search (tests, rules)
