-- `write_partial::unchecked::is_hidden` meets its contract.
use borrow.Author.Tests.{le-leb, lt-leb}
use Rattle.sentence.specs.Withheld.{in_range}
use Rattle.write_partial.proofs.unchecked.is_hidden.Goals as goal

pub returns-then-start-i : goal.returns-then-start-i
unfolding in_range
returns-then-start-i c = rw (le-leb c.args.start c.args.i c.if-start-i.true)

pub returns-else-start-i : goal.returns-else-start-i
unfolding in_range
returns-else-start-i c = rw (lt-leb c.args.start c.args.i c.if-start-i.false)
