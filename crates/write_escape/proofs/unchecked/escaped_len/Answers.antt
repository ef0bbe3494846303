-- `write_escape::unchecked::escaped_len` meets its contract.
-- The invariant: with what the slice takes from there on, n is the whole; a byte passed takes at most two.
use borrow.Author.Rules.{rules}
use Rattle.write_escape.proofs.Bytes.{counts}
use Rattle.write_escape.proofs.unchecked.escaped_len.Goals as goal

pub loop-b-preserved : goal.loop-b-preserved
loop-b-preserved c = search (counts, rules)

pub returns : goal.returns
returns c = search (counts, rules)
