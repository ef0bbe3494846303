-- `write_partial::unchecked::covered_into` meets its contract. The invariant: the stretch from the i-th character on is left to write.
use borrow.Author.Rules.{rules}
use Rattle.write_partial.proofs.Loops.{cover_asks, cover_byte, cover_next, cover_done}
use Rattle.write_partial.proofs.unchecked.covered_into.Goals as goal

pub text_into-n-requires : goal.text_into-n-requires
text_into-n-requires c = cover_asks c.loop-i.invariant (search rules)

pub bounds-out-n : goal.bounds-out-n
bounds-out-n c = search (cover_byte, rules)

pub loop-i-preserved : goal.loop-i-preserved
loop-i-preserved c = search (cover_next, rules)

pub returns : goal.returns
returns c = search (cover_done, rules)
