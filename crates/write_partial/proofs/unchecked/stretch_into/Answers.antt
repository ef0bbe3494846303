-- `write_partial::unchecked::stretch_into` meets its contract. The invariant: the stretch from the i-th character on is left to write.
use native.Mathlib.Omega.{arith}
use borrow.Author.Rules.{rules}
use Rattle.write_partial.proofs.Loops.{stretch_asks, stretch_byte, stretch_inside, stretch_next, stretch_done}
use Rattle.write_partial.proofs.unchecked.stretch_into.Goals as goal

pub char_into-n-requires : goal.char_into-n-requires
char_into-n-requires c = stretch_asks c.loop-i.invariant (search rules) c.columns_before-width.ensures

pub bounds-out-n : goal.bounds-out-n
bounds-out-n c = search (stretch_byte, rules)

pub overflow_add-n : goal.overflow_add-n
overflow_add-n c = omega (arith, stretch_inside c.loop-i.invariant (search rules) c.columns_before-width.ensures c.char_into-n.ensures, c.well_formed)

pub loop-i-preserved : goal.loop-i-preserved
loop-i-preserved c = search (stretch_next, rules)

pub returns : goal.returns
returns c = search (stretch_done, rules)
