-- `write_partial::unchecked::before_into` meets its contract.
use native.Mathlib.Omega.{arith}
use borrow.Author.Rules.{rules}
use Rattle.write_partial.proofs.Asks.{before_empty, before_first, before_then, before_byte, before_inside, before_done}
use Rattle.write_partial.proofs.unchecked.before_into.Goals as goal

pub returns-then-start-eq0 : goal.returns-then-start-eq0
returns-then-start-eq0 c = before_empty c.args.sheet.now c.args.columns c.args.start c.args.out.now c.if-start-eq0.true

pub stretch_into-n-requires : goal.stretch_into-n-requires
stretch_into-n-requires c = before_first c.args.sheet.now c.args.columns c.args.start c.if-start-eq0.false c.args.out.now c.requires.0 c.requires.1 c.requires.2

pub char_into-k-requires : goal.char_into-k-requires
char_into-k-requires c = before_then c.args.sheet.now c.args.columns c.args.start c.if-start-eq0.false c.args.out.now c.requires.0 c.requires.1 c.requires.2 c.stretch_into-n.ensures

pub bounds-out-k : goal.bounds-out-k
bounds-out-k c = search (before_byte, rules)

pub overflow_add-result : goal.overflow_add-result
overflow_add-result c = omega (arith, before_inside c.args.sheet.now c.args.columns c.args.start c.if-start-eq0.false c.args.out.now c.requires.0 c.requires.1 c.requires.2 c.stretch_into-n.ensures c.char_into-k.ensures, c.well_formed)

pub returns : goal.returns
returns c = search (before_done, rules)
