-- `write_partial::unchecked::columns_shown` meets its contract. The invariant: the longest row is the longest so far or one from the i-th on.
use borrow.Author.Rules.{rules}
use Rattle.write_partial.proofs.Widest.{seek_start, seek_asks, seek_next, seek_done, seek_full}
use Rattle.write_partial.proofs.unchecked.columns_shown.Goals as goal

pub loop-i-init : goal.loop-i-init
loop-i-init c = search seek_start

pub returns-then-sheet-columns : goal.returns-then-sheet-columns
returns-then-sheet-columns c = seek_full c.loop-i.invariant c.if-sheet-columns.true

pub tags_shown-requires : goal.tags_shown-requires
tags_shown-requires c = seek_asks c.loop-i.invariant (search rules)

pub loop-i-preserved : goal.loop-i-preserved
loop-i-preserved c = rw c.max-columns.ensures (seek_next c.loop-i.invariant c.loop-i-test.true c.tags_shown.ensures)

pub returns : goal.returns
returns c = search seek_done
