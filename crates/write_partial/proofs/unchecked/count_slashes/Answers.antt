-- `write_partial::unchecked::count_slashes` meets its contract. The invariant: the slashes from the i-th character on are left to count.
use borrow.Author.Rules.{rules}
use Rattle.write_partial.proofs.Loops.{slash_word_fits, slash_word, slash_other_fits, slash_other, slash_done}
use Rattle.write_partial.proofs.unchecked.count_slashes.Goals.{then-sheet-i-eq1, else-sheet-i-eq1}
use Rattle.write_partial.proofs.unchecked.count_slashes.Goals as goal

pub overflow_add-sum : goal.overflow_add-sum
overflow_add-sum c = search (slash_word_fits, rules)

pub overflow_add-sum-else-sheet-i-eq1 : goal.overflow_add-sum-else-sheet-i-eq1
overflow_add-sum-else-sheet-i-eq1 c = search (slash_other_fits, rules)

pub loop-i-preserved : goal.loop-i-preserved
loop-i-preserved c = elim c.if-sheet-i-eq1.branch [
  | then-sheet-i-eq1 w ↦ rw w.sum-is (slash_word c.loop-i.invariant c.loop-i-test.true w.if-sheet-i-eq1.true)
  | else-sheet-i-eq1 w ↦ rw w.sum-is (slash_other c.loop-i.invariant c.loop-i-test.true w.if-sheet-i-eq1.false w.row_count-sum.ensures)
]

pub returns : goal.returns
returns c = search (slash_done, rules)
