-- `write_tokenized::unchecked::tokenized_len` meets its contract. The invariant: with the tokens from the cursor on, the sum is the whole.
use native.Mathlib.Omega.{arith}
use Rattle.sheet.specs.Views.{held}
use Rattle.write_tokenized.proofs.Turns.{Comes, comes, sum_start, sum_asks, sum_part, sum_few, sum_next, sum_done}
use Rattle.write_tokenized.proofs.unchecked.tokenized_len.Goals as goal
use Rattle.write_tokenized.proofs.unchecked.tokenized_len.Goals.{After-from-e}

pub loop-t-init : goal.loop-t-init
loop-t-init c = sum_start c.requires

served : (c : After-from-e) → let s = c.args.sheet.now in Comes s.record (held s) c.loop-t.p c.from-b.result c.from-e.result
served c = search comes

pub token_len-requires : goal.token_len-requires
token_len-requires c = sum_asks c.loop-t.invariant (served (goal.at.token_len-requires c).After-from-e)

pub overflow_add-sum : goal.overflow_add-sum
overflow_add-sum c = omega (arith, sum_part c.loop-t.invariant (served (goal.at.overflow_add-sum c).After-from-e) c.from.ensures c.token_len.ensures)

pub overflow_add-sum-in-Serves : goal.overflow_add-sum-in-Serves
overflow_add-sum-in-Serves c = omega (arith, sum_few c.loop-t.invariant (served (goal.at.overflow_add-sum-in-Serves c).After-from-e) c.from.ensures c.token_len.ensures)

pub loop-t-smaller : goal.loop-t-smaller
loop-t-smaller c = omega (arith, served (goal.at.loop-t-smaller c).After-from-e)

pub loop-t-preserved : goal.loop-t-preserved
loop-t-preserved c = sum_next c.loop-t.invariant (served (goal.at.loop-t-preserved c).After-from-e) c.from.ensures c.token_len.ensures

pub returns : goal.returns
returns c = search sum_done
