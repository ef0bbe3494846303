-- `tokens::unchecked::count_tokens` meets its contract. The loop's invariant: the tokens passed and those onward are all.
use native.Mathlib.Omega.{arith}
use Rattle.tokens.proofs.Cursor.{Following, following, counted_next, counts}
use Rattle.tokens.proofs.unchecked.count_tokens.Goals as goal
use Rattle.tokens.proofs.unchecked.count_tokens.Goals.{After-from-p}

pub loop-t-init : goal.loop-t-init
loop-t-init c = search counts

served : (c : After-from-p) → let a = c.args in Following a.n a.boundaries.now c.loop-t.p c.in-Serves.t
served c = following c.loop-t.p c.requires c.next_token.ensures c.in-Serves.is

pub loop-t-smaller : goal.loop-t-smaller
loop-t-smaller c = omega (arith, served c)

pub loop-t-preserved : goal.loop-t-preserved
loop-t-preserved c = rw c.from-p.ensures (counted_next c.loop-t.invariant (served c))

pub returns : goal.returns
returns c = search counts
