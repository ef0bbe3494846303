-- `respelling::unchecked::stream::respell` meets its contract.
-- The invariant: what is used and written so far, with what is still to be done, is the whole turn.
use Prim.Native.Nat.{◌+◌, ◌<◌, ◌≤◌}
use native.Mathlib.Omega.{arith}
use borrow.Author.Rules.{rules}
use lib.ListN.{length}
use Rattle.respelling.proofs.Turns.{go_start, step_moves, step_ends, go_done, go_more}
use Rattle.respelling.proofs.unchecked.stream.respell.Goals as goal
use Rattle.respelling.proofs.unchecked.stream.respell.Goals.{In-Some}

pub loop-t-init : goal.loop-t-init
loop-t-init c = go_start _ _ _

ends : (c : In-Some) → c.loop-t.used + c.in-Some.t.used ≤ length c.args.input.now
ends c = search step_ends

moves : (c : In-Some) → 0 < c.in-Some.t.used
moves c = search step_moves

pub overflow_add-used : goal.overflow_add-used
overflow_add-used c = omega (arith, ends (goal.at.overflow_add-used c).In-Some)

pub loop-t-smaller : goal.loop-t-smaller
loop-t-smaller c = omega (arith, ends (goal.at.loop-t-smaller c).In-Some, moves (goal.at.loop-t-smaller c).In-Some)

pub loop-t-preserved : goal.loop-t-preserved
loop-t-preserved c = search (go_more, rules)

pub returns : goal.returns
returns c = search go_done
