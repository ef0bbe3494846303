-- `respelling::unchecked::run::answer` meets its contract.
use native.Mathlib.Omega.{arith}
use Prim.Native.Nat.{◌-◌, ◌≤◌}
use borrow.Author.Rules.{rules}
use Rattle.respelling.proofs.Calls.{answer_used, answer_done}
use Rattle.respelling.proofs.unchecked.run.answer.Goals as goal
use Rattle.respelling.proofs.unchecked.run.answer.Goals.{After-respell-t}

used : (c : After-respell-t) → c.respell-t.result.used ≤ c.args.s.to - c.args.s.from
used c = search (answer_used, rules)

pub overflow_add-result : goal.overflow_add-result
overflow_add-result c = omega (arith, used (goal.at.overflow_add-result c).After-respell-t)

pub returns : goal.returns
returns c = search answer_done
