-- `respelling::unchecked::stream::step` meets its contract.
use native.Mathlib.Omega.{arith}
use lib.ListN.{length-take}
use Rattle.respelling.proofs.Steps.{step_full, step_cut, step_last, step_waits}
use Rattle.respelling.proofs.unchecked.stream.step.Goals as goal

pub returns-then-out-at-lt8194 : goal.returns-then-out-at-lt8194
returns-then-out-at-lt8194 c = search step_full

pub slice_bounds-put_answer-end : goal.slice_bounds-put_answer-end
slice_bounds-put_answer-end c = simp length-take (omega arith)

pub returns-then-n-s : goal.returns-then-n-s
returns-then-n-s c = search step_cut

pub returns-then-last-s : goal.returns-then-last-s
returns-then-last-s c = search step_last

pub returns : goal.returns
returns c = search step_waits
