-- `respelling::Call::of` meets its contract.
use mathlib.Core.Path.{refl}
use Rattle.laws.specs.If.{when◌then◌else◌}
use Rattle.respelling.specs.Run.{call_of}
use Rattle.respelling.proofs.Call.of.Goals as goal

pub returns-in-true-true : goal.returns-in-true-true
unfolding call_of when◌then◌else◌
returns-in-true-true c = rw (c.in-true-true.is-0, c.in-true-true.is-1) refl

pub returns-in-true-false : goal.returns-in-true-false
unfolding call_of when◌then◌else◌
returns-in-true-false c = rw (c.in-true-false.is-0, c.in-true-false.is-1) refl

pub returns-in-false-default : goal.returns-in-false-default
unfolding call_of when◌then◌else◌
returns-in-false-default c = rw c.in-false-default.is-0 refl
