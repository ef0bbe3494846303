-- What stands is what a run has come to.
use Rattle.std.proofs.Common.{◌≤◌, length}
use Rattle.respelling.specs.Run.{TakesMore, Ran}
use Rattle.respell.proofs.run.Given as goal

abbrev pub invariant-loop : goal.invariant-loop
invariant-loop g l = Ran l.s l.input l.out × TakesMore l.input × (8194 ≤ length l.out)
