-- `lookups::boundary` meets its contract.
use Rattle.std.specs.Prelude.{Ok}
use mathlib.Core.Path.{ap}
use borrow.Author.Tests.{le-leb, lt-leb}
use native.Mathlib.Omega.{arith}
use Rattle.sheet.proofs.Look.{refuses_13, found, refuses_14, serves}
use Rattle.lookups.specs.Answers.{boundary_at}
use Rattle.lookups.proofs.boundary.Goals as goal

pub returns-then-not-check : goal.returns-then-not-check
unfolding boundary_at
returns-then-not-check c = refuses_13 _ _ _ _ _ _ c.check.ensures c.if-not-check.true

pub overflow_sub-r : goal.overflow_sub-r
overflow_sub-r c = omega (arith, (found _ _ _ c.check.ensures c.if-not-check.false).limits)

pub returns-then-i-r : goal.returns-then-i-r
unfolding boundary_at
returns-then-i-r c =
    let f = found _ _ _ c.check.ensures c.if-not-check.false in
    refuses_14 f _ _ _ c.outside.ensures (rw (← f.limits.n_is) (le-leb _ _ c.if-i-r.true))

pub boundary-requires : goal.boundary-requires
boundary-requires c = ((found _ _ _ c.check.ensures c.if-not-check.false).sheet, c.if-i-r.false)

pub returns : goal.returns
unfolding boundary_at
returns c =
    let f = found _ _ _ c.check.ensures c.if-not-check.false in
    serves f _ _ _ (rw (← f.limits.n_is) (lt-leb _ _ c.if-i-r.false)) (ap Ok c.boundary.ensures)
