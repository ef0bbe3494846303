-- `changes::set_boundary` meets its contract.
use Prim.Native.Nat.{◌-◌}
use lib.Dec.{leb, ltb}
use mathlib.Core.Path.{refl}
use borrow.Author.Tests.{leb-false, ltb-false}
use native.Mathlib.Omega.{arith}
use Rattle.laws.proofs.Facts.{neither}
use Rattle.sheet.proofs.Look.{refuses_13, found, refuses_14, serves}
use Rattle.changes.specs.Changes.{boundary_answer}
use Rattle.changes.proofs.Outcome.{lays_refused, lays_served}
use Rattle.changes.proofs.set_boundary.Goals as goal

pub returns-then-not-check : goal.returns-then-not-check
unfolding boundary_answer
returns-then-not-check c = lays_refused _ _ _ _ (refuses_13 _ _ _ _ _ _ c.check.ensures c.if-not-check.true)

pub overflow_sub-r : goal.overflow_sub-r
overflow_sub-r c = omega (arith, (found _ _ _ c.check.ensures c.if-not-check.false).limits)

pub returns-then-i-r : goal.returns-then-i-r
unfolding boundary_answer
returns-then-i-r c =
    let f = found _ _ _ c.check.ensures c.if-not-check.false in
    lays_refused _ _ _ _ (refuses_14 f _ _ _ c.outside.ensures (rw (← f.limits.n_is) c.if-i-r.true))

pub set_boundary-requires : goal.set_boundary-requires
set_boundary-requires c =
    let a = c.args in
    let k = neither (leb (a.r.n - 1) a.i) (ltb 2 a.value) c.if-i-r.false in
    ((found _ _ _ c.check.ensures c.if-not-check.false).sheet, leb-false _ _ k.0, ltb-false _ _ k.1)

pub returns : goal.returns
unfolding boundary_answer
returns c =
    let f = found _ _ _ c.check.ensures c.if-not-check.false in
    lays_served _ _ _ _ _ (serves f _ _ _ (rw (← f.limits.n_is) c.if-i-r.false) refl) c.set_boundary.ensures
