-- `scores::predict` meets its contract.
use mathlib.Core.Path.{refl}
use borrow.Author.Tests.{eq-eqb, ne_eqb}
use native.Mathlib.Omega.{arith}
use Rattle.sheet.proofs.Look.{refuses_13, found, refuses_14, serves}
use Rattle.changes.proofs.Outcome.{lays_refused, lays_served}
use Rattle.scores.specs.Scores.{score_answer}
use Rattle.scores.proofs.predict.Goals as goal

pub returns-then-not-check : goal.returns-then-not-check
unfolding score_answer
returns-then-not-check c = lays_refused _ _ _ _ (refuses_13 _ _ _ _ _ _ c.check.ensures c.if-not-check.true)

pub overflow_sub-r : goal.overflow_sub-r
overflow_sub-r c = omega (arith, (found _ _ _ c.check.ensures c.if-not-check.false).limits)

pub returns-then-scores-r : goal.returns-then-scores-r
unfolding score_answer
returns-then-scores-r k =
    let f = found _ _ _ k.check.ensures k.if-not-check.false in
    lays_refused _ _ _ _ (refuses_14 f _ _ _ k.outside.ensures (rw (← f.limits.n_is, ne_eqb _ _ k.if-scores-r.true)))

pub predict-requires : goal.predict-requires
predict-requires c = ((found _ _ _ c.check.ensures c.if-not-check.false).sheet, c.if-scores-r.false)

pub returns : goal.returns
unfolding score_answer
returns c =
    let f = found _ _ _ c.check.ensures c.if-not-check.false in
    lays_served _ _ _ _ _ (serves f _ _ _ (rw (← f.limits.n_is, eq-eqb _ _ c.if-scores-r.false)) refl) c.predict.ensures
