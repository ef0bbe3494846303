-- `sheet_check::is_plain` meets its contract.
use mathlib.Core.Path.{refl}
use native.Mathlib.Omega.{arith}
use Rattle.sheet_check.proofs.Steps.{plainly_go, plainly_nul, plainly_stop, plainly_done, Reach, reach}
use Rattle.sheet_check.proofs.is_plain.Goals as goal
use Rattle.sheet_check.proofs.is_plain.Goals.{In-Char}

pub loop-at-init : goal.loop-at-init
loop-at-init c = record { is = refl }

pub returns-then-s-at-eq0 : goal.returns-then-s-at-eq0
returns-then-s-at-eq0 c = search plainly_nul

reached : (c : In-Char) → Reach c.args.s.now c.loop-at.at c.in-Char.value c.in-Char.len
reached c = search reach

pub overflow_add-at : goal.overflow_add-at
overflow_add-at c = omega (arith, reached (goal.at.overflow_add-at c).In-Char)

pub loop-at-smaller : goal.loop-at-smaller
loop-at-smaller c = omega (arith, reached (goal.at.loop-at-smaller c).In-Char)

pub loop-at-preserved : goal.loop-at-preserved
loop-at-preserved c = search plainly_go

pub returns-in-Bad : goal.returns-in-Bad
returns-in-Bad c = plainly_stop _ _ c.loop-at.invariant _ c.loop-at-test.true c.decode.ensures c.in-Bad.is

pub returns : goal.returns
returns c = search plainly_done
