-- `utf8::valid_up_to` meets its contract.
use native.Mathlib.Omega.{arith}
use Rattle.utf8.proofs.Laws.{Sized, len_met, decode_out, passed_char, passed_stop, passed_end}
use Rattle.utf8.proofs.valid_up_to.Goals as goal
use Rattle.utf8.proofs.valid_up_to.Goals.{In-Char}

pub loop-at-init : goal.loop-at-init
loop-at-init c = record { same = omega arith }

sized : (c : In-Char) → Sized c.in-Char.len
sized c = search len_met

pub overflow_add-at : goal.overflow_add-at
overflow_add-at c = omega (arith, sized (goal.at.overflow_add-at c).In-Char)

pub loop-at-smaller : goal.loop-at-smaller
loop-at-smaller c = omega (arith, sized (goal.at.loop-at-smaller c).In-Char)

pub loop-at-preserved : goal.loop-at-preserved
loop-at-preserved c = search passed_char

pub returns-in-Bad : goal.returns-in-Bad
returns-in-Bad c = passed_stop _ _ _ c.longer.ensures c.in-Bad.is c.loop-at.invariant

pub returns : goal.returns
returns c = search (passed_end, decode_out)
