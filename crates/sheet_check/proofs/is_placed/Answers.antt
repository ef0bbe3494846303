-- `sheet_check::is_placed` meets its contract.
use mathlib.Core.Path.{ap}
use mathlib.Core.Bool.{not}
use native.Mathlib.Omega.{arith}
use Rattle.sheet_check.proofs.Steps.{Reach, reach, read_start, read_few, read_fits, read_no, read_go, read_stop, read_done}
use Rattle.sheet_check.proofs.is_placed.Goals as goal
use Rattle.sheet_check.proofs.is_placed.Goals.{In-Char}

pub loop-at-init : goal.loop-at-init
loop-at-init c = search read_start

pub returns-then-i-types : goal.returns-then-i-types
returns-then-i-types c = search read_few

pub is_char-requires : goal.is_char-requires
is_char-requires c = search read_fits

pub returns-then-not-is_char : goal.returns-then-not-is_char
returns-then-not-is_char c = search read_no

reached : (c : In-Char)
    → Reach c.args.text.now c.loop-at.at c.in-Char.value c.in-Char.len
reached c = search reach

pub overflow_add-at : goal.overflow_add-at
overflow_add-at c = omega (arith, reached (goal.at.overflow_add-at c).In-Char)

pub loop-at-smaller : goal.loop-at-smaller
loop-at-smaller c = omega (arith, reached (goal.at.loop-at-smaller c).In-Char)

pub loop-at-preserved : goal.loop-at-preserved
loop-at-preserved c = read_go _ _ _ _ _ _ c.requires c.loop-at.invariant _ _ _ c.decode.ensures c.in-Char.is _ _ c.if-i-types.false c.get_type-kind.ensures c.is_char.ensures (ap not c.if-not-is_char.false)

pub returns-in-Bad : goal.returns-in-Bad
returns-in-Bad c = read_stop _ _ _ _ _ _ c.requires c.loop-at.invariant _ c.loop-at-test.true c.decode.ensures c.in-Bad.is

pub returns : goal.returns
returns c = rw (c.from.ensures, c.from-2.ensures) (search read_done)
