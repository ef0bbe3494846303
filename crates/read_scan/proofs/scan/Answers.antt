-- `read_scan::scan` meets its contract.
use Rattle.read_counts.proofs.Spans.{Span}
use Rattle.read_scan.proofs.Scanning.{scan_small, scan_start, stands, scan_go, scan_stop, scan_bad, scan_end, scan_long}
use native.Mathlib.Omega.{arith}
use Rattle.read_scan.proofs.scan.Goals as goal
use Rattle.read_scan.proofs.scan.Goals.{In-Char}

pub returns-then-line-gt-LONGEST : goal.returns-then-line-gt-LONGEST
returns-then-line-gt-LONGEST c = search scan_long

pub loop-value-init : goal.loop-value-init
loop-value-init c = search scan_start

pub returns-in-Err : goal.returns-in-Err
returns-in-Err c = scan_stop c.loop-value.invariant c.decode.ensures c.in-Char.is _ c.step-stepped.ensures c.in-Err.is c.stopped.ensures

-- the character that stands where the loop is
stood : (c : In-Char) → Span c.args.line.now c.loop-value.at c.in-Char.len
stood c = search stands

pub tally-requires : goal.tally-requires
tally-requires c = (search scan_small, (stood (goal.at.tally-requires c).In-Char).few)

pub overflow_add-at : goal.overflow_add-at
overflow_add-at c = omega (arith, stood (goal.at.overflow_add-at c).In-Char)

pub loop-value-smaller : goal.loop-value-smaller
loop-value-smaller c = omega (arith, stood (goal.at.loop-value-smaller c).In-Char)

pub loop-value-preserved : goal.loop-value-preserved
loop-value-preserved c = scan_go c.loop-value.invariant c.decode.ensures c.in-Char.is _ c.step-stepped.ensures c.in-Ok.is c.tally.ensures

pub returns-in-Bad : goal.returns-in-Bad
returns-in-Bad c = search scan_bad

pub finished-requires : goal.finished-requires
finished-requires c = search scan_small

pub returns-in-End : goal.returns-in-End
returns-in-End c = search scan_end
