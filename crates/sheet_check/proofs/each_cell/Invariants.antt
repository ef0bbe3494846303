-- `sheet_check::each_cell` meets its contract.
use Rattle.sheet_check.proofs.Cells.{Celled}
use Rattle.sheet_check.proofs.each_cell.Given as goal

abbrev pub invariant-loop-told : goal.invariant-loop-told
invariant-loop-told l = Celled l.bytes l.starts l.lengths l.start l.end l.from l.told-iterator.a.rest.now l.told-iterator.b.rest.now
