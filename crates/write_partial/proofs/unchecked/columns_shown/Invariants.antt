-- `write_partial::unchecked::columns_shown` meets its contract. The invariant: the longest row is the longest so far or one from the i-th on.
use Rattle.sheet.specs.Views.{held}
use Rattle.write_partial.proofs.Widest.{Seeking}
use Rattle.write_partial.proofs.unchecked.columns_shown.Given as goal

abbrev pub invariant-loop-i : goal.invariant-loop-i
invariant-loop-i l = Seeking l.sheet.record (held l.sheet) l.start l.end l.columns l.i
