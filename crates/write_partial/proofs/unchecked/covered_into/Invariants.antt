-- `write_partial::unchecked::covered_into` meets its contract. The invariant: the stretch from the i-th character on is left to write.
use Rattle.write_partial.specs.Line.{covered_in}
use Rattle.write_partial.proofs.Loops.{Covering}
use Rattle.write_partial.proofs.unchecked.covered_into.Given as goal

abbrev pub invariant-loop-i : goal.invariant-loop-i
invariant-loop-i l = Covering l.sheet.text.now l.sheet.char_pos.now l.upto l.initial.out l.at (covered_in l.sheet l.from l.upto) l.out l.n l.i
