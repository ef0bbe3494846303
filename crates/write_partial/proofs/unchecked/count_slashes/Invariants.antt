-- `write_partial::unchecked::count_slashes` meets its contract. The invariant: the slashes from the i-th character on are left to count.
use Rattle.write_partial.specs.Line.{slashes_in}
use Rattle.write_partial.proofs.Loops.{Slashing}
use Rattle.write_partial.proofs.unchecked.count_slashes.Given as goal

abbrev pub invariant-loop-i : goal.invariant-loop-i
invariant-loop-i l =
    let s = l.sheet in
    Slashing s.boundaries.now s.cell_starts.now s.cell_lengths.now s.tag_bytes.now s.record.columns l.columns l.upto (slashes_in l.columns s l.from l.upto) l.sum l.i
