-- `write_partial::unchecked::stretch_into` meets its contract. The invariant: the stretch from the i-th character on is left to write.
use Rattle.write_partial.specs.Line.{stretch_in}
use Rattle.write_partial.proofs.Loops.{Stretching}
use Rattle.write_partial.proofs.unchecked.stretch_into.Given as goal

abbrev pub invariant-loop-i : goal.invariant-loop-i
invariant-loop-i l =
    let s = l.sheet in
    Stretching s.text.now s.boundaries.now s.char_pos.now s.cell_starts.now s.cell_lengths.now s.tag_bytes.now s.record.columns l.columns l.upto
    l.initial.out l.at (stretch_in l.columns s l.from l.upto) l.out l.n l.i
