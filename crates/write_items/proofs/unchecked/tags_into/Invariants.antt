-- `write_items::unchecked::tags_into` meets its contract. The invariant: the tags from the j-th cell on are left to write.
use Rattle.write_items.specs.Items.{tags_in}
use Rattle.write_items.proofs.Tags.{Tagging}
use Rattle.write_items.proofs.unchecked.tags_into.Given as goal

abbrev pub invariant-loop-j : goal.invariant-loop-j
invariant-loop-j l =
    Tagging l.form l.sheet.cell_starts.now l.sheet.cell_lengths.now l.sheet.tag_bytes.now l.end l.initial.out l.at (tags_in l.form l.sheet l.k l.end) l.out l.j l.n
