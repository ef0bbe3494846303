-- `utf8::longer` meets its contract.
use mathlib.Core.Path.{sym, ◌∙◌}
use Rattle.utf8.proofs.Laws.{decode_in}
use Rattle.utf8.proofs.longer.Goals as goal

pub returns : goal.returns
returns c =
    c.char_of.ensures
    ∙ rw (c.byte_at-3.ensures, c.byte_at-2.ensures, c.byte_at.ensures)
    (sym (decode_in c.args.s.now c.args.at c.requires))
