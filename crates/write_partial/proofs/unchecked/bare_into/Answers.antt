-- `write_partial::unchecked::bare_into` meets its contract.
use Rattle.write_escape.specs.Wrote.{wrote_both}
use Rattle.write_partial.proofs.unchecked.bare_into.Goals as goal

pub returns : goal.returns
returns c = wrote_both c.text_into-n.ensures c.repeat.ensures
