-- `write_partial::unchecked::rest_into` meets its contract.
use Rattle.write_escape.specs.Wrote.{wrote_both}
use Rattle.write_partial.proofs.unchecked.rest_into.Goals as goal

pub returns : goal.returns
returns c = wrote_both c.stretch_into-n.ensures c.char_into.ensures
