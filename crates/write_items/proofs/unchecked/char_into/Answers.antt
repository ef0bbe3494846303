-- `write_items::unchecked::char_into` meets its contract.
use Rattle.write_escape.specs.Wrote.{wrote_both}
use Rattle.write_items.proofs.unchecked.char_into.Goals as goal

pub returns : goal.returns
returns c = wrote_both c.text_into-n.ensures c.row_into.ensures
