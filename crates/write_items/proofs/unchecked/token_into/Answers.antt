-- `write_items::unchecked::token_into` meets its contract.
use Rattle.write_escape.specs.Wrote.{wrote_both}
use Rattle.write_items.proofs.unchecked.token_into.Goals as goal

pub returns : goal.returns
returns c = wrote_both (rw c.text_of.ensures at c.copy_escaped-n.ensures) c.row_into.ensures
