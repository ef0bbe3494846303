-- `write_items::unchecked::most` meets its contract.
use mathlib.Core.Path.{refl}
use Rattle.write_items.specs.Items.{most_of}
use Rattle.write_items.proofs.unchecked.most.Goals as goal

pub returns : goal.returns
unfolding most_of
returns c = refl
