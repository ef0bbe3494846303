-- `write_partial::unchecked::partial_short` meets its contract.
use Rattle.write_partial.proofs.Shown.{whole_short}
use Rattle.write_partial.proofs.Widest.{whole_asked}
use Rattle.write_partial.proofs.unchecked.partial_short.Goals as goal

pub shown_short-requires : goal.shown_short-requires
shown_short-requires c = (c.requires, whole_asked c.requires)

pub returns : goal.returns
returns c = whole_short c.requires _ c.shown_short.ensures
