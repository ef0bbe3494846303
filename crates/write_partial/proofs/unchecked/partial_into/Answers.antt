-- `write_partial::unchecked::partial_into` meets its contract.
use native.Mathlib.Omega.{arith}
use Rattle.write_partial.proofs.Shown.{whole_room, whole_lined}
use Rattle.write_partial.proofs.unchecked.partial_into.Goals as goal

pub shown_into-requires : goal.shown_into-requires
shown_into-requires c = (c.requires.0, omega arith, omega arith, whole_room c.requires.0 c.requires.1)

pub returns : goal.returns
returns c = whole_lined c.requires.0 c.shown_into.ensures
