-- `read_stores::unchecked::boundary` meets its contract.
use Rattle.read_stores.proofs.Copies.{later_fits}
use Rattle.read_stores.proofs.unchecked.boundary.Goals as goal

pub bounds-boundaries-n : goal.bounds-boundaries-n
bounds-boundaries-n c = search later_fits
