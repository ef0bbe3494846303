-- `sheet::Sheet::fits` meets its contract.
use Rattle.sheet.proofs.Whole.{fits_same}
use Rattle.sheet.proofs.Sheet.fits.Goals as goal

pub returns : goal.returns
returns c = fits_same _ _ _ c.in_limits.ensures
