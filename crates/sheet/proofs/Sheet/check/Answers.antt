-- `sheet::Sheet::check` meets its contract.
use Rattle.sheet.proofs.Whole.{no_fit, room_met, sheet_is}
use Rattle.sheet.proofs.Sheet.check.Goals as goal

pub is_laid-requires : goal.is_laid-requires
is_laid-requires c = room_met _ _ _ c.fits.ensures c.if-fits.true

pub returns-then-fits : goal.returns-then-fits
returns-then-fits c = sheet_is _ _ _ c.fits.ensures _ c.if-fits.true c.is_laid.ensures

pub returns-else-fits : goal.returns-else-fits
returns-else-fits c = no_fit _ _ _ c.fits.ensures c.if-fits.false
