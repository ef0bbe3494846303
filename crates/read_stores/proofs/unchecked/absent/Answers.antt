-- `read_stores::unchecked::absent` meets its contract.
use Rattle.read_stores.proofs.Copies.{absent_start, absent_more, absent_starts, absent_lengths}
use Rattle.read_stores.proofs.unchecked.absent.Goals as goal

pub loop-i-init : goal.loop-i-init
loop-i-init c = search absent_start

pub loop-i-preserved : goal.loop-i-preserved
loop-i-preserved c = search absent_more

pub returns : goal.returns
returns c = (search absent_starts, search absent_lengths)
