-- `read_scan::finished` meets its contract.
use Rattle.read_scan.proofs.Scanning.{told_whole, told_stop}
use Rattle.read_scan.proofs.finished.Goals as goal

pub returns-in-Ok : goal.returns-in-Ok
returns-in-Ok c = search told_whole

pub returns-in-Err : goal.returns-in-Err
returns-in-Err c = search told_stop
