-- `exports::ighdelmur_write` meets its contract.
use Rattle.exports.proofs.Places.{near_written}
use Rattle.exports.proofs.Told.{writes_told}
use Rattle.exports.proofs.ighdelmur_write.Goals as goal

pub tell_number-requires : goal.tell_number-requires
tell_number-requires c = near_written _ _ _ c.write_line-answer.ensures

pub returns : goal.returns
returns c = writes_told _ _ _ _ c.write_line-answer.ensures c.tell_number.ensures
