-- `exports::ighdelmur_key` meets its contract.
use Rattle.exports.proofs.Places.{near_keyed}
use Rattle.exports.proofs.Told.{keys}
use Rattle.exports.proofs.ighdelmur_key.Goals as goal

pub tell_number-requires : goal.tell_number-requires
tell_number-requires c = search near_keyed

pub returns : goal.returns
returns c = keys _ _ c.note_key-answer.ensures c.tell_number.ensures
