-- `exports::ighdelmur_next_token` meets its contract.
use Rattle.exports.proofs.Places.{near_next}
use Rattle.exports.proofs.Told.{steps}
use Rattle.exports.proofs.ighdelmur_next_token.Goals as goal

pub tell_next-requires : goal.tell_next-requires
tell_next-requires c = search near_next

pub returns : goal.returns
returns c = search steps
