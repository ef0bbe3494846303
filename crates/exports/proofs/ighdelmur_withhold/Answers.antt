-- `exports::ighdelmur_withhold` meets its contract.
use Rattle.exports.proofs.Places.{near_brought}
use Rattle.exports.proofs.Told.{withholds}
use Rattle.exports.proofs.ighdelmur_withhold.Goals as goal

pub tell_number-requires : goal.tell_number-requires
tell_number-requires c = search near_brought

pub returns : goal.returns
returns c = withholds _ _ _ _ _ _ c.write_withheld_text-answer.ensures c.nearest_in.ensures c.tell_number.ensures
