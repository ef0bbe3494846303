-- `exports::ighdelmur_convert` meets its contract: places are small, so that the number fits.
use Rattle.exports.proofs.Codes.{small_place, code_wrote, code_refused}
use Rattle.exports.proofs.ighdelmur_convert.Goals as goal

pub refusal_code-requires : goal.refusal_code-requires
refusal_code-requires c = search small_place

pub returns-in-Ok : goal.returns-in-Ok
returns-in-Ok c = search code_wrote

pub returns-in-Err : goal.returns-in-Err
returns-in-Err c = search code_refused
