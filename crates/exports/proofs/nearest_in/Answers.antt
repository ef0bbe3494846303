-- `exports::nearest_in` meets its contract.
use Rattle.exports.proofs.Told.{brought_length, brought_refusal}
use Rattle.exports.proofs.nearest_in.Goals as goal

pub returns-in-Ok : goal.returns-in-Ok
returns-in-Ok c = search brought_length

pub returns-in-Err : goal.returns-in-Err
returns-in-Err c = search brought_refusal
