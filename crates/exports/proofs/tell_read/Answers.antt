-- `exports::tell_read` meets its contract.
use Rattle.exports.proofs.Places.{near_err}
use Rattle.exports.proofs.Told.{told_refused, told_sentence}
use Rattle.exports.proofs.tell_read.Goals as goal

pub refusal_code-requires : goal.refusal_code-requires
refusal_code-requires c = search near_err

pub returns-in-Err : goal.returns-in-Err
returns-in-Err c = search told_refused

pub returns-in-Ok : goal.returns-in-Ok
returns-in-Ok c = search told_sentence
