-- `exports::tell_next` meets its contract.
use Rattle.exports.proofs.Places.{near_err}
use Rattle.exports.proofs.Told.{tells_step, tells_refused}
use Rattle.exports.proofs.tell_next.Goals as goal

pub refusal_code-requires : goal.refusal_code-requires
refusal_code-requires c = search near_err

pub returns-in-Ok : goal.returns-in-Ok
returns-in-Ok c = search tells_step

pub returns-in-Err : goal.returns-in-Err
returns-in-Err c = search tells_refused
