-- `exports::tell_step` meets its contract.
use Rattle.exports.proofs.Places.{near_start}
use Rattle.exports.proofs.Told.{steps_14, steps_served, steps_done}
use Rattle.exports.proofs.tell_step.Goals as goal

pub refusal_code-requires : goal.refusal_code-requires
refusal_code-requires c = search near_start

pub returns-then-span-lt2 : goal.returns-then-span-lt2
returns-then-span-lt2 c = search steps_14

pub returns-in-Serves : goal.returns-in-Serves
returns-in-Serves c = search steps_served

pub returns-in-Done : goal.returns-in-Done
returns-in-Done c = search steps_done
