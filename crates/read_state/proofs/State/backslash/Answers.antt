-- `read_state::State::backslash` meets its contract.
use native.Mathlib.Omega.{arith}
use Rattle.sentence.specs.Reading.{step, inside, opening}
use Rattle.read_state.proofs.Enums.{place_back}
use Rattle.read_state.proofs.State.backslash.Goals as goal

pub returns : goal.returns
unfolding step inside opening
returns c = grind (arith, place_back)
