-- `read_state::State::step` meets its contract.
use Rattle.sentence.specs.Reading.{advance}
use Rattle.laws.specs.If.{when◌then◌else◌}
use Rattle.read_state.proofs.State.step.Goals as goal

pub returns-then-c-eq0 : goal.returns-then-c-eq0
unfolding advance when◌then◌else◌
returns-then-c-eq0 c = rw c.if-c-eq0.true c.refused.ensures
