-- `read_state::partial_kind` meets its contract.
use Rattle.laws.proofs.Tests.{tests}
use Rattle.laws.specs.If.{when◌then◌else◌}
use Rattle.sentence.specs.Reading.{kind}
use Rattle.read_state.proofs.partial_kind.Goals as goal

pub returns-in-32 : goal.returns-in-32
unfolding kind when◌then◌else◌
returns-in-32 c = rw c.in-32.is

pub returns-in-45 : goal.returns-in-45
unfolding kind when◌then◌else◌
returns-in-45 c = rw c.in-45.is

pub returns-in-124 : goal.returns-in-124
unfolding kind when◌then◌else◌
returns-in-124 c = rw c.in-124.is

pub returns-in-47 : goal.returns-in-47
unfolding kind when◌then◌else◌
returns-in-47 c = rw c.in-47.is

pub returns-in-92 : goal.returns-in-92
unfolding kind when◌then◌else◌
returns-in-92 c = rw c.in-92.is

pub returns-in_default : goal.returns-in_default
unfolding kind
returns-in_default c = search tests
