-- `respelling::unchecked::line::form` meets its contract.
use Rattle.laws.proofs.Tests.{tests}
use Rattle.laws.specs.If.{when◌then◌else◌}
use mathlib.Core.Path.{refl}
use Rattle.sentence.specs.Forms.{letter}
use Rattle.respelling.proofs.unchecked.line.form.Goals as goal

pub returns-in-82 : goal.returns-in-82
unfolding letter
returns-in-82 c = search tests

pub returns-in-84 : goal.returns-in-84
unfolding letter when◌then◌else◌
returns-in-84 c = rw c.in-84.is refl

pub returns-in-80 : goal.returns-in-80
unfolding letter when◌then◌else◌
returns-in-80 c = rw c.in-80.is refl

pub returns-in_default : goal.returns-in_default
unfolding letter
returns-in_default c = search tests
