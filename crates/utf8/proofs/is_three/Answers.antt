-- `utf8::is_three` meets its contract.
use Rattle.utf8.specs.Utf8.{utf8_3}
use Rattle.utf8.proofs.is_three.Goals as goal

pub returns : goal.returns
unfolding utf8_3
returns c = cc
