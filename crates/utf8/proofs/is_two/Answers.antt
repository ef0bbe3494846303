-- `utf8::is_two` meets its contract.
use Rattle.utf8.specs.Utf8.{utf8_2}
use Rattle.utf8.proofs.is_two.Goals as goal

pub returns : goal.returns
unfolding utf8_2
returns c = cc
