-- `utf8::is_four` meets its contract.
use Rattle.utf8.specs.Utf8.{utf8_4}
use Rattle.utf8.proofs.is_four.Goals as goal

pub returns : goal.returns
unfolding utf8_4
returns c = cc
