-- `utf8::is_scalar` meets its contract.
use Rattle.utf8.specs.Utf8.{scalar}
use Rattle.utf8.proofs.is_scalar.Goals as goal

pub returns : goal.returns
unfolding scalar
returns c = cc
