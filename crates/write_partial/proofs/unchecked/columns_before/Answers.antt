-- `write_partial::unchecked::columns_before` meets its contract.
use Rattle.laws.proofs.Tests.{tests}
use Rattle.write_partial.proofs.unchecked.columns_before.Goals as goal

pub returns-in-1 : goal.returns-in-1
returns-in-1 c = search tests

pub returns-in_default : goal.returns-in_default
returns-in_default c = search tests
