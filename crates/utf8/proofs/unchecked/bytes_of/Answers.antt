-- `utf8::unchecked::bytes_of` meets its contract.
use Rattle.laws.proofs.Tests.{tests}
use Rattle.utf8.specs.Utf8.{filled, encode}
use Rattle.utf8.proofs.unchecked.bytes_of.Goals as goal

pub returns-then-v-le127 : goal.returns-then-v-le127
unfolding filled encode
returns-then-v-le127 c = search tests

pub returns-then-v-le2047 : goal.returns-then-v-le2047
unfolding filled encode
returns-then-v-le2047 c = search tests

pub returns-then-v-le65535 : goal.returns-then-v-le65535
unfolding filled encode
returns-then-v-le65535 c = search tests

pub returns : goal.returns
unfolding filled encode
returns c = search tests
