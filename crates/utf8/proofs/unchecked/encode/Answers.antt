-- `utf8::unchecked::encode` meets its contract.
use Rattle.utf8.proofs.Codec.{scalar_small}
use Rattle.utf8.proofs.unchecked.encode.Goals as goal

pub bytes_of-requires : goal.bytes_of-requires
bytes_of-requires c = search scalar_small
