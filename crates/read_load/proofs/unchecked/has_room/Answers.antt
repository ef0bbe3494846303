-- `read_load::unchecked::has_room` meets its contract.
use Rattle.read_load.proofs.Ways.{room_same}
use Rattle.read_load.proofs.unchecked.has_room.Goals as goal

pub returns : goal.returns
returns c = room_same _ _
