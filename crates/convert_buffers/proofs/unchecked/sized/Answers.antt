-- `convert_buffers::unchecked::sized` meets its contract: its arrays are wide enough for fewer than so many bytes and at most so many cells.
use Rattle.convert_buffers.proofs.Rooms.{zeros_wide}
use Rattle.convert_buffers.proofs.unchecked.sized.Goals as goal

pub through-requires : goal.through-requires
through-requires g c = (c.requires.0, c.requires.1, zeros_wide _ _ _ _ c.requires.2 c.requires.4)
