-- `convert_buffers::unchecked::through` meets its contract: the buffers hold what was read, and it is written from them.
use Rattle.convert_buffers.proofs.Rooms.{fill_fits, fill_sheet}
use Rattle.convert_buffers.proofs.Passed.{through_written}
use Rattle.convert_buffers.proofs.unchecked.through.Goals as goal

pub fill-requires : goal.fill-requires
fill-requires c = search fill_fits

pub write_as-requires : goal.write_as-requires
write_as-requires c = (c.requires.0, fill_sheet _ _ c.requires.1 c.requires.2 c.fill.ensures.filled)

pub returns : goal.returns
returns c = through_written _ _ _ _ c.requires.1 c.requires.2 c.fill.ensures.filled c.write_as.ensures
