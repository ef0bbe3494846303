-- `convert_buffers::unchecked::writing::write_as` meets its contract: the line is written where it fits, and refused with 12 else.
use Rattle.convert_buffers.proofs.Written.{writing_short, writing_room, writing_done}
use borrow.Author.Rules.{rules}
use Rattle.convert_buffers.proofs.unchecked.writing.write_as.Goals as goal

pub returns-in-Some : goal.returns-in-Some
returns-in-Some c = search writing_short

pub line_as-requires : goal.line_as-requires
line_as-requires c = (search rules, search rules, search writing_room)

pub returns-in-None : goal.returns-in-None
returns-in-None c = search writing_done
