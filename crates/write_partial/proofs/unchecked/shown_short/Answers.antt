-- `write_partial::unchecked::shown_short` meets its contract.
use Rattle.write_items.proofs.Room.{limited, short_most, short_enough, short_needed}
use Rattle.write_partial.proofs.Count.{line_most}
use Rattle.write_partial.proofs.unchecked.shown_short.Goals as goal

pub most-requires : goal.most-requires
most-requires c = limited c.requires.0

pub returns-then-most-room : goal.returns-then-most-room
returns-then-most-room c = short_most _ _ _ (rw c.most.ensures (line_most c.requires.0 _ _ _ c.requires.1.narrow)) c.if-most-room.true

pub returns-then-room-needed : goal.returns-then-room-needed
returns-then-room-needed c = short_needed _ _ c.shown_len-needed.ensures c.if-room-needed.true

pub returns : goal.returns
returns c = short_enough _ _ c.shown_len-needed.ensures c.if-room-needed.false
