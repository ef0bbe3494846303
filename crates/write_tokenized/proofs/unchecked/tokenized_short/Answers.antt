-- `write_tokenized::unchecked::tokenized_short` meets its contract.
use Rattle.write_items.proofs.Room.{limited, short_most, short_enough, short_needed}
use Rattle.write_tokenized.proofs.Most.{line_most}
use Rattle.write_tokenized.proofs.unchecked.tokenized_short.Goals as goal

pub most-requires : goal.most-requires
most-requires c = limited c.requires

pub returns-then-most-room : goal.returns-then-most-room
returns-then-most-room c = short_most _ _ _ (rw c.most.ensures (line_most c.requires)) c.if-most-room.true

pub returns-then-room-needed : goal.returns-then-room-needed
returns-then-room-needed c = short_needed _ _ c.tokenized_len-needed.ensures c.if-room-needed.true

pub returns : goal.returns
returns c = short_enough _ _ c.tokenized_len-needed.ensures c.if-room-needed.false
