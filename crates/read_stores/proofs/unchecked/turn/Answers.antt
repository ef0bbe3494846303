-- `read_stores::unchecked::turn` meets its contract.
use native.Mathlib.Omega.{arith}
use Rattle.sheet.specs.Views.{contents}
use Rattle.read_stores.proofs.Turns.{LetterRoom, letter_room, letter_stored, skip_stored, opens_room, opens_stored, tag_room, tag_stored}
use Rattle.read_stores.proofs.unchecked.turn.Goals as goal
use Rattle.read_stores.proofs.unchecked.turn.Goals.{In-Letter}

-- the room of a character of the text
roomy : (c : In-Letter) → let a = c.args in LetterRoom a.columns c.in-Letter.m a.c a.counts a.bytes.now (contents a.buffers.now)
roomy c = letter_room _ _ _ _ _ _ _ c.in-Letter.is c.requires

pub copy-requires : goal.copy-requires
copy-requires c = let l = roomy (goal.at.copy-requires c).In-Letter in (l.some, l.few, l.text_room)

pub bounds-buffers-n : goal.bounds-buffers-n
bounds-buffers-n c = (roomy (goal.at.bounds-buffers-n c).In-Letter).types_room

pub boundary-requires : goal.boundary-requires
boundary-requires c = (roomy (goal.at.boundary-requires c).In-Letter).boundaries_room

pub bounds-buffers-n-in-Letter : goal.bounds-buffers-n-in-Letter
bounds-buffers-n-in-Letter c = (roomy (goal.at.bounds-buffers-n-in-Letter c).In-Letter).char_pos_room

pub number-requires : goal.number-requires
number-requires c = let l = roomy (goal.at.number-requires c).In-Letter in (omega (arith, l.small), l.some, l.few, l.byte_pos_room)

pub end_row-requires : goal.end_row-requires
end_row-requires c = (roomy (goal.at.end_row-requires c).In-Letter).row_room

pub end_tag-requires : goal.end_tag-requires
end_tag-requires c = opens_room _ _ _ _ _ _ c.in-Opens.is c.requires

pub keep-requires : goal.keep-requires
keep-requires c = (c.requires.some, c.requires.few, tag_room _ _ _ _ _ _ c.in-OfTag.is c.requires)

pub returns-in-Skip-clause-stored : goal.returns-in-Skip-clause-stored
returns-in-Skip-clause-stored c = skip_stored _ _ _ c.in-Skip.is

pub returns-in-Letter-clause-stored : goal.returns-in-Letter-clause-stored
returns-in-Letter-clause-stored c =
    letter_stored _ _ _ _ _ c.in-Letter.is c.requires c.copy.ensures c.get_type.ensures c.boundary.ensures c.number.ensures c.end_row.ensures

pub returns-in-Opens-clause-stored : goal.returns-in-Opens-clause-stored
returns-in-Opens-clause-stored c = opens_stored _ _ _ c.in-Opens.is c.end_tag.ensures

pub returns-in-OfTag-clause-stored : goal.returns-in-OfTag-clause-stored
returns-in-OfTag-clause-stored c = tag_stored _ _ _ _ c.in-OfTag.is c.requires c.keep.ensures
