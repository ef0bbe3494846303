-- `write::write_tokenized_text` meets its contract.
use mathlib.Core.Path.{refl}
use Rattle.write_items.proofs.Room.{short_none}
use Rattle.write.proofs.Laws.{sound, put_13, put_12, put_line}
use Rattle.write.proofs.write_tokenized_text.Goals as goal

pub returns-then-not-check : goal.returns-then-not-check
returns-then-not-check c = put_13 _ _ _ _ _ _ c.check.ensures c.if-not-check.true

pub tokenized_short-requires : goal.tokenized_short-requires
tokenized_short-requires c = sound c.check.ensures c.if-not-check.false

pub returns-in-Some : goal.returns-in-Some
returns-in-Some c = put_12 _ _ _ _ _ _ c.check.ensures c.if-not-check.false refl c.tokenized_short.ensures c.in-Some.is c.short.ensures

pub tokenized_into-requires : goal.tokenized_into-requires
tokenized_into-requires c = (sound c.check.ensures c.if-not-check.false, short_none _ _ c.tokenized_short.ensures c.in_default.is)

pub returns : goal.returns
returns c = put_line _ _ _ _ _ _ c.check.ensures c.if-not-check.false refl c.tokenized_short.ensures c.in_default.is c.tokenized_into.ensures
