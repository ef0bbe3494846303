-- `write::write_partial_annotation_text` meets its contract.
use mathlib.Core.Path.{refl}
use Rattle.write_items.proofs.Room.{short_none}
use Rattle.write.proofs.Laws.{sound, put_13, put_12, put_line}
use Rattle.write.proofs.write_partial_annotation_text.Goals as goal

pub returns-then-not-check : goal.returns-then-not-check
returns-then-not-check c = put_13 _ _ _ _ _ _ c.check.ensures c.if-not-check.true

pub partial_short-requires : goal.partial_short-requires
partial_short-requires c = sound c.check.ensures c.if-not-check.false

pub returns-in-Some : goal.returns-in-Some
returns-in-Some c = put_12 _ _ _ _ _ _ c.check.ensures c.if-not-check.false refl c.partial_short.ensures c.in-Some.is c.short.ensures

pub partial_into-requires : goal.partial_into-requires
partial_into-requires c = (sound c.check.ensures c.if-not-check.false, short_none _ _ c.partial_short.ensures c.in_default.is)

pub returns : goal.returns
returns c = put_line _ _ _ _ _ _ c.check.ensures c.if-not-check.false refl c.partial_short.ensures c.in_default.is c.partial_into.ensures
