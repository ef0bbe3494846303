-- `lookups::str_to_char_pos` meets its contract.
use borrow.Author.Tests.{lt-ltb}
use Rattle.sheet.proofs.Look.{refuses_13, found, refuses_14}
use Rattle.lookups.specs.Answers.{str_to_char_pos_of}
use Rattle.lookups.proofs.str_to_char_pos.Goals as goal

pub returns-then-not-check : goal.returns-then-not-check
unfolding str_to_char_pos_of
returns-then-not-check c = refuses_13 _ _ _ _ _ _ c.check.ensures c.if-not-check.true

pub returns-then-p-r : goal.returns-then-p-r
unfolding str_to_char_pos_of
returns-then-p-r c =
    let f = found _ _ _ c.check.ensures c.if-not-check.false in
    refuses_14 f _ _ _ c.outside.ensures (rw (← f.limits.b_is, lt-ltb _ _ c.if-p-r.true))

pub str_to_char_pos-requires : goal.str_to_char_pos-requires
str_to_char_pos-requires c = ((found _ _ _ c.check.ensures c.if-not-check.false).sheet, c.if-p-r.false)

pub returns : goal.returns
returns c = rw (found _ _ _ c.check.ensures c.if-not-check.false).is c.str_to_char_pos.ensures
