-- `lookups::char_to_str_pos` meets its contract.
use Rattle.std.specs.Prelude.{Ok}
use mathlib.Core.Path.{ap}
use borrow.Author.Tests.{lt-ltb, le-ltb}
use Rattle.sheet.proofs.Look.{refuses_13, found, refuses_14, serves}
use Rattle.lookups.specs.Answers.{char_to_str_pos_of}
use Rattle.lookups.proofs.char_to_str_pos.Goals as goal

pub returns-then-not-check : goal.returns-then-not-check
unfolding char_to_str_pos_of
returns-then-not-check c = refuses_13 _ _ _ _ _ _ c.check.ensures c.if-not-check.true

pub returns-then-i-r : goal.returns-then-i-r
unfolding char_to_str_pos_of
returns-then-i-r c =
    let f = found _ _ _ c.check.ensures c.if-not-check.false in
    refuses_14 f _ _ _ c.outside.ensures (rw (← f.limits.n_is) (lt-ltb _ _ c.if-i-r.true))

pub char_to_str_pos-requires : goal.char_to_str_pos-requires
char_to_str_pos-requires c = ((found _ _ _ c.check.ensures c.if-not-check.false).sheet, c.if-i-r.false)

pub returns : goal.returns
unfolding char_to_str_pos_of
returns c =
    let f = found _ _ _ c.check.ensures c.if-not-check.false in
    serves f _ _ _ (rw (← f.limits.n_is) (le-ltb _ _ c.if-i-r.false)) (ap Ok c.char_to_str_pos.ensures)
